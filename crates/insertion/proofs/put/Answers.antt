use Rattle.insertion.proofs.Edits.{put_none}
use Rattle.insertion.proofs.put.Goals as goal

pub returns-in_default : goal.returns-in_default
returns-in_default c = rw c.in_default.is (put_none c.args.bytes.now _)
