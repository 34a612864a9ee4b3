use Rattle.insertion.proofs.Edits.{put_both}
use Rattle.insertion.proofs.edit.Goals as goal

pub returns : goal.returns
returns c = put_both _ _ _ _ _ _ _ c.put-between.ensures c.put.ensures
