use Rattle.line.proofs.Loops.{put_next}
use Rattle.line.proofs.edits.put.Goals as goal

pub loop-k-preserved : goal.loop-k-preserved
loop-k-preserved c = search put_next
