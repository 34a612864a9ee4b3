use Rattle.line.proofs.Loops.{joining_next}
use Rattle.line.proofs.edits.ligate.Goals as goal

pub loop-part-preserved : goal.loop-part-preserved
loop-part-preserved c = search joining_next
