use lib.Dec.{eqb}
use lib.ListN.{get_or}
use Rattle.line.proofs.Tests.{every_next}
use Rattle.line.proofs.valid.in_order.Goals as goal

pub loop-p-preserved : goal.loop-p-preserved
loop-p-preserved c = every_next (λ i. eqb (get_or c.args.tags.now i 0) i) c.loop-p.p c.loop-p.invariant
