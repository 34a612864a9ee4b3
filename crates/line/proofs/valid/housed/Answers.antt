use lib.Dec.{ltb}
use lib.ListN.{get_or}
use Rattle.line.proofs.Tests.{every_next}
use Rattle.line.proofs.valid.housed.Goals as goal

pub loop-home-preserved : goal.loop-home-preserved
loop-home-preserved c = every_next (λ i. ltb (get_or c.args.homes.now i 0) c.args.used) c.loop-home.home-index c.loop-home.invariant
