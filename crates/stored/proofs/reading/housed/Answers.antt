use Rattle.stored.proofs.Tests.{housing_start, housing_out, housing_next, housing_done}
use Rattle.stored.proofs.reading.housed.Goals as goal

pub loop-c-init : goal.loop-c-init
loop-c-init c = housing_start _ _ _

pub returns-then-used-home : goal.returns-then-used-home
returns-then-used-home c = search housing_out

pub loop-c-preserved : goal.loop-c-preserved
loop-c-preserved c = search housing_next

pub returns : goal.returns
returns c = search housing_done
