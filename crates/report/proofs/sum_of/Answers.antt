use Rattle.report.proofs.Sums.{adding-start, adding-fits, adding-next, adding-done}
use Rattle.report.proofs.sum_of.Goals as goal

pub loop-place-init : goal.loop-place-init
loop-place-init c = adding-start _ _

pub sum-total-requires : goal.sum-total-requires
sum-total-requires c =
    adding-fits _ _ c.requires.1.1 c.requires.0 c.requires.1.0 c.loop-place.invariant c.loop-place-test.true

pub loop-place-preserved : goal.loop-place-preserved
loop-place-preserved c =
    adding-next _ _ c.requires.1.1 c.requires.0 c.requires.1.0 c.loop-place.invariant c.loop-place-test.true c.sum-total.ensures

pub returns : goal.returns
returns c = adding-done _ _ c.loop-place.invariant c.loop-place-test.false
