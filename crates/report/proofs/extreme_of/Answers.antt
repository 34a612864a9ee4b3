use Rattle.report.proofs.Sums.{choosing-start, choosing-goes, extreme_none, extreme_done}
use Rattle.report.proofs.extreme_of.Goals as goal

pub returns-then-used-eq0 : goal.returns-then-used-eq0
returns-then-used-eq0 g c = extreme_none _ _ _ c.if-used-eq0.true

pub loop-place-init : goal.loop-place-init
loop-place-init g c =
    choosing-start g.C.Choice.chosen g.C.Choice.one _ _ c.requires.1 c.requires.0 c.if-used-eq0.false

pub loop-place-preserved : goal.loop-place-preserved
loop-place-preserved g c =
    choosing-goes g.C.Choice.chosen g.C.Choice.one _ _ c.requires.1 c.requires.0 c.loop-place.invariant c.loop-place-test.true c.choose-kept.ensures

pub returns : goal.returns
returns g c = extreme_done _ _ _ _ _ c.loop-place.invariant c.loop-place-test.false
