use native.Mathlib.Omega.{arith}
use mathlib.Core.Path.{sym, ◌∙◌}
use Rattle.tables.proofs.Halving.{going_left, going_right, going_here, going_cut, going_done}
use Rattle.tables.proofs.records.halve.Goals as goal

pub loop-lo-preserved-in-Left : goal.loop-lo-preserved-in-Left
loop-lo-preserved-in-Left g c = (
  omega (arith, c.loop-lo.invariant.0),
  λ sides h. going_left (c.loop-lo.invariant.1 sides h) c.loop-lo-test.true (sym (h _ _ (omega (arith, c.loop-lo.invariant.0)) c.side.ensures) ∙ c.in-Left.is),
)

pub loop-lo-preserved : goal.loop-lo-preserved
loop-lo-preserved g c = (
  c.loop-lo.invariant.0,
  λ sides h. going_right (c.loop-lo.invariant.1 sides h) c.loop-lo-test.true (sym (h _ _ (omega (arith, c.loop-lo.invariant.0)) c.side.ensures) ∙ c.in-Right.is),
)

pub returns-in-Here : goal.returns-in-Here
returns-in-Here g c =
    λ sides h. going_here (c.loop-lo.invariant.1 sides h) c.loop-lo-test.true (sym (h _ _ (omega (arith, c.loop-lo.invariant.0)) c.side.ensures) ∙ c.in-Here.is)

pub returns-in-Cut : goal.returns-in-Cut
returns-in-Cut g c =
    λ sides h. going_cut (c.loop-lo.invariant.1 sides h) c.loop-lo-test.true (sym (h _ _ (omega (arith, c.loop-lo.invariant.0)) c.side.ensures) ∙ c.in-Cut.is)

pub returns : goal.returns
returns g c = λ sides h. going_done (c.loop-lo.invariant.1 sides h) c.loop-lo-test.false
