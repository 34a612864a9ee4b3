use native.Mathlib.Omega.{arith}
use Rattle.tables.specs.Search.{searched}
use Rattle.tables.proofs.Halving.{going_start, going_left, going_right, going_here, going_done}
use Rattle.tables.proofs.Pairs.{pair_left, pair_right, pair_here}
use Rattle.tables.proofs.records.search_inside.Goals as goal

pub loop-lo-init : goal.loop-lo-init
unfolding searched
loop-lo-init c = (omega arith, going_start _ _)

pub loop-lo-preserved-then-key-pair : goal.loop-lo-preserved-then-key-pair
loop-lo-preserved-then-key-pair c = (
  omega (arith, c.loop-lo.invariant.0),
  going_left c.loop-lo.invariant.1 c.loop-lo-test.true (pair_left _ _ _ _ (omega (arith, c.loop-lo.invariant.0)) c.pair_at-pair.ensures c.if-key-pair.true),
)

pub loop-lo-preserved : goal.loop-lo-preserved
loop-lo-preserved c = (
  c.loop-lo.invariant.0,
  going_right c.loop-lo.invariant.1 c.loop-lo-test.true (pair_right _ _ _ _ (omega (arith, c.loop-lo.invariant.0)) c.pair_at-pair.ensures c.if-pair-key.true),
)

pub returns-else-pair-key : goal.returns-else-pair-key
returns-else-pair-key c =
    going_here c.loop-lo.invariant.1 c.loop-lo-test.true
    (pair_here _ _ _ _ (omega (arith, c.loop-lo.invariant.0)) c.pair_at-pair.ensures c.if-key-pair.false c.if-pair-key.false)

pub returns : goal.returns
returns c = going_done c.loop-lo.invariant.1 c.loop-lo-test.false
