use native.Mathlib.Omega.{arith}
use Rattle.pairs.proofs.Passes.{sized, joining_start, joining_next, joining_less, joining_done, joining_small, joining_long, joining_longer}
use Rattle.pairs.proofs.add_pairs.Goals as goal

pub overflow_add-before : goal.overflow_add-before
overflow_add-before c = omega (arith, c.next_place-before.ensures.within)

pub loop-from-init : goal.loop-from-init
loop-from-init c = joining_start _ _ _ _ _ c.next_place-before.ensures c.next_place-from.ensures

pub add_stretch-requires : goal.add_stretch-requires
add_stretch-requires c =
    let longer = joining_longer _ _ _ c.loop-from.invariant c.loop-from-test.true c.stretch_end-stop.ensures in
    (c.loop-from.invariant.begun c.loop-from-test.true, omega (arith, longer), omega (arith, c.stretch_end-stop.ensures.within), omega (arith, c.stretch_end-stop.ensures.within, joining_long _ _ _ c.loop-from.invariant), omega (arith, c.stretch_end-stop.ensures.within), joining_small _ _ _ (sized _ _) c.loop-from.invariant c.requires.2 c.requires.3)

pub overflow_sub-before : goal.overflow_sub-before
overflow_sub-before c =
    omega (arith, joining_longer _ _ _ c.loop-from.invariant c.loop-from-test.true c.stretch_end-stop.ensures)

pub loop-from-smaller : goal.loop-from-smaller
loop-from-smaller c =
    joining_less _ _ _ c.loop-from.invariant c.loop-from-test.true c.stretch_end-stop.ensures c.next_place-from-in-loop-from.ensures

pub loop-from-preserved : goal.loop-from-preserved
loop-from-preserved c =
    joining_next _ _ _ c.loop-from.invariant c.loop-from-test.true c.stretch_end-stop.ensures c.add_stretch.ensures c.next_place-from-in-loop-from.ensures

pub shape_of-along : goal.shape_of-along
shape_of-along c = joining_long _ _ _ c.loop-from.invariant

pub returns : goal.returns
returns c = joining_done _ _ _ c.loop-from.invariant c.loop-from-test.false
