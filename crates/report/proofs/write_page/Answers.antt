use native.Mathlib.Omega.{arith}
use Rattle.report.proofs.Writing.{filled_start, here-fits, sum_may, choose_may, whole-fits, filled_next, filled_all}
use Rattle.report.proofs.write_page.Goals as goal

pub loop-line-init : goal.loop-line-init
loop-line-init c = filled_start _ _ _ _ _ _ c.requires

pub overflow_add-end : goal.overflow_add-end
overflow_add-end c =
    omega (arith, here-fits _ _ _ _ _ _ c.loop-line.invariant c.loop-line-test.true)

pub offset_bounds-along-at : goal.offset_bounds-along-at
offset_bounds-along-at c =
    omega (arith, here-fits _ _ _ _ _ _ c.loop-line.invariant c.loop-line-test.true)

pub slice_bounds-part-end : goal.slice_bounds-part-end
slice_bounds-part-end c =
    omega (arith, here-fits _ _ _ _ _ _ c.loop-line.invariant c.loop-line-test.true)

pub sum_of-line_sum-requires : goal.sum_of-line_sum-requires
sum_of-line_sum-requires c =
    sum_may _ _ _ _ _ _ c.loop-line.invariant c.loop-line-test.true

pub extreme_of-line_most-requires : goal.extreme_of-line_most-requires
extreme_of-line_most-requires c =
    choose_may _ _ _ _ _ _ c.loop-line.invariant c.loop-line-test.true

pub extreme_of-line_least-requires : goal.extreme_of-line_least-requires
extreme_of-line_least-requires c =
    choose_may _ _ _ _ _ _ c.loop-line.invariant c.loop-line-test.true

pub sum-total-requires : goal.sum-total-requires
sum-total-requires c =
    whole-fits _ _ _ _ _ _ c.loop-line.invariant c.loop-line-test.true c.sum_of-line_sum.ensures

pub loop-line-preserved : goal.loop-line-preserved
loop-line-preserved c =
    filled_next _ _ _ _ _ _ c.loop-line.invariant c.loop-line-test.true
    c.sum_of-line_sum.ensures
    c.extreme_of-line_most.ensures
    c.extreme_of-line_least.ensures
    c.sum-total.ensures
    c.extreme_beside-most.ensures
    c.extreme_beside-least.ensures
    c.has_some-some.ensures

pub returns : goal.returns
returns c =
    let all = filled_all _ _ _ _ _ _ c.loop-line.invariant c.loop-line-test.false in
    record { sums = all.0; largest = all.1.0; smallest = all.1.1.0; totals = all.1.1.1 }
