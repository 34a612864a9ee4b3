use Prim.Native.Nat.{◌+◌, ◌-◌}
use mathlib.Core.Path.{◌≡◌}
use native.Mathlib.Omega.{arith}
use Rattle.kerning.proofs.Walking.{walking_start, walking_long, walking_within, walking_short, walking_stop, walking_last, walking_more, walking_inside, walking_done}
use Rattle.kerning.proofs.lists.walk.Goals as goal

pub loop-left-init : goal.loop-left-init
loop-left-init g c = walking_start _ _ _ _ _ _ _ _ c.requires.1

pub returns-in-Short : goal.returns-in-Short
returns-in-Short g c =
    let e = walking_short _ _ _ _ _ c.loop-left.invariant c.loop-left-test.true c.number_at.ensures c.in-Short.is in
    record { left = rw (let d : c.loop-left.left - 1 + 1 ≡ c.loop-left.left = omega arith in d) e.answers; along = e.leaves_them }

pub returns-in-Stop : goal.returns-in-Stop
returns-in-Stop g c =
    let e = walking_stop _ _ _ _ _ c.loop-left.invariant c.loop-left-test.true c.number_at.ensures c.in-Stop.is in
    record { left = rw (let d : c.loop-left.left - 1 + 1 ≡ c.loop-left.left = omega arith in d) e.answers; along = e.leaves_them }

pub add_in_line-requires : goal.add_in_line-requires
add_in_line-requires g c =
    (omega (arith, walking_long _ _ _ _ _ c.loop-left.invariant), walking_within _ _ _ _ _ c.loop-left.invariant c.requires.3)

pub returns-in-Last : goal.returns-in-Last
returns-in-Last g c =
    let e = walking_last _ _ _ _ _ c.loop-left.invariant c.loop-left-test.true c.number_at.ensures c.add_in_line.ensures c.in-Last.is in
    record { left = e.answers; along = e.leaves_them }

pub add_in_line-requires-in-More : goal.add_in_line-requires-in-More
add_in_line-requires-in-More g c =
    (omega (arith, walking_long _ _ _ _ _ c.loop-left.invariant), walking_within _ _ _ _ _ c.loop-left.invariant c.requires.3)

pub overflow_add-next : goal.overflow_add-next
overflow_add-next g c =
    omega (arith, walking_inside _ _ _ _ _ c.loop-left.invariant c.loop-left-test.true c.number_at.ensures c.in-More.is)

pub loop-left-preserved : goal.loop-left-preserved
loop-left-preserved g c =
    walking_more _ _ _ _ _ c.loop-left.invariant c.loop-left-test.true c.number_at.ensures c.add_in_line-in-More.ensures c.in-More.is

pub returns : goal.returns
returns g c =
    let e = walking_done _ _ _ _ _ c.loop-left.invariant c.loop-left-test.false in
    record { left = e.answers; along = e.leaves_them }
