use Rattle.kerning_machine.proofs.Acting.{next_by_class}
use Rattle.kerning_machine.proofs.Loops.{place-begins, place-left, place-over, place-goes, place_falls}
use Rattle.kerning_machine.proofs.Passes.{going_start, going_long, going_within, going_end}
use Rattle.kerning_machine.proofs.Classes.{memory_start}
use native.Mathlib.Omega.{arith}
use Rattle.kerning_machine.proofs.pass.Goals as goal

pub loop-place-init : goal.loop-place-init
loop-place-init g c = (going_start _ _ _ _ _ _ _ c.new-state.ensures, memory_start _ _ c.nothing_found-memo.ensures)

pub class_by-class-requires : goal.class_by-class-requires
class_by-class-requires g c = (c.requires.2, c.loop-place.invariant.1)

pub loop-advance-init : goal.loop-advance-init
loop-advance-init g c = place-begins _ _ _ _ _ c.loop-place.place c.loop-place.invariant.0

pub next-requires : goal.next-requires
next-requires g c =
    let p = c.loop-advance.invariant.going in
    (c.requires.0, c.requires.1, (p.deep, omega (arith, going_long _ _ _ _ _ p), going_within _ _ _ _ _ p c.requires.3.2 c.requires.3.3))

pub shape_of-along-in_default : goal.shape_of-along-in_default
shape_of-along-in_default g c = omega (arith, going_long _ _ _ _ _ c.loop-advance.invariant.going, c.next.auto.along)

pub returns-in_default : goal.returns-in_default
returns-in_default g c =
    let d = next_by_class _ _ _ _ _ _ _ _ c.next.new.self c.class_by-class.ensures.class c.in_default.is c.next.ensures.step c.next.ensures.along in
    let e = place-over _ _ _ _ _ c.loop-place.place c.loop-advance.invariant c.loop-advance-test.true c.loop-place-test.true d in
    record { answer = e.answers; along = e.leaves }

pub loop-advance-smaller : goal.loop-advance-smaller
loop-advance-smaller g c =
    let d = next_by_class _ _ _ _ _ _ _ _ c.next.new.self c.class_by-class.ensures.class c.in-Some.is c.next.ensures.step c.next.ensures.along in
    place_falls _ _ _ _ _ c.loop-place.place c.loop-advance.invariant c.loop-advance-test.true c.loop-place-test.true d

pub loop-advance-preserved : goal.loop-advance-preserved
loop-advance-preserved g c =
    let d = next_by_class _ _ _ _ _ _ _ _ c.next.new.self c.class_by-class.ensures.class c.in-Some.is c.next.ensures.step c.next.ensures.along in
    place-goes _ _ _ _ _ c.loop-place.place c.loop-advance.invariant c.loop-advance-test.true c.loop-place-test.true d

pub loop-place-preserved : goal.loop-place-preserved
loop-place-preserved g c = (place-left _ _ _ _ _ c.loop-place.place c.loop-advance.invariant c.loop-advance-test.false, c.class_by-class.ensures.memo)

pub shape_of-along : goal.shape_of-along
shape_of-along g c = omega (arith, going_long _ _ _ _ _ c.loop-place.invariant.0)

pub returns : goal.returns
returns g c = let e = going_end _ _ _ _ _ c.loop-place.invariant.0 c.loop-place-test.false in
    record { answer = e.answers; along = e.leaves }
