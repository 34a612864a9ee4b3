use Rattle.kerning_machine.proofs.Acting.{next-ended, next-over, next-goes}
use Rattle.kerning_machine.proofs.Loops.{place-begins, place-left, place-over, place-goes, place_falls}
use Rattle.kerning_machine.proofs.Passes.{going_start, going_long, going_within, going_end}
use Rattle.kerning_machine.proofs.Readings.{kern_says, kern_keeps}
use Rattle.state_tables.proofs.Rows.{reached-end, reached-entry}
use Rattle.kerning_machine.specs.declared.Reading.TheVariants.{Kern}
use Prim.Native.Nat.{◌+◌}
use mathlib.Core.Path.{refl}
use native.Mathlib.Omega.{arith}
use Rattle.kerning_machine.proofs.pass_kern.Goals as goal

pub loop-place-init : goal.loop-place-init
loop-place-init c = record { state = 0; at = omega arith; stepping = place-begins _ _ _ _ _ 0 (going_start _ _ _ _ _ _ _ refl) }

pub shape_of-along-in_default : goal.shape_of-along-in_default
shape_of-along-in_default c = omega (arith, going_long _ _ _ _ _ c.loop-advance.invariant.stepping.going)

pub returns-in_default : goal.returns-in_default
returns-in_default c =
    let r = c.loop-advance.invariant in
    let d = next-ended _ _ _ _ _ _ _ _ c.class_in_bytes-class.ensures refl refl (reached-end _ _ _ _ r.state c.requires.0 c.reach.ensures r.at c.in_default.is) refl in
    let e = place-over _ _ _ _ _ c.loop-place.place r.stepping c.loop-advance-test.true c.loop-place-test.true d in
    record { answer = e.answers; along = e.leaves }

pub act-walked-requires : goal.act-walked-requires
act-walked-requires c =
    let p = c.loop-advance.invariant.stepping.going in
    (omega arith, (p.deep, omega (arith, going_long _ _ _ _ _ p), going_within _ _ _ _ _ p c.requires.2.2 c.requires.2.3))

pub shape_of-along-then-walked : goal.shape_of-along-then-walked
shape_of-along-then-walked c = omega (arith, going_long _ _ _ _ _ c.loop-advance.invariant.stepping.going, c.act-walked.auto.along)

pub returns-then-walked : goal.returns-then-walked
returns-then-walked c =
    let r = c.loop-advance.invariant in
    let x = reached-entry _ _ _ _ r.state c.requires.0 c.reach.ensures r.at c.in-Some.is in
    let d = next-over _ _ _ _ _ _ _ _ c.class_in_bytes-class.ensures refl refl _ x.1 (kern_says _ _ _ c.kern_orders-orders.ensures x.3) (c.act-walked.ensures.step (Kern _) (refl, refl)) (c.act-walked.ensures.along (Kern _) (refl, refl)) c.if-walked.true in
    let e = place-over _ _ _ _ _ c.loop-place.place r.stepping c.loop-advance-test.true c.loop-place-test.true d in
    record { answer = e.answers; along = e.leaves }

pub loop-advance-smaller : goal.loop-advance-smaller
loop-advance-smaller c =
    let r = c.loop-advance.invariant in
    let x = reached-entry _ _ _ _ r.state c.requires.0 c.reach.ensures r.at c.in-Some.is in
    let d = next-goes _ _ _ _ _ _ _ _ c.class_in_bytes-class.ensures refl refl _ x.1 (kern_says _ _ _ c.kern_orders-orders.ensures x.3) (c.act-walked.ensures.step (Kern _) (refl, refl)) (c.act-walked.ensures.along (Kern _) (refl, refl)) c.if-walked.false c.stall-stalled.ensures (kern_keeps _ _ c.kern_orders-orders.ensures) in
    place_falls _ _ _ _ _ c.loop-place.place r.stepping c.loop-advance-test.true c.loop-place-test.true d

pub loop-advance-preserved : goal.loop-advance-preserved
loop-advance-preserved c =
    let r = c.loop-advance.invariant in
    let x = reached-entry _ _ _ _ r.state c.requires.0 c.reach.ensures r.at c.in-Some.is in
    let d = next-goes _ _ _ _ _ _ _ _ c.class_in_bytes-class.ensures refl refl _ x.1 (kern_says _ _ _ c.kern_orders-orders.ensures x.3) (c.act-walked.ensures.step (Kern _) (refl, refl)) (c.act-walked.ensures.along (Kern _) (refl, refl)) c.if-walked.false c.stall-stalled.ensures (kern_keeps _ _ c.kern_orders-orders.ensures) in
    record { state = x.0.state; at = x.2; stepping = place-goes _ _ _ _ _ c.loop-place.place r.stepping c.loop-advance-test.true c.loop-place-test.true d }

pub loop-place-preserved : goal.loop-place-preserved
loop-place-preserved c =
    let r = c.loop-advance.invariant in
    record { state = r.state; at = r.at; stepping = place-begins _ _ _ _ _ (c.loop-place.place + 1) (place-left _ _ _ _ _ c.loop-place.place r.stepping c.loop-advance-test.false) }

pub shape_of-along : goal.shape_of-along
shape_of-along c = omega (arith, going_long _ _ _ _ _ c.loop-place.invariant.stepping.going)

pub returns : goal.returns
returns c = let e = going_end _ _ _ _ _ c.loop-place.invariant.stepping.going (omega (arith, c.loop-place-test.false)) in
    record { answer = e.answers; along = e.leaves }
