use Prim.Native.Nat.{suc}
use mathlib.Core.Path.{◌≡◌}
use native.Mathlib.Omega.{arith}
use borrow.Author.Tests.{lt-ltb}
use Rattle.ligature.proofs.Acting.{acting_start, acting_out, acting_ended, acting_number, acting_stops}
use Rattle.ligature.proofs.act.Goals as goal
use Rattle.ligature.proofs.act.Goals.{else-loop-number-test, then-loop-number-test+in_default, then-loop-number-test+in-Some+in_ok-action+then-turn, then-turn-via-then-turn, then-turn-via-else-turn+then-cycles-gt-ACTIONS, then-loop-number-test+in-Some+in_ok-action+else-turn+else-cycles-gt-ACTIONS+else-number-lt65535}

pub loop-number-init : goal.loop-number-init
loop-number-init c = acting_start _ _ _ _ _ c.requires.1 c.ranges.first.fits

pub returns-in_err-action-clause-leaves : goal.returns-in_err-action-clause-leaves
returns-in_err-action-clause-leaves c =
    let h : c.loop-number.at ≡ suc c.in-Some.slot = omega (arith, c.in-Some.ensures) in
    rw c.from_residual.ensures (acting_ended _ _ _ _ _ c.loop-number.invariant h c.action_of.ensures.action c.in_err-action.was)

pub returns-clause-leaves : goal.returns-clause-leaves
returns-clause-leaves c =
    elim c.loop-number-test.branch [
      | else-loop-number-test w ↦ absurd (omega (arith, c.loop-number.invariant.counted))
      | then-loop-number-test+in_default w ↦
          let z : c.loop-number.at ≡ 0 = omega (arith, w.in_default.ensures) in
          rw (w.stack-is, w.glyphs-is, w.homes-is, w.at-is, w.cycles-is) (acting_out _ _ _ _ _ c.loop-number.invariant z)
      | then-loop-number-test+in-Some+in_ok-action+then-turn w ↦
          let h : c.loop-number.at ≡ suc w.in-Some.slot = omega (arith, w.in-Some.ensures) in
          rw (w.stack-is, w.glyphs-is, w.homes-is, w.at-is, w.cycles-is)
          (acting_stops _ _ _ _ _ c.loop-number.invariant h w.action_of.ensures.action w.in_ok-action.was w.turn_of-turn.ensures w.make.ensures
          (elim w.then-turn.branch [
            | then-turn-via-then-turn v ↦ rw v.if-turn.true
            | then-turn-via-else-turn+then-cycles-gt-ACTIONS v ↦ rw (v.if-turn.false, lt-ltb 32 _ v.if-cycles-gt-ACTIONS.true)
          ]))
      | then-loop-number-test+in-Some+in_ok-action+else-turn+else-cycles-gt-ACTIONS+else-number-lt65535 w ↦
          let h : c.loop-number.at ≡ suc w.in-Some.slot = omega (arith, w.in-Some.ensures) in
          absurd
          (acting_number _ _ _ _ _ c.loop-number.invariant h w.action_of.ensures.action w.in_ok-action.was w.turn_of-turn.ensures w.make.ensures (omega arith))
    ]
