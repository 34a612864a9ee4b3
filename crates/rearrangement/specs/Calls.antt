-- The rearrangement machine on a subtable: how that is opened, which states are refused, and the call of a lone step, which is told the length alone.
use Rattle.std.specs.Prelude.{ℕ, ◌+◌, ◌*◌, ◌-◌, Bool, List, [], ◌∷◌, ltb}
use Rattle.answers.specs.Limits.{room_limit}
use Rattle.answers.specs.Refuse.{Test}
use Rattle.answers.specs.declared.Answer.TheVariants as Answer'
use Rattle.answers.specs.declared.Refusal.TheVariants as Refusal'
use Rattle.machine.specs.Call.{opened, lone_step}
use Rattle.machine.specs.Machine.{Machine}
use Rattle.rearrangement.specs.Rearrangement.{fresh, unmoved, next, stepped}
use Rattle.rearrangement.specs.declared.RearrangementState.{RearrangementState}
use Rattle.rearrangement.specs.declared.RearrangementStep.{RearrangementStep}

-- STATE: a mark above the length, or a cycle count above 17
unfoldable pub state_tests : RearrangementState → (used : ℕ) → List Test
state_tests s used =
    record { holds = ltb used s.first; refusal = Refusal'.State }
    ∷ record { holds = ltb used s.last; refusal = Refusal'.State }
    ∷ record { holds = ltb 17 s.cycles; refusal = Refusal'.State }
    ∷ []

-- as many steps as a pass may have left: 18 for each place, less those that did not advance, and the end call
abbrev pub rearrangement : Machine RearrangementState
rearrangement =
    record {
      opened = λ bytes. opened bytes 0;
      fresh = fresh;
      step = λ classes bytes states s l index glyph ends. stepped (next classes bytes states s index glyph ends);
      rest = λ s l place. (l.used - place) * 18 + (18 - s.cycles);
      state_tests = state_tests;
    }

-- LINE of a lone step: the length is above the room's limit
unfoldable pub length_tests : (used : ℕ) → List Test
length_tests used = record { holds = ltb room_limit used; refusal = Refusal'.Line } ∷ []

-- a lone step by the subtable at `start`; a refused one hands the state back as given
unfoldable pub step_call : List ℕ → (start : ℕ) → RearrangementState → (used index glyph : ℕ) → (ends : Bool) → RearrangementStep
step_call table start s used index glyph ends =
    lone_step rearrangement.opened (λ why. unmoved s (Answer'.Refused why)) table start (length_tests used) used index (state_tests s used)
    (λ classes bytes states. next classes bytes states s index glyph ends)
