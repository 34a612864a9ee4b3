-- The exported step of anchored marks: how its state crosses as numbers, and what is left in the numbers lent.
use Rattle.std.specs.Prelude.{ℕ, List, [], ◌∷◌, ℤ, get_or}
use Rattle.laws.specs.Choose.{if_lt}
use Rattle.kerning.specs.declared.choices.Choices.{Choices}
use Rattle.anchor_machine.specs.Writes.{Write}
use Rattle.anchor_machine.specs.declared.AnchorState.{AnchorState}
use Rattle.anchor_machine.specs.declared.AnchorStep.{AnchorStep}
use Rattle.kerx.specs.Anchored.{step_call, step_writes}
use Rattle.firmware.specs.Steps.{unless_refused}

-- a state that no step hands back, and that STATE refuses
abbrev pub no_anchor : AnchorState
no_anchor = record { state = 0; mark = 0; glyph = 0; cycles = 0xFFFF }

-- state, mark, its glyph, cycles; a number beyond its field's width makes such a state
unfoldable pub anchor_from : List ℕ → AnchorState
anchor_from slots =
    if_lt 0xFFFF (get_or slots 0 0) no_anchor
    (if_lt 0xFFFF (get_or slots 2 0) no_anchor
    (if_lt 0xFFFF (get_or slots 3 0) no_anchor
    (record { state = get_or slots 0 0; mark = get_or slots 1 0; glyph = get_or slots 2 0; cycles = get_or slots 3 0 })))

unfoldable pub anchor_slots : AnchorState → List ℕ
anchor_slots s = s.state ∷ s.mark ∷ s.glyph ∷ s.cycles ∷ []

-- the numbers lent for the state and for the advance, afterwards: the step's, or as they were where it was refused
abbrev pub state_after : AnchorStep → List ℕ → List ℕ
state_after step was = unless_refused step.answer was (anchor_slots step.state)

abbrev pub advance_after : AnchorStep → ℕ → ℕ
advance_after step was = unless_refused step.answer was step.advance

-- the step from the state that the numbers say, and what it writes
unfoldable pub anchor_stepped : (table ankr : List ℕ) → (start version : ℕ) → (slots : List ℕ) → (used index glyph : ℕ) → List ℤ → (x y : List ℤ) → (back : List ℕ)
    → Choices → AnchorStep
anchor_stepped table ankr start version slots used index glyph along x y back choices =
    step_call table ankr start version (anchor_from slots) used index glyph along x y back choices.reading

unfoldable pub anchor_writes : (table ankr : List ℕ) → (start version : ℕ) → (slots : List ℕ) → (used index glyph : ℕ) → List ℤ → (x y : List ℤ) → (back : List ℕ)
    → Choices → List Write
anchor_writes table ankr start version slots used index glyph along x y back choices =
    step_writes table ankr start version (anchor_from slots) used index glyph along x y back choices.reading
