-- The exported pairs and steps of kern and kerx: how a kerning state crosses as numbers, and what is left in the numbers lent.
use Rattle.std.specs.Prelude.{ℕ, ◌+◌, List, ◌∷◌, ℤ, get_or}
use Rattle.laws.specs.Choose.{if_lt}
use Rattle.laws.specs.Lists.{tab}
use Rattle.kerning.specs.declared.choices.Choices.{Choices}
use Rattle.kerning_machine.specs.Machine.{Stepped}
use Rattle.kerning_machine.specs.declared.KerningState.{KerningState}
use Rattle.kerning_machine.specs.declared.KerningStep.{KerningStep}
use Rattle.kern_machine.specs.Machine as Kern
use Rattle.kerx_machine.specs.Machine as Kerx
use Rattle.firmware.specs.Steps.{unless_refused}

-- a state that no step hands back, and that STATE refuses
abbrev pub no_kerning : KerningState
no_kerning = record { state = 0; stack = tab (λ slot. 0) 8; depth = 0; cycles = 0xFFFF }

-- state, depth, cycles, 8 places of the stack; a number beyond its field's width makes such a state
unfoldable pub kerning_from : List ℕ → KerningState
kerning_from slots =
    if_lt 0xFFFF (get_or slots 0 0) no_kerning
    (if_lt 0xFFFF (get_or slots 2 0) no_kerning
    (record { state = get_or slots 0 0; stack = tab (λ slot. get_or slots (3 + slot) 0) 8; depth = get_or slots 1 0; cycles = get_or slots 2 0 }))

unfoldable pub kerning_slots : KerningState → List ℕ
kerning_slots s = s.state ∷ s.depth ∷ s.cycles ∷ tab (λ slot. get_or s.stack slot 0) 8

-- the numbers lent for the state and for the advance, afterwards: the step's, or as they were where it was refused
abbrev pub state_after : KerningStep → List ℕ → List ℕ
state_after step was = unless_refused step.answer was (kerning_slots step.state)

abbrev pub advance_after : KerningStep → ℕ → ℕ
advance_after step was = unless_refused step.answer was step.advance

-- the step from the state that the numbers say, with what it adds
unfoldable pub kern_stepped : List ℕ → (start version : ℕ) → (slots : List ℕ) → (used index glyph : ℕ) → List ℤ → Stepped
kern_stepped table start version slots used index glyph along = Kern.step_call table start version (kerning_from slots) used index glyph along

unfoldable pub kerx_stepped : List ℕ → (start version : ℕ) → (slots : List ℕ) → (used index glyph : ℕ) → List ℤ → Choices → Stepped
kerx_stepped table start version slots used index glyph along choices =
    Kerx.step_call table start version (kerning_from slots) used index glyph along choices.reading
