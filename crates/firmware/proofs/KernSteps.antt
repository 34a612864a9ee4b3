-- What the exported kerning steps leave: the step's numbers, or those that were lent where it was refused.
use Prim.Native.Nat.{ℕ}
use mathlib.Core.Path.{◌≡◌, sym, ◌∙◌, ap, ap₂}
use mathlib.Core.Bool.{Bool, true, false}
use mathlib.Core.List.{List}
use lib.IntN.{ℤ}
use Rattle.answers.specs.Numbers.{number_of}
use Rattle.tables.specs.declared.units.Reading.{Reading}
use Rattle.kerning.specs.Additions.{add_all}
use Rattle.kerning.specs.declared.choices.Choices.{Choices}
use Rattle.kerning_machine.specs.declared.KerningState.{KerningState}
use Rattle.kerning_machine.specs.declared.KerningStep.{KerningStep}
use Rattle.kern_machine.specs.Machine as Kern
use Rattle.kerx_machine.specs.Machine as Kerx
use Rattle.firmware.specs.Steps.{is_refused}
use Rattle.firmware.specs.KernSteps.{kerning_from, kerning_slots, state_after, advance_after, kern_stepped, kerx_stepped}

-- a step that was refused or was not
module _ (step : KerningStep) {flag : Bool} (f : flag ≡ is_refused step.answer) where
  pub state-kept : (was : List ℕ) → flag ≡ true → was ≡ state_after step was
  state-kept was t = rw (sym f ∙ t)

  made : (was : List ℕ) → flag ≡ false → kerning_slots step.state ≡ state_after step was
  made was t = rw (sym f ∙ t)

  pub state_put : (was : List ℕ) {new : List ℕ} → flag ≡ false → new ≡ kerning_slots step.state → new ≡ state_after step was
  state_put was t n = n ∙ made was t

  pub advance-kept : (was : ℕ) → flag ≡ true → was ≡ advance_after step was
  advance-kept was t = rw (sym f ∙ t)

  pub advance_put : (was : ℕ) → flag ≡ false → step.advance ≡ advance_after step was
  advance_put was t = rw (sym f ∙ t)

-- what was put is the defined step's
module _ {step whole : KerningStep} (e : step ≡ whole) where
  pub answer_is : {n : ℕ} → n ≡ number_of step.answer → n ≡ number_of whole.answer
  answer_is n = n ∙ ap (λ (s : KerningStep). number_of s.answer) e

  pub state_is : (was : List ℕ) {new : List ℕ} → new ≡ state_after step was → new ≡ state_after whole was
  state_is was n = n ∙ ap (λ (s : KerningStep). state_after s was) e

  pub advance_is : (was : ℕ) {new : ℕ} → new ≡ advance_after step was → new ≡ advance_after whole was
  advance_is was n = n ∙ ap (λ (s : KerningStep). advance_after s was) e

-- the step is made from the state that the numbers say
module _ (table : List ℕ) (start version : ℕ) (slots : List ℕ) (length index glyph : ℕ) (along : List ℤ) {given : KerningState} (g : given ≡ kerning_from slots) where
  pub kern_is : {step : KerningStep} → step ≡ (Kern.step_call table start version given length index glyph along).step
      → step ≡ (kern_stepped table start version slots length index glyph along).step
  unfolding kern_stepped
  kern_is e = e ∙ ap (λ (s : KerningState). (Kern.step_call table start version s length index glyph along).step) g

  pub kern-added : {after : List ℤ} → after ≡ add_all (Kern.step_call table start version given length index glyph along).additions along
      → after ≡ add_all (kern_stepped table start version slots length index glyph along).additions along
  unfolding kern_stepped
  kern-added e = e ∙ ap (λ (s : KerningState). add_all (Kern.step_call table start version s length index glyph along).additions along) g

  -- and in the reading that is chosen
  module _ (choices : Choices) {reading : Reading} (r : reading ≡ choices.reading) where
    pub kerx_is : {step : KerningStep} → step ≡ (Kerx.step_call table start version given length index glyph along reading).step
        → step ≡ (kerx_stepped table start version slots length index glyph along choices).step
    unfolding kerx_stepped
    kerx_is e = e ∙ ap₂ (λ (s : KerningState) (x : Reading). (Kerx.step_call table start version s length index glyph along x).step) g r

    pub kerx-added : {after : List ℤ} → after ≡ add_all (Kerx.step_call table start version given length index glyph along reading).additions along
        → after ≡ add_all (kerx_stepped table start version slots length index glyph along choices).additions along
    unfolding kerx_stepped
    kerx-added e = e ∙ ap₂ (λ (s : KerningState) (x : Reading). add_all (Kerx.step_call table start version s length index glyph along x).additions along) g r
