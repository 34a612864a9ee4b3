-- What the exported entries of anchored marks leave, from the functions that they call.
use Prim.Native.Nat.{ℕ}
use mathlib.Core.Path.{◌≡◌, ◌∙◌, ap, ap₂}
use mathlib.Core.Bool.{Bool}
use mathlib.Core.List.{List}
use lib.IntN.{ℤ}
use Rattle.answers.specs.Numbers.{number_of}
use Rattle.answers.specs.declared.Answer.{Answer}
use Rattle.line.specs.Line.{Line}
use Rattle.tables.specs.declared.units.Reading.{Reading}
use Rattle.kerning.specs.Additions.{add_all}
use Rattle.kerning.specs.declared.choices.Choices.{Choices}
use Rattle.anchor_machine.specs.Writes.{Write}
use Rattle.anchor_machine.specs.declared.AnchorState.{AnchorState}
use Rattle.anchor_machine.specs.declared.AnchorStep.{AnchorStep}
use Rattle.kerx.specs.Anchored.{AnchoredRan, pass_call, run_call, step_call, step_writes}
use Rattle.firmware.specs.Anchored.{anchor_from, state_after, advance_after, anchor_stepped, anchor_writes}

-- a pass and a run by choices that are known
module _ (table ankr : List ℕ) (start : ℕ) (l : Line) (along x y : List ℤ) (back : List ℕ) {choices known : Choices} (k : choices ≡ known) where
  module _ (version : ℕ) where
    pub pass-answers : {answer : Answer} → answer ≡ (pass_call table ankr start version l along x y back choices).answer
        → answer ≡ (pass_call table ankr start version l along x y back known).answer
    pass-answers e = e ∙ ap (λ (c : Choices). (pass_call table ankr start version l along x y back c).answer) k

    pub pass-adds : (before : List ℤ) {after : List ℤ} → after ≡ add_all (pass_call table ankr start version l along x y back choices).additions before
        → after ≡ add_all (pass_call table ankr start version l along x y back known).additions before
    pass-adds before e = e ∙ ap (λ (c : Choices). add_all (pass_call table ankr start version l along x y back c).additions before) k

    pub pass-writes : {A : Type 0} (part : List Write → List A → List A) {before after : List A}
        → after ≡ part (pass_call table ankr start version l along x y back choices).writes before
        → after ≡ part (pass_call table ankr start version l along x y back known).writes before
    pass-writes part {before} e = e ∙ ap (λ (c : Choices). part (pass_call table ankr start version l along x y back c).writes before) k

  pub run-known : {A : Type 0} (rtl : Bool) (of : AnchoredRan → A) {left : A} → left ≡ of (run_call table ankr start rtl l along x y back choices)
      → left ≡ of (run_call table ankr start rtl l along x y back known)
  run-known rtl of e = e ∙ ap (λ (c : Choices). of (run_call table ankr start rtl l along x y back c)) k

-- the step is made from the state that the numbers say, in the reading that is chosen
module _ (table ankr : List ℕ) (start version : ℕ) (slots : List ℕ) (used index glyph : ℕ) (along x y : List ℤ) (back : List ℕ) {given : AnchorState}
    (g : given ≡ anchor_from slots) (choices : Choices) {reading : Reading} (r : reading ≡ choices.reading) where
  pub step_is : {step : AnchorStep} → step ≡ step_call table ankr start version given used index glyph along x y back reading
      → step ≡ anchor_stepped table ankr start version slots used index glyph along x y back choices
  unfolding anchor_stepped
  step_is e = e ∙ ap₂ (λ (s : AnchorState) (z : Reading). step_call table ankr start version s used index glyph along x y back z) g r

  pub step-writes : {A : Type 0} (part : List Write → List A → List A) {before after : List A}
      → after ≡ part (step_writes table ankr start version given used index glyph along x y back reading) before
      → after ≡ part (anchor_writes table ankr start version slots used index glyph along x y back choices) before
  unfolding anchor_writes
  step-writes part {before} e =
      e ∙ ap₂ (λ (s : AnchorState) (z : Reading). part (step_writes table ankr start version s used index glyph along x y back z) before) g r

-- what was put is the defined step's
module _ {step whole : AnchorStep} (e : step ≡ whole) where
  pub answer_is : {n : ℕ} → n ≡ number_of step.answer → n ≡ number_of whole.answer
  answer_is n = n ∙ ap (λ (s : AnchorStep). number_of s.answer) e

  pub state_is : (was : List ℕ) {new : List ℕ} → new ≡ state_after step was → new ≡ state_after whole was
  state_is was n = n ∙ ap (λ (s : AnchorStep). state_after s was) e

  pub advance_is : (was : ℕ) {new : ℕ} → new ≡ advance_after step was → new ≡ advance_after whole was
  advance_is was n = n ∙ ap (λ (s : AnchorStep). advance_after s was) e
