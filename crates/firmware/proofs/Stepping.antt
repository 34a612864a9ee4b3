-- What an exported step leaves: its numbers, or those that were lent where it was refused. For any machine's step.
use Rattle.std.specs.Prelude.{Option, Some, None}
use Prim.Native.Nat.{ℕ}
use mathlib.Core.Path.{◌≡◌, sym, ◌∙◌, ap, ap₂, subst}
use Rattle.kerning_lists.specs.declared.Run.{Run}
use mathlib.Core.Bool.{Bool, true, false}
use mathlib.Core.List.{List}
use lib.ListN.{set}
use lib.Seq.{paste}
use Rattle.answers.specs.declared.Answer.{Answer}
use Rattle.answers.specs.Numbers.{number_of}
use Rattle.firmware.specs.Steps.{is_refused, unless_refused, is_flag, rearrangement_from, rearrangement_stepped, contextual_from, contextual_stepped, contextual_leaves, insertion_from, insertion_stepped, edit_slots, ligature_from, ligature_slots, ligature_stepped, ligature_leaves}
use Rattle.line.specs.Line.{Line}
use Rattle.ligature.specs.Work as Ligature'
use Rattle.ligature.specs.Calls.{ligature}
use Rattle.ligature.specs.declared.LigatureState.{LigatureState}
use Rattle.ligature.specs.declared.LigatureStep.{LigatureStep}
use Rattle.insertion.specs.Calls as Insertion
use Rattle.insertion.specs.declared.InsertionState.{InsertionState}
use Rattle.insertion.specs.declared.Insertion.{Insertion as Inserted}
use Rattle.insertion.specs.declared.InsertionStep.{InsertionStep}
use Rattle.contextual.specs.Work.{step_of}
use Rattle.contextual.specs.Calls.{contextual}
use Rattle.machine.specs.Machine.{step_call, step_leaves}
use Rattle.contextual.specs.declared.ContextualState.{ContextualState}
use Rattle.contextual.specs.declared.ContextualStep.{ContextualStep}
use Rattle.rearrangement.specs.Calls as Rearrangement
use Rattle.rearrangement.specs.declared.RearrangementState.{RearrangementState}
use Rattle.rearrangement.specs.declared.RearrangementStep.{RearrangementStep}

module _ {Step : Type 0} (answer : Step → Answer) {step whole : Step} (e : step ≡ whole) where
  pub numbered : {n : ℕ} → n ≡ number_of (answer step) → n ≡ number_of (answer whole)
  numbered n = n ∙ ap (λ (s : Step). number_of (answer s)) e

  module _ {flag : Bool} (f : flag ≡ is_refused (answer step)) {A : Type 0} (value : Step → A) (was : A) where
    pub kept : flag ≡ true → was ≡ unless_refused (answer whole) was (value whole)
    kept t = subst (λ (s : Step). was ≡ unless_refused (answer s) was (value s)) e (rw (sym f ∙ t))

    pub put : {new : A} → flag ≡ false → new ≡ value step → new ≡ unless_refused (answer whole) was (value whole)
    put t n = n ∙ subst (λ (s : Step). value step ≡ unless_refused (answer s) was (value s)) e (rw (sym f ∙ t))

pub rearrangement_is : (table : List ℕ) (start : ℕ) (slots : List ℕ) (length index glyph ends : ℕ) {given : RearrangementState} {step : RearrangementStep}
    → given ≡ rearrangement_from slots → step ≡ Rearrangement.step_call table start given length index glyph (is_flag ends)
    → step ≡ rearrangement_stepped table start slots length index glyph ends
unfolding rearrangement_stepped
rearrangement_is table start slots length index glyph ends g e =
    e ∙ ap (λ (s : RearrangementState). Rearrangement.step_call table start s length index glyph (is_flag ends)) g

module _ (table : List ℕ) (start : ℕ) (slots : List ℕ) (l : Line) (index glyph ends : ℕ) {given : ContextualState} (g : given ≡ contextual_from slots) where
  pub contextual_is : {step : ContextualStep} → step ≡ step_of (step_call contextual table start given l index glyph (is_flag ends))
      → step ≡ step_of (contextual_stepped table start slots l index glyph ends)
  unfolding contextual_stepped
  contextual_is e = e ∙ ap (λ (s : ContextualState). step_of (step_call contextual table start s l index glyph (is_flag ends))) g

  pub contextual-left : {glyphs : List ℕ} → glyphs ≡ (step_leaves contextual table start given l index glyph (is_flag ends)).glyphs
      → glyphs ≡ (contextual_leaves table start slots l index glyph ends).glyphs
  unfolding contextual_leaves
  contextual-left e = e ∙ ap (λ (s : ContextualState). (step_leaves contextual table start s l index glyph (is_flag ends)).glyphs) g

pub insertion_is : (table : List ℕ) (start : ℕ) (slots : List ℕ) (length room index glyph ends : ℕ) {given : InsertionState} {step : InsertionStep}
    → given ≡ insertion_from slots → step ≡ Insertion.step_call table start given length room index glyph (is_flag ends)
    → step ≡ insertion_stepped table start slots length room index glyph ends
unfolding insertion_stepped
insertion_is table start slots length room index glyph ends g e =
    e ∙ ap (λ (s : InsertionState). Insertion.step_call table start s length room index glyph (is_flag ends)) g

-- one insertion is told the same way, marked or current
pub one_edit : (marked current : Option Inserted) → marked ≡ None → edit_slots current None ≡ edit_slots marked current
unfolding edit_slots
one_edit marked None e = rw e
one_edit marked (Some only) e = rw e

module _ (table : List ℕ) (start : ℕ) (slots : List ℕ) (l : Line) (index glyph ends : ℕ) {given : LigatureState} (g : given ≡ ligature_from slots) where
  pub ligature_is : {step : LigatureStep} → step ≡ Ligature'.step_of (step_call ligature table start given l index glyph (is_flag ends))
      → step ≡ Ligature'.step_of (ligature_stepped table start slots l index glyph ends)
  unfolding ligature_stepped
  ligature_is e = e ∙ ap (λ (s : LigatureState). Ligature'.step_of (step_call ligature table start s l index glyph (is_flag ends))) g

  pub ligature-left : {A : Type 0} (of : Line → A) {left : A} → left ≡ of (step_leaves ligature table start given l index glyph (is_flag ends))
      → left ≡ of (ligature_leaves table start slots l index glyph ends)
  unfolding ligature_leaves
  ligature-left of e = e ∙ ap (λ (s : LigatureState). of (step_leaves ligature table start s l index glyph (is_flag ends))) g

-- a state of many numbers is written over the one that was lent
module _ {step whole : LigatureStep} (e : step ≡ whole) {flag : Bool} (f : flag ≡ is_refused step.answer) (was : List ℕ) where
  pub kept-ligature : flag ≡ true → was ≡ unless_refused whole.answer was (ligature_slots was whole.state)
  kept-ligature t = kept (λ (s : LigatureStep). s.answer) e f (λ (s : LigatureStep). ligature_slots was s.state) was t

  pub put_ligature : {new : List ℕ} → flag ≡ false → new ≡ ligature_slots was step.state → new ≡ unless_refused whole.answer was (ligature_slots was whole.state)
  put_ligature t n = put (λ (s : LigatureStep). s.answer) e f (λ (s : LigatureStep). ligature_slots was s.state) was t n

pub put_both : (was : List ℕ) (s : LigatureState) {between after : List ℕ} → between ≡ paste (set (set was 0 s.state) 1 s.depth) 2 s.places 32
    → after ≡ paste between 34 s.glyphs 32 → after ≡ ligature_slots was s
unfolding ligature_slots
put_both was s e f = f ∙ ap (λ (x : List ℕ). paste x 34 s.glyphs 32) e

-- what a kerning run answers, as one
pub run_is : {run : Run} {answer : Answer} {heads : ℕ} → run.answer ≡ answer → run.heads ≡ heads → run ≡ record { answer = answer; heads = heads }
run_is a h = ap₂ (λ (answer : Answer) (heads : ℕ). record { answer = answer; heads = heads }) a h
