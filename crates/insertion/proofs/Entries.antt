-- What an entry that the pass has found does is the step; and one that is quiet leads to its state alone.
use Rattle.std.specs.Prelude.{Option, Some, None}
use Prim.Native.Nat.{ℕ, ◌+◌}
use mathlib.Core.Path.{◌≡◌, sym, ◌∙◌, ap}
use mathlib.Core.Bool.{Bool, true, false, not}
use mathlib.Core.List.{List}
use lib.Dec.{eqb}
use borrow.Author.Tests.{not-true}
use Rattle.laws.specs.Bits.{is_set}
use Rattle.laws.proofs.Lists.{both_left, both_right}
use Rattle.answers.specs.declared.Answer.TheVariants as Answer'
use Rattle.parse.specs.Reads.{u16_at}
use Rattle.state_tables.specs.Classes.{class_of}
use Rattle.state_tables.specs.Entries.{entry_of}
use Rattle.state_tables.specs.Opened.{opened_classes, class_by}
use Rattle.state_tables.specs.declared.States.{States}
use Rattle.state_tables.specs.declared.entries.Entry.{Entry}
use Rattle.state_tables.specs.declared.opened.Classes.{Classes}
use Rattle.machine.specs.Entry.{class_here}
use Rattle.machine.specs.Stall.{stalled}
use Rattle.indexes.specs.Index.{classes_by}
use Rattle.indexes.proofs.Laws.{opened-index}
use Rattle.insertion.specs.Lists.{glyph_list, entered_by}
use Rattle.insertion.specs.Insertion.{stopped, finished, after_marked, acted, next}
use Rattle.insertion.specs.Work.{is_quiet, led_by}
use Rattle.insertion.specs.declared.InsertionState.{InsertionState}
use Rattle.insertion.specs.declared.InsertionStep.{InsertionStep}

-- a step that inserts nothing and advances
abbrev pub quiet_step : InsertionState → Entry → (place : ℕ) → InsertionStep
quiet_step s entry place =
    record { answer = Answer'.Done; state = led_by s entry place; advance = 1; marked = None; current = None }

module _ (bytes : List ℕ) (s : InsertionState) (entry : Entry) (place used room : ℕ) where
  pub quiet_acts : is_quiet bytes entry ≡ true → acted bytes s entry place used room ≡ quiet_step s entry place
  unfolding is_quiet acted after_marked finished glyph_list entered_by stalled
  quiet_acts e =
      let lists = both_right (not (is_set entry.flags 0x4000)) _ e in
      let current : eqb (u16_at bytes entry.payload) 0xFFFF ≡ true = both_left _ _ lists in
      let marked : eqb (u16_at bytes (entry.payload + 2)) 0xFFFF ≡ true = both_right (eqb (u16_at bytes entry.payload) 0xFFFF) _ lists in
      let goes : is_set entry.flags 0x4000 ≡ false = not-true _ (both_left _ _ e) in
      rw (current, marked, goes)

-- what the code reads at a place: a class, then an entry
module _ (index bytes : List ℕ) (states : States) (s : InsertionState) (used room place glyph : ℕ) (ends : Bool) {opened : Classes} {class : ℕ}
    {entered : (Option Entry)} (o : opened ≡ opened_classes bytes states.edition) (k : class ≡ class_here (classes_by index (class_by bytes opened)) glyph ends)
    (r : entered ≡ entry_of bytes states s.state class 4) where
  abbrev due : InsertionStep
  due = next (classes_by index (class_of bytes states)) bytes states s used room place glyph ends

  found : entered ≡ entry_of bytes states s.state (class_here (classes_by index (class_of bytes states)) glyph ends) 4
  found =
      r
      ∙ ap (λ (n : ℕ). entry_of bytes states s.state n 4) (k ∙ ap (λ (classes : ℕ → ℕ). class_here classes glyph ends) (opened-index index bytes states o))

  pub found_none : entered ≡ None → stopped Answer'.Ended s None ≡ due
  unfolding next
  found_none e = rw (sym found ∙ e, next)

  pub found-entry : {entry : Entry} {step : InsertionStep} → entered ≡ Some entry → step ≡ acted bytes s entry place used room → step ≡ due
  unfolding next
  found-entry e a = a ∙ sym (rw (sym found ∙ e, next))

  pub found_quiet : {entry : Entry} {quiet : Bool} → entered ≡ Some entry → quiet ≡ is_quiet bytes entry → quiet ≡ true → quiet_step s entry place ≡ due
  found_quiet {entry} e q t = found-entry e (sym (quiet_acts bytes s entry place used room (sym q ∙ t)))
