-- Laws of the classes by an index, and of its tests.
use Prim.Native.Nat.{ℕ, ◌<◌, ◌≤◌}
use mathlib.Core.Path.{◌≡◌, sym, ◌∙◌, ap}
use mathlib.Core.Bool.{Bool, true, false}
use mathlib.Core.List.{List}
use native.Mathlib.Omega.{arith}
use lib.ListN.{length, get_or}
use Rattle.laws.proofs.Choices.{if_lt_yes, if_lt_no}
use Rattle.laws.proofs.Numbers.{lt-or-ge}
use mathlib.Core.Logic.{⊎_elim}
use Rattle.state_tables.specs.declared.States.{States}
use Rattle.state_tables.specs.declared.opened.Classes.{Classes}
use Rattle.state_tables.specs.Classes.{class_of}
use Rattle.state_tables.specs.Opened.{opened_classes, class_by}
use Rattle.state_tables.proofs.Openings.{classes-same}
use Rattle.machine.specs.Machine.{Machine}
use Rattle.machine.specs.Entry.{class_here}
use Rattle.indexes.specs.Index.{classes_by, indexed}

module _ (index : List ℕ) (classes : ℕ → ℕ) (glyph : ℕ) where
  pub by_index : glyph < length index → get_or index glyph 0 ≡ classes_by index classes glyph
  unfolding classes_by
  by_index h = sym (if_lt_yes _ _ h)

  pub past_index : length index ≤ glyph → classes glyph ≡ classes_by index classes glyph
  unfolding classes_by
  past_index h = sym (if_lt_no _ _ h)

-- where the end of text is told apart
module _ (index : List ℕ) (classes : ℕ → ℕ) (glyph : ℕ) where
  pub here-ends : (ends : Bool) → ends ≡ true → 0 ≡ class_here classes glyph ends
  unfolding class_here
  here-ends ends e = rw e

  pub here-index : (ends : Bool) → ends ≡ false → glyph < length index → get_or index glyph 0 ≡ class_here (classes_by index classes) glyph ends
  unfolding class_here
  here-index ends e h = rw e (by_index index classes glyph h)

  pub here_past : (ends : Bool) → ends ≡ false → length index ≤ glyph → class_here classes glyph false ≡ class_here (classes_by index classes) glyph ends
  unfolding class_here
  here_past ends e h = rw e (past_index index classes glyph h)

-- an index whose every entry is that glyph's class gives the classes that there are
pub right_index : (index : List ℕ) (classes : ℕ → ℕ) → ((glyph : ℕ) → glyph < length index → get_or index glyph 0 ≡ classes glyph)
    → classes_by index classes ≡ classes
right_index index classes right = λ i glyph. at glyph i
  where
    at : (glyph : ℕ) → classes_by index classes glyph ≡ classes glyph
    at glyph =
        ⊎_elim
        (λ (h : glyph < length index). sym (by_index index classes glyph h) ∙ right glyph h)
        (λ (h : length index ≤ glyph). sym (past_index index classes glyph h))
        (lt-or-ge glyph (length index))

-- and so does none
pub no_index : (index : List ℕ) → length index ≡ 0 → (classes : ℕ → ℕ) → classes_by index classes ≡ classes
no_index index e classes = right_index index classes (λ glyph h. absurd (omega (arith, e)))

pub indexed-none : {S : Type 0} (machine : Machine S) (index : List ℕ) → length index ≡ 0 → indexed index machine ≡ machine
indexed-none machine index e =
    λ i.
    record {
      opened = machine.opened;
      fresh = machine.fresh;
      step = λ classes bytes states. machine.step (no_index index e classes i) bytes states;
      rest = machine.rest;
      state_tests = machine.state_tests;
    }

-- the classes of a class table that was opened, by an index
pub opened-index : (index bytes : List ℕ) (states : States) {opened : Classes} → opened ≡ opened_classes bytes states.edition
    → classes_by index (class_by bytes opened) ≡ classes_by index (class_of bytes states)
opened-index index bytes states {opened} o =
    ap (λ (t : Classes). classes_by index (class_by bytes t)) o ∙ ap (classes_by index) (λ i glyph. classes-same bytes states glyph i)
