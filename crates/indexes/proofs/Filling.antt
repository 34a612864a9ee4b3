-- An index is filled, glyph by glyph, behind its tests.
use Rattle.std.specs.Prelude.{Option, Result, Ok}
use Prim.Native.Nat.{ℕ, ◌<◌, ◌≤◌}
use mathlib.Core.Path.{◌≡◌, sym, ◌∙◌, ap, subst⁻¹}
use mathlib.Core.Bool.{true, false}
use mathlib.Core.List.{List, [], ◌∷◌}
use mathlib.Core.Logic.{⊎_elim}
use native.Mathlib.Omega.{arith}
use lib.ListN.{length, get_or}
use lib.Seq.{ext_get_or}
use borrow.Author.Tests.{lt-ltb}
use Rattle.laws.specs.Lists.{tab}
use Rattle.laws.proofs.Lists.{length-tab, get_d_tab}
use Rattle.laws.proofs.Numbers.{lt-or-ge}
use Rattle.answers.specs.Refuse.{refuse, table_test}
use Rattle.answers.specs.declared.Refusal.{Refusal}
use Rattle.answers.proofs.Refusals.{passed_here, passed_later}
use Rattle.state_tables.specs.Classes.{class_of, head_test}
use Rattle.state_tables.specs.Opened.{opened_classes, class_by, LiesIn}
use Rattle.state_tables.specs.declared.States.{States}
use Rattle.state_tables.specs.declared.opened.Classes.{Classes}
use Rattle.state_tables.proofs.Laws.{head_past}
use Rattle.state_tables.proofs.Openings.{classes-same, classes-lie}
use Rattle.indexes.specs.Index.{index_limit, index_test, classes_below, fill_tests}

module _ (bytes : List ℕ) (states : States) {opened : Classes} (o : opened ≡ opened_classes bytes states.edition) where
  pub fill_lies : LiesIn bytes opened
  fill_lies = subst⁻¹ (LiesIn bytes) o (classes-lie bytes states.edition)

  own : class_by bytes opened ≡ class_of bytes states
  own = ap (λ (t : Classes). class_by bytes t) o ∙ (λ i glyph. classes-same bytes states glyph i)

  pub fill_done : {index : List ℕ} (n : ℕ) → length index ≡ n → ((k : ℕ) → k < n → get_or index k 0 ≡ class_by bytes opened k) → index ≡ classes_below bytes states n
  unfolding classes_below
  fill_done {index} n long done =
      ext_get_or 0 index (tab (class_by bytes opened) n) (long ∙ sym (length-tab (class_by bytes opened) n))
      (λ k m. done k (omega arith) ∙ sym (get_d_tab (class_by bytes opened) n k 0 (omega (arith, long))))
      ∙ ap (λ (c : ℕ → ℕ). tab c n) own

-- what has passed them
module _ (n start entries : ℕ) (made : Option States) {check : (Result Unit Refusal)} (k : check ≡ refuse (fill_tests n start entries made)) (p : check ≡ (Ok tt)) where
  past_table : refuse (head_test n start made ∷ index_test entries false ∷ []) ≡ Ok tt
  unfolding fill_tests
  past_table = passed_later (table_test n) (head_test n start made ∷ index_test entries false ∷ []) (sym k ∙ p)

  pub passed_start : start ≤ n
  passed_start =
      ⊎_elim
      (λ (h : n < start).
      let t : (head_test n start made).holds ≡ false = passed_here (head_test n start made) (index_test entries false ∷ []) past_table in
      let u : (head_test n start made).holds ≡ true = head_past n start made h in
      let z : ◌≡◌ {A = ℕ} 0 1 = cc in absurd (omega arith))
      (λ (h : start ≤ n). h)
      (lt-or-ge n start)

  pub passed_entries : entries ≤ 65535
  unfolding index_test index_limit
  passed_entries =
      ⊎_elim
      (λ (h : index_limit < entries).
      let t : (index_test entries false).holds ≡ false =
      passed_here (index_test entries false) [] (passed_later (head_test n start made) (index_test entries false ∷ []) past_table) in
      let u : (index_test entries false).holds ≡ true = rw (lt-ltb _ _ h) in
      let z : ◌≡◌ {A = ℕ} 0 1 = cc in absurd (omega arith))
      (λ (h : entries ≤ index_limit). h)
      (lt-or-ge index_limit entries)
