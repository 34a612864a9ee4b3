-- A list's tests, and the walk of a list as its cursor repeated.
use Rattle.std.specs.Prelude.{Option, Some, None, Result, Ok, Err}
use Prim.Native.Nat.{ℕ, zero, suc, ◌-◌, ◌<◌, ◌≤◌}
use mathlib.Core.Path.{◌≡◌, refl, sym, ◌∙◌, ap}
use mathlib.Core.Bool.{Bool, true, false, cond}
use mathlib.Core.List.{List, [], ◌∷◌, map}
use native.Mathlib.Omega.{arith}
use borrow.Author.Tests.{ne_eqb, lt-ltb, le-ltb, ltb-false}
use Rattle.answers.proofs.Refusals.{refuse-none, refuse-here, refuse-later, passed_here, passed_later, alone_refused, alone-passed}
use Rattle.answers.specs.Refuse.{refuse, table_test}
use Rattle.answers.specs.declared.Refusal.{Refusal}
use Rattle.answers.specs.declared.Refusal.TheVariants as Refusal'
use Rattle.kerning_lists.specs.Walk.{heads_from}
use Rattle.kerning_lists.specs.Run.{start_test}
use Rattle.kerning_lists.specs.Cursors.{cursor, next_by, followed, list_tests}
use Rattle.kerning_lists.specs.declared.Subtable.{Subtable}
use Rattle.kerning_lists.specs.declared.Cursor.{Cursor}
use Rattle.kerning_lists.specs.declared.NextSubtable.{NextSubtable}

module _ (length start : ℕ) {check : (Result Unit Refusal)} (e : check ≡ refuse (table_test length ∷ [])) where
  pub list-table : {why : Refusal} → check ≡ Err why → Err why ≡ refuse (list_tests length start)
  unfolding list_tests
  list-table f = sym (alone_refused (table_test length) (start_test length start ∷ []) _ (sym e ∙ f))

  pub list_past : check ≡ Ok tt → length < start → Err Refusal'.Head ≡ refuse (list_tests length start)
  unfolding list_tests start_test
  list_past f h =
      sym (alone-passed (table_test length) (start_test length start ∷ []) (sym e ∙ f) ∙ refuse-here (start_test length start) [] (rw (lt-ltb length start h)))

  pub list_inside : check ≡ Ok tt → start ≤ length → Ok tt ≡ refuse (list_tests length start)
  unfolding list_tests start_test
  list_inside f h =
      sym (alone-passed (table_test length) (start_test length start ∷ []) (sym e ∙ f) ∙ refuse-later (start_test length start) [] (rw (le-ltb length start h)) ∙ refuse-none)

-- a start that was taken is not past the table
pub list_start : (length start : ℕ) {check : (Result Unit Refusal)} → check ≡ refuse (list_tests length start) → check ≡ Ok tt → start ≤ length
unfolding list_tests start_test
list_start length start k e =
    ltb-false _ _ (cond-false _ (passed_here (start_test length start) [] (passed_later (table_test length) (start_test length start ∷ []) (sym k ∙ e))))
  where
    cond-false : (t : Bool) → cond t true false ≡ false → t ≡ false
    cond-false false h = refl
    cond-false true h = h

-- the walk of a list is its cursor repeated
module _ (head_of : (version place : ℕ) → Option Subtable) where
  abbrev next : Cursor → Option NextSubtable
  next c = next_by (head_of c.version c.place) c

  pub followed-heads : (version left place : ℕ) → followed next left (cursor place left version) ≡ heads_from (head_of version) left place
  unfolding followed heads_from next_by
  followed-heads version zero place = refl
  followed-heads version (suc left) place = go (head_of version place) refl (followed-heads version left)
    where
      is_more : suc left ≡ 0 → ⊥
      is_more p = absurd (omega (arith, p))

      left_behind : suc left - 1 ≡ left
      left_behind = omega arith

      go : (head : Option Subtable) → head_of version place ≡ head → ((at : ℕ) → followed next left (cursor at left version) ≡ heads_from (head_of version) left at)
          → followed next (suc left) (cursor place (suc left) version) ≡ heads_from (head_of version) (suc left) place
      go (Some s) e more =
          let one : next (cursor place (suc left) version) ≡ Some (record { subtable = s; next = cursor s.next left version }) = rw (ne_eqb (suc left) 0 is_more, e, left_behind, next_by) in
          rw (one, e, followed, heads_from) (ap (λ (walk : List Subtable). s ∷ walk) (more s.next))
      go None e more =
          let none : next (cursor place (suc left) version) ≡ None = rw (ne_eqb (suc left) 0 is_more, e, next_by) in
          rw (none, e, followed, heads_from)

-- a head, if its subtable is told by a rule
abbrev pub map_head : (Subtable → Subtable) → Option Subtable → Option Subtable
map_head f (Some subtable) = Some (f subtable)
map_head f None = None

-- heads that are the same but for f, at places of their own, make the same walk but for f
module _ (near far : ℕ → Option Subtable) (f : Subtable → Subtable) (place : ℕ → ℕ) (follows : (s : Subtable) → (f s).next ≡ place s.next)
    (same : (at : ℕ) → far (place at) ≡ map_head f (near at)) where
  pub heads_mapped : (left at : ℕ) → heads_from far left (place at) ≡ map f (heads_from near left at)
  unfolding heads_from
  heads_mapped zero at = refl
  heads_mapped (suc left) at = go (near at) refl (heads_mapped left)
    where
      go : (head : Option Subtable) → near at ≡ head → ((on : ℕ) → heads_from far left (place on) ≡ map f (heads_from near left on))
          → heads_from far (suc left) (place at) ≡ map f (heads_from near (suc left) at)
      go (Some s) e more =
          rw (same at, e, heads_from) (ap (λ (walk : List Subtable). f s ∷ walk) (ap (heads_from far left) (follows s) ∙ more s.next))
      go None e more = rw (same at, e, heads_from)
