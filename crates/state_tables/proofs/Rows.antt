-- A state by its row: what a row and a class give is what the state and the class give.
use Rattle.std.specs.Prelude.{Option, Some, None}
use Rattle.std.proofs.lemmas.Grind.{common_steps}
use Prim.Native.Nat.{ℕ, ◌*◌}
use mathlib.Core.Path.{◌≡◌, refl}
use mathlib.Core.Bool.{true}
use mathlib.Core.List.{List}
use native.Mathlib.Omega.{arith}
use Rattle.state_tables.specs.Entries.{number_in, entry_number, by_row, resolved_in, resolved, entry_of}
use Rattle.state_tables.specs.Rows.{is_classic, row_of, reached_in, reached_by}
use Rattle.state_tables.specs.declared.States.{States}
use Rattle.state_tables.specs.declared.entries.Entry.{Entry}
use Rattle.state_tables.specs.declared.entries.Reached.{Reached}

-- what a row and a class give is what the row's state and the class give
pub reached-same : (bytes : List ℕ) (states : States) (row class : ℕ) → is_classic states.edition ≡ true → (state : ℕ) → row ≡ state * states.classes
    → reached_in bytes states row class ≡ reached_by states.classes (entry_of bytes states state class 0)
unfolding reached_in row_of reached_by entry_of entry_number number_in resolved resolved_in by_row
reached-same bytes states row class k state at = grind (arith, common_steps)

-- what a row and a class gave is an entry, or the end
module _ (bytes : List ℕ) (states : States) (row class state : ℕ) {r : Option Reached} (k : is_classic states.edition ≡ true) (f : r ≡ reached_in bytes states row class)
    (at : row ≡ state * states.classes) where
  pub reached-end : r ≡ None → entry_of bytes states state class 0 ≡ None
  unfolding reached_by
  reached-end q = let e = reached-same bytes states row class k state at in grind (arith, common_steps)

  pub reached-entry : {reached : Reached} → r ≡ Some reached
      → (entry : Entry) × (entry_of bytes states state class 0 ≡ Some entry) × (reached.row ≡ entry.state * states.classes) × (reached.flags ≡ entry.flags)
  unfolding reached_by
  reached-entry {reached} q = go (entry_of bytes states state class 0) refl
    where
      go : (x : Option Entry) → entry_of bytes states state class 0 ≡ x
          → (entry : Entry) × (entry_of bytes states state class 0 ≡ Some entry) × (reached.row ≡ entry.state * states.classes) × (reached.flags ≡ entry.flags)
      go (Some entry) g = let e = reached-same bytes states row class k state at in (entry, g, grind (arith, common_steps), grind (arith, common_steps))
      go None g = let e = reached-same bytes states row class k state at in grind (arith, common_steps)
