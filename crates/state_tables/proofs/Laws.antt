-- What stands above knows of a state table, beside the names `class_of` and `entry_of`.
use Rattle.std.specs.Prelude.{Option, Some, None}
use Rattle.std.proofs.lemmas.Grind.{common_steps}
use Prim.Native.Nat.{ℕ, ◌+◌, ◌<◌, ◌≤◌}
use mathlib.Core.Path.{◌≡◌, refl, sym, ◌∙◌}
use mathlib.Core.Bool.{true, false}
use mathlib.Core.List.{List}
use native.Mathlib.Omega.{arith}
use lib.ListN.{length}
use Rattle.answers.specs.declared.Refusal.TheVariants.{Head}
use Rattle.tables.specs.declared.units.Reading.TheVariants.{Crate}
use Rattle.state_tables.specs.States.{extended_by, extended_at}
use Rattle.state_tables.specs.Classes.{class_of, head_test}
use Rattle.state_tables.specs.Entries.{entry_of}
use Rattle.state_tables.specs.declared.States.{States}
use Rattle.state_tables.specs.declared.entries.Entry.{Entry}
use Rattle.state_tables.proofs.Heads.{extended_states, extended_ready, extended-short}
use Rattle.state_tables.proofs.Readings.{Steps, raw_at, entry-steps, resolved_keeps}

-- an extended head can be read exactly where it has its sixteen bytes
pub extended-made : (bytes : List ℕ) → 16 ≤ length bytes → (states : States) × (extended_at bytes ≡ Some states)
extended-made bytes h = (extended_states bytes, extended_ready bytes h)

pub extended-cut : (bytes : List ℕ) → length bytes < 16 → extended_at bytes ≡ None
extended-cut = extended-short

-- `extended_at` is in the crate's reading
pub extended_crate : (bytes : List ℕ) → extended_by Crate bytes ≡ extended_at bytes
unfolding extended_at
extended_crate bytes = refl

-- HEAD of a call by a state table
module _ (table_length start : ℕ) (made : Option States) where
  pub head_why : (head_test table_length start made).refusal ≡ Head
  unfolding head_test
  head_why = refl

  pub head_past : table_length < start → (head_test table_length start made).holds ≡ true
  unfolding head_test
  head_past h = grind (arith, common_steps)

  module _ (h : start ≤ table_length) where
    pub head_short : made ≡ None → (head_test table_length start made).holds ≡ true
    unfolding head_test
    head_short m = grind (arith, common_steps)

    pub head_ready : {states : States} → made ≡ Some states → (head_test table_length start made).holds ≡ false
    unfolding head_test
    head_ready m = grind (arith, common_steps)

-- a deleted glyph has class 2, whatever the class table says
pub class-deleted : (bytes : List ℕ) (states : States) → class_of bytes states 65535 ≡ 2
unfolding class_of
class-deleted bytes states = refl

module _ (bytes : List ℕ) (states : States) (state class payload : ℕ) {r : (Option Entry)} {entry : Entry}
    (e : r ≡ entry_of bytes states state class payload) (f : r ≡ Some entry) where
  steps : Steps bytes states state class payload entry
  steps = entry-steps bytes states state class payload (sym e ∙ f)

  -- the payload of an entry lies in the table
  pub entry_payload : entry.payload + payload ≤ length bytes
  entry_payload = omega (arith, steps.whole, (resolved_keeps states (raw_at bytes steps.place) steps.leads).payload)
