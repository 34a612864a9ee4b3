-- An entry, by the steps of its reading.
use Rattle.std.specs.Prelude.{Option, Some, None}
use Rattle.std.proofs.lemmas.Grind.{common_steps}
use Prim.Native.Nat.{ℕ, ◌+◌, ◌-◌, ◌*◌, ◌/◌, ◌≤◌}
use mathlib.Core.Path.{◌≡◌, refl}
use mathlib.Core.List.{List}
use native.Mathlib.Nat.{div-le_self}
use native.Mathlib.Omega.{arith}
use lib.ListN.{length}
use Rattle.parse.specs.Reads.{inside, u16_at}
use Rattle.state_tables.specs.Entries.{entry_number, entry_at, by_row, resolved_in, resolved, entry_of}
use Rattle.state_tables.specs.declared.States.{States}
use Rattle.state_tables.specs.declared.entries.Entry.{Entry}

-- the numbers at a place, as an entry
abbrev pub raw_at : List ℕ → ℕ → Entry
raw_at bytes place = record { state = u16_at bytes place; flags = u16_at bytes (place + 2); payload = place + 4 }

pub record Steps (bytes : List ℕ) (states : States) (state class payload : ℕ) (entry : Entry) : Type 0 where
  pub number : ℕ
  pub place : ℕ
  pub numbered : entry_number bytes states state class ≡ Some number
  pub lies : place ≡ states.entries + number * (4 + payload)
  pub whole : place + (4 + payload) ≤ length bytes
  pub leads : resolved states (raw_at bytes place) ≡ Some entry

module _ (bytes : List ℕ) (states : States) (state class payload : ℕ) {entry : Entry} where
  pub entry_by : Steps bytes states state class payload entry → entry_of bytes states state class payload ≡ Some entry
  unfolding entry_of entry_at inside
  entry_by s = grind (arith, common_steps, s.numbered, s.lies, s.whole, s.leads)

  pub entry-steps : entry_of bytes states state class payload ≡ Some entry → Steps bytes states state class payload entry
  unfolding entry_of entry_at inside
  entry-steps e = go (entry_number bytes states state class) refl
    where
      go : (n : Option ℕ) → entry_number bytes states state class ≡ n → Steps bytes states state class payload entry
      go None p = grind (arith, common_steps)
      go (Some number) p =
          record {
            number = number;
            place = states.entries + number * (4 + payload);
            numbered = p;
            lies = refl;
            whole = grind (arith, common_steps);
            leads = grind (arith, common_steps);
          }

-- a classic entry leads somewhere when its row is not before the state array and there are classes
pub by_row_lem : (raw : Entry) (array classes : ℕ) {entry : Entry} → by_row raw array classes ≡ Some entry
    → (array ≤ raw.state) × (classes ≡ 0 → ⊥)
    × (entry ≡ record { state = (raw.state - array) / classes; flags = raw.flags; payload = raw.payload })
unfolding by_row
by_row_lem raw array classes e = (grind (arith, common_steps), λ z. grind (arith, common_steps), grind (arith, common_steps))

-- only the new state may be another number than was read, and then a smaller one
pub record Kept (raw entry : Entry) : Type 0 where
  pub lower : entry.state ≤ raw.state
  pub flags : entry.flags ≡ raw.flags
  pub payload : entry.payload ≡ raw.payload

pub resolved_keeps : (states : States) (raw : Entry) {entry : Entry} → resolved states raw ≡ Some entry → Kept raw entry
unfolding resolved resolved_in by_row
resolved_keeps states raw e =
    record { lower = grind (arith, common_steps, div-le_self); flags = grind (arith, common_steps); payload = grind (arith, common_steps) }
