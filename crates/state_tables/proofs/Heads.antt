-- What a head says, once it was read.
use Rattle.std.specs.Prelude.{Some, None}
use Rattle.std.proofs.lemmas.Grind.{common_steps}
use Prim.Native.Nat.{ℕ, ◌+◌, ◌<◌, ◌≤◌}
use mathlib.Core.Path.{◌≡◌}
use mathlib.Core.List.{List}
use native.Mathlib.Omega.{arith}
use lib.ListN.{length}
use Rattle.parse.specs.Reads.{inside, u16_at, u32_at, read_u16, read_u32}
use Rattle.state_tables.specs.States.{extended_by, extended_at, classic_at}
use Rattle.tables.specs.declared.units.Reading.{Reading}
use Rattle.tables.specs.declared.units.Reading.TheVariants.{Crate}
use Rattle.state_tables.specs.declared.Edition.TheVariants.{Extended, Classic}
use Rattle.state_tables.specs.declared.States.{States}

abbrev pub extended_states_by : Reading → List ℕ → States
extended_states_by reading bytes =
    record { edition = Extended (u32_at bytes 4) reading; classes = u32_at bytes 0; array = u32_at bytes 8; entries = u32_at bytes 12 }

abbrev pub extended_states : List ℕ → States
extended_states bytes = extended_states_by Crate bytes

-- it is read exactly where there are sixteen bytes
pub extended_ready : (bytes : List ℕ) → 16 ≤ length bytes → extended_at bytes ≡ Some (extended_states bytes)
unfolding extended_at extended_by read_u32 inside
extended_ready bytes h = grind (arith, common_steps)

pub extended-short : (bytes : List ℕ) → length bytes < 16 → extended_at bytes ≡ None
unfolding extended_at extended_by read_u32 inside
extended-short bytes h = grind (arith, common_steps)

pub extended_by_lem : (reading : Reading) (bytes : List ℕ) {states : States} → extended_by reading bytes ≡ Some states → states ≡ extended_states_by reading bytes
unfolding extended_by read_u32
extended_by_lem reading bytes e = grind (arith, common_steps)

pub extended_is : (bytes : List ℕ) {states : States} → extended_at bytes ≡ Some states → states ≡ extended_states bytes
unfolding extended_at
extended_is bytes e = extended_by_lem Crate bytes e

abbrev pub classic_states : List ℕ → States
classic_states bytes =
    record {
      edition = Classic (u16_at bytes 2 + 4) (u16_at bytes (u16_at bytes 2)) (u16_at bytes (u16_at bytes 2 + 2));
      classes = u16_at bytes 0;
      array = u16_at bytes 4;
      entries = u16_at bytes 6;
    }

-- a classic head is eight bytes, and its class array lies in the table
pub record ClassicHead (bytes : List ℕ) (states : States) : Type 0 where
  pub states_are : states ≡ classic_states bytes
  pub array_inside : u16_at bytes 2 + 4 + u16_at bytes (u16_at bytes 2 + 2) ≤ length bytes

pub classic_is : (bytes : List ℕ) {states : States} → classic_at bytes ≡ Some states → ClassicHead bytes states
unfolding classic_at read_u16 inside
classic_is bytes e = record { states_are = grind (arith, common_steps); array_inside = grind (arith, common_steps) }
