-- The action type, the action table and its records are the manual's, where all their bytes lie in the table; elsewhere there are none.
use Rattle.std.specs.Prelude.{Option, Some, None, Result, Ok, Err}
use Prim.Native.Nat.{ℕ, ◌+◌, ◌*◌, ◌/◌, ◌%◌, ◌<◌, ◌≤◌}
use mathlib.Core.Path.{◌≡◌, refl, sym, ◌∙◌, ap, ap₂}
use mathlib.Core.List.{List}
use native.Mathlib.Nat.{add_assoc}
use native.Mathlib.Omega.{arith}
use lib.ListN.{length}
use borrow.Author.Tests.{eq-eqb, ne_eqb}
use Rattle.parse.specs.Reads.{u16_at, read_u16, read_u32}
use Rattle.parse.specs.Use.{on_u16, on_u32}
use Rattle.parse.proofs.Laws.{read_u16_got, read_u16-short, read_u32_got, read_u32-short, u16_from}
use Rattle.tables.specs.declared.units.Reading.{Reading}
use Rattle.state_tables.specs.States.{extended_by}
use Rattle.state_tables.specs.declared.States.{States}
use Rattle.anchor_machine.specs.Machine.{on_made, opened, numbers_at, numbers_of}
use Rattle.anchor_machine.specs.Manual.{action_type, action_table, mark_point, current_point}
use Rattle.anchor_machine.specs.declared.Anchoring.{Anchoring}
use Rattle.kerning.specs.declared.heads.Unready.{Unready}
use Rattle.kerning.specs.declared.heads.Unready.TheVariants as Unready'
use Rattle.anchor_machine.specs.declared.Numbers.TheVariants as Numbers'

-- the machine, from the state table on
module _ (reading : Reading) (bytes : List ℕ) where
  pub opened_as_manual : {states : States} → extended_by reading bytes ≡ Some states → 20 ≤ length bytes
      → opened reading bytes
      ≡ Ok (record { states = states; reading = reading; action = action_type bytes; control = action_table bytes })
  unfolding opened
  opened_as_manual e h = rw (e, read_u32_got bytes 16 (omega arith), opened)

  pub opened_past_manual : length bytes < 20 → opened reading bytes ≡ (Err Unready'.Short)
  unfolding opened
  opened_past_manual h = go (extended_by reading bytes)
    where
      go : (m : Option States) → on_made {A = Result Anchoring Unready} m (λ states. on_u32 (read_u32 bytes 16) (λ flags. Ok (record { states = states; reading = reading; action = flags / 0x40000000; control = flags % 0x1000000 })) (Err Unready'.Short)) (Err Unready'.Short) ≡ (Err Unready'.Short)
      go (Some states) = rw (read_u32-short bytes 16 (omega arith))
      go None = refl

-- record i is read by twice its number
module _ (bytes : List ℕ) (anchoring : Anchoring) (i : ℕ) (type : anchoring.action ≡ 1) (table : anchoring.control ≡ action_table bytes) where
  place_is : anchoring.control + i * 2 * 2 ≡ action_table bytes + i * 4
  place_is = omega (arith, table)

  never_none : i * 2 ≡ 0xFFFF → ⊥
  never_none e = omega arith

  record_is : numbers_of bytes anchoring (i * 2) ≡ numbers_at bytes (action_table bytes + i * 4)
  unfolding numbers_of
  record_is = rw (ne_eqb (i * 2) 0xFFFF never_none, eq-eqb anchoring.action 1 type, numbers_of) (ap (numbers_at bytes) place_is)

  pub record_by_manual : action_table bytes + i * 4 + 4 ≤ length bytes
      → numbers_of bytes anchoring (i * 2) ≡ Numbers'.At (mark_point bytes i) (current_point bytes i)
  unfolding numbers_at mark_point current_point
  record_by_manual h =
      record_is
      ∙ rw (read_u16_got bytes (action_table bytes + i * 4) (omega arith), read_u16_got bytes (action_table bytes + i * 4 + 2) (omega arith), numbers_at)
      (ap₂ (λ (a b : ℕ). Numbers'.At a b) (sym (u16_from bytes (action_table bytes) (i * 4)))
      (ap (u16_at bytes) (add_assoc (action_table bytes) (i * 4) 2) ∙ sym (u16_from bytes (action_table bytes) (i * 4 + 2))))

  pub record_past_manual : length bytes < action_table bytes + i * 4 + 4 → numbers_of bytes anchoring (i * 2) ≡ Numbers'.Short
  unfolding numbers_at
  record_past_manual h = record_is ∙ go (read_u16 bytes (action_table bytes + i * 4))
    where
      go : (r : Option ℕ) → on_u16 r (λ mark. on_u16 (read_u16 bytes (action_table bytes + i * 4 + 2)) (λ current. Numbers'.At mark current) Numbers'.Short) Numbers'.Short ≡ Numbers'.Short
      go (Some mark) = rw (read_u16-short bytes (action_table bytes + i * 4 + 2) (omega arith))
      go None = refl
