-- The machine of a subtable of format 4 is opened where the manual says.
use Rattle.std.specs.Prelude.{Some, Ok}
use Prim.Native.Nat.{ℕ, ◌%◌}
use mathlib.Core.Path.{◌≡◌}
use mathlib.Core.List.{List}
use native.Mathlib.Omega.{arith}
use lib.ListN.{drop, length-drop}
use borrow.Author.Tests.{eq-eqb}
use Rattle.parse.specs.Reads.{u32_at}
use Rattle.tables.specs.declared.units.Reading.TheVariants.{Crate}
use Rattle.state_tables.specs.States.{extended_by}
use Rattle.state_tables.specs.declared.States.{States}
use Rattle.kerning.specs.Heads.{barred}
use Rattle.kerx_machine.specs.Machine.{is_tupled}
use Rattle.anchor_machine.specs.Manual.{action_type, action_table}
use Rattle.anchor_machine.proofs.Manual.{opened_as_manual}
use Rattle.kerx.specs.Heads.{subtable_of}
use Rattle.kerx.specs.Manual.{HasFormat}
use Rattle.kerx.specs.Anchored.{anchors_of, machine_of}
use Rattle.kerx.proofs.Manual.{head_is}

pub marks_as_manual : (bytes : List ℕ) (version : ℕ) {states : States} → HasFormat bytes 4 32 → extended_by Crate (drop 12 bytes) ≡ Some states
    → machine_of bytes version Crate
    ≡ Ok (record { states = states; reading = Crate; action = action_type (drop 12 bytes); control = action_table (drop 12 bytes) })
unfolding machine_of anchors_of is_tupled subtable_of barred
marks_as_manual bytes version has e =
    rw (head_is bytes version 0 0 (omega (arith, has.head)), eq-eqb (u32_at bytes 4 % 256) 4 has.told)
    (opened_as_manual Crate (drop 12 bytes) e (omega (arith, has.head, length-drop 12 bytes)))
