-- What it is that the pass by a subtable of kerx format 1 has no read that fails.
use Rattle.std.specs.Prelude.{ℕ, ◌≡◌, List, Ok}
use Rattle.tables.specs.declared.units.Reading.{Reading}
use Rattle.kerning_machine.specs.Inside.{PassInside}
use Rattle.kerning_machine.specs.declared.Kerning.{Kerning}
use Rattle.kerx_machine.specs.Machine.{body_of, opened_any}

-- its head can be read, and no read of the machine's steps fails
pub record MachineInside (bytes : List ℕ) (version : ℕ) (glyphs : List ℕ) (used : ℕ) (reading : Reading) : Type 0 where
  pub machine : Kerning
  pub opens : opened_any bytes version reading ≡ Ok machine
  pub steps : PassInside (body_of bytes) machine glyphs used
