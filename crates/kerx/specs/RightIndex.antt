-- An index is right for a subtable of kerx: each entry is that glyph's class in the subtable's own class table.
use Rattle.std.specs.Prelude.{ℕ, ◌<◌, ◌≡◌, false, List, ◌⊎◌, length, get_or, drop, Some}
use Rattle.tables.specs.declared.units.Reading.{Reading}
use Rattle.state_tables.specs.Classes.{class_of}
use Rattle.state_tables.specs.States.{extended_by}
use Rattle.state_tables.specs.declared.States.{States}
use Rattle.kerx_machine.specs.Machine.{body_of}
use Rattle.kerning_lists.specs.declared.Subtable.{Subtable}
use Rattle.kerx.specs.Heads.{head_in}

abbrev pub Right : List ℕ → (start : ℕ) → Reading → (index : List ℕ) → Type 0
Right table start reading index =
    (states : States) (glyph : ℕ) → extended_by reading (body_of (drop start table)) ≡ Some states → glyph < length index
    → get_or index glyph 0 ≡ class_of (body_of (drop start table)) states glyph

-- a subtable with a machine, where its head can be read: its format is 1 or 4
abbrev pub HasMachine : List ℕ → (start version : ℕ) → Type 0
HasMachine table start version = (s : Subtable) → head_in false version 0 (drop start table) ≡ Some s → (s.format ≡ 1) ⊎ (s.format ≡ 4)
