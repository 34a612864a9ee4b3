-- An index is right for a subtable: each entry is that glyph's class in the subtable's own class table.
use Rattle.std.specs.Prelude.{ℕ, ◌<◌, ◌≡◌, List, length, get_or, drop, Some}
use Rattle.state_tables.specs.Classes.{class_of}
use Rattle.state_tables.specs.States.{extended_at}
use Rattle.state_tables.specs.declared.States.{States}
use Rattle.machine.specs.Head.{body_of}

abbrev pub Right : List ℕ → (start : ℕ) → (index : List ℕ) → Type 0
Right table start index =
    (states : States) (glyph : ℕ) → extended_at (body_of (drop start table)) ≡ Some states → glyph < length index
    → get_or index glyph 0 ≡ class_of (body_of (drop start table)) states glyph
