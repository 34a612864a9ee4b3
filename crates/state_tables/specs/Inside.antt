-- What it is that the class of a glyph is found without a read that fails.
use Rattle.std.specs.Prelude.{ℕ, ◌+◌, ◌-◌, ◌<◌, ◌≤◌, ◌≡◌, List, length, drop, Err}
use Rattle.tables.specs.Units.{lookup_by}
use Rattle.tables.specs.declared.lookup.Why.TheVariants.{CutShort}
use Rattle.state_tables.specs.declared.Edition.{Edition}
use Rattle.state_tables.specs.declared.Edition.TheVariants.{Extended, Classic}
use Rattle.state_tables.specs.declared.States.{States}

-- its lookup is not cut short; or its byte of the array is there, if it has one
unfoldable pub ClassReads : List ℕ → Edition → (glyph : ℕ) → Type 0
ClassReads bytes (Extended table reading) glyph = lookup_by reading (drop table bytes) glyph ≡ Err CutShort → ⊥
ClassReads bytes (Classic place first count) glyph = first ≤ glyph → glyph - first < count → place + (glyph - first) < length bytes

-- nothing is read for a deleted glyph
abbrev pub ClassInside : List ℕ → States → (glyph : ℕ) → Type 0
ClassInside bytes states glyph = (glyph ≡ 65535 → ⊥) → ClassReads bytes states.edition glyph
