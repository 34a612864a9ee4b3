-- What takes a glyph's place, as the crate finds it, and the writes that this makes.
use Rattle.tables.specs.declared.lookup.Why.{Why}
use Rattle.std.specs.Prelude.{ℕ, ◌+◌, ◌*◌, List, [], ◌∷◌, drop, Option, Some, None, Result, Ok, Err}
use Rattle.laws.specs.Choose.{if_eq}
use Rattle.parse.specs.Reads.{read_u32}
use Rattle.parse.specs.Use.{on_u32}
use Rattle.tables.specs.Lookup.{lookup_at}
use Rattle.line.specs.Changes.{Change}

-- a lookup that finds nothing leaves the glyph
abbrev pub substitute_by : Result ℕ Why → Option ℕ
substitute_by (Ok glyph) = Some glyph
substitute_by (Err why) = None

-- the bytes are those from the state table on: the number at 16 is where the substitution table begins, its number i is where a
-- lookup begins, counted from there. Number 0xFFFF means no action, and what can't be read leaves the glyph
unfoldable pub substitute_of : List ℕ → (number glyph : ℕ) → Option ℕ
substitute_of bytes number glyph =
    if_eq number 0xFFFF None
    (on_u32 (read_u32 bytes 16)
    (λ list. on_u32 (read_u32 bytes (list + number * 4))
    (λ offset. substitute_by (lookup_at (drop (list + offset) bytes) glyph))
    None) None)

-- the glyph afterwards
abbrev pub glyph_after : Option ℕ → ℕ → ℕ
glyph_after (Some glyph) was = glyph
glyph_after None was = was

-- a glyph written at a place
pub record Write : Type 0 where
  pub at : ℕ
  pub glyph : ℕ

-- a substitute is written at its place
abbrev pub writes_of : (place : ℕ) → Option ℕ → List Write
writes_of place (Some glyph) = record { at = place; glyph = glyph } ∷ []
writes_of place None = []

-- writes as changes of the line
unfoldable pub changes_of : List Write → List Change
changes_of [] = []
changes_of (w ∷ ws) = Change.write w.at w.glyph ∷ changes_of ws
