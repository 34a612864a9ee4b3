-- Where the lists of an insertion subtable lie, by the manual, which was not at hand: docs/DIFFERENCES.md says what these
-- lines rest on.
use Rattle.std.specs.Prelude.{ℕ, ◌+◌, ◌*◌, List, drop}
use Rattle.laws.specs.Lists.{tab}
use Rattle.parse.specs.Reads.{u16_at, u32_at}

-- the insertion glyph table begins at the offset that follows the state table's head, 32 bits, counted from the state table
unfoldable pub glyph_table : List ℕ → List ℕ
glyph_table bytes = drop (u32_at bytes 16) bytes

-- it is an array of 16-bit glyph numbers
abbrev pub glyph_number : List ℕ → ℕ → ℕ
glyph_number bytes i = u16_at (glyph_table bytes) (i * 2)

-- an entry names a list by the number of its first glyph; its count is in the entry's flags
unfoldable pub glyphs_from : List ℕ → (first count : ℕ) → List ℕ
glyphs_from bytes first count = tab (λ k. glyph_number bytes (first + k)) count
