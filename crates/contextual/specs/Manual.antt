-- Where the lookups of a contextual subtable lie, by the manual, which was not at hand: docs/DIFFERENCES.md says what these
-- lines rest on.
use Rattle.std.specs.Prelude.{ℕ, ◌*◌, List, drop}
use Rattle.parse.specs.Reads.{u32_at}

-- the substitution table begins at the offset that follows the state table's head, 32 bits, counted from the state table
unfoldable pub substitution_table : List ℕ → List ℕ
substitution_table bytes = drop (u32_at bytes 16) bytes

-- it is an array of 32-bit offsets, counted from the substitution table itself; number i leads to a lookup
unfoldable pub lookup_number : List ℕ → ℕ → List ℕ
lookup_number bytes i = drop (u32_at (substitution_table bytes) (i * 4)) (substitution_table bytes)
