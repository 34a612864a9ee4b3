-- Apple's manual on kerx format 4, from its state table on: behind that table's head, at 16, flags of 32 bits, the highest two of which are the action
-- type and the lowest 24 where the action table begins. Of type 1 a record has 4 bytes: a point of the marked glyph and one of the current glyph, by
-- their numbers. The manual was not at hand: docs/DIFFERENCES.md says what these lines rest on.
use Rattle.std.specs.Prelude.{ℕ, ◌+◌, ◌*◌, ◌/◌, ◌%◌, List, drop}
use Rattle.parse.specs.Reads.{u16_at, u32_at}

abbrev pub action_type : List ℕ → ℕ
action_type bytes = u32_at bytes 16 / 0x40000000

abbrev pub action_table : List ℕ → ℕ
action_table bytes = u32_at bytes 16 % 0x1000000

-- record i; the index that an entry has for it is a difference (docs/DIFFERENCES.md, row 55)
unfoldable pub mark_point : List ℕ → (i : ℕ) → ℕ
mark_point bytes i = u16_at (drop (action_table bytes) bytes) (i * 4)

unfoldable pub current_point : List ℕ → (i : ℕ) → ℕ
current_point bytes i = u16_at (drop (action_table bytes) bytes) (i * 4 + 2)
