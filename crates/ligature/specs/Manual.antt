-- Where the actions, the components and the ligatures of a ligature subtable lie, by the manual, which was not at
-- hand: docs/DIFFERENCES.md says what these lines rest on.
use Rattle.std.specs.Prelude.{ℕ, ◌*◌, List, drop}
use Rattle.parse.specs.Reads.{u16_at, u32_at}

-- three offsets follow the state table's head, of 32 bits each and counted from the state table: to the ligature actions, an array of
-- 32-bit numbers, to the components and to the ligatures, arrays of 16-bit numbers
unfoldable pub action_number : List ℕ → ℕ → ℕ
action_number bytes i = u32_at (drop (u32_at bytes 16) bytes) (i * 4)

unfoldable pub component_number : List ℕ → ℕ → ℕ
component_number bytes i = u16_at (drop (u32_at bytes 20) bytes) (i * 2)

unfoldable pub ligature_number : List ℕ → ℕ → ℕ
ligature_number bytes i = u16_at (drop (u32_at bytes 24) bytes) (i * 2)
