-- What reading at a place of a table gives. A table is the list of its bytes; a part of it from some start on is `drop start table`.
use Rattle.std.specs.Prelude.{ℕ, ◌+◌, ◌*◌, Bool, cond, List, ltb, leb, length, get_or, Option, Some, None, ℤ}
use Rattle.laws.specs.Lists.{both}
use Rattle.laws.specs.Signed.{signed16}

-- the place is below the table's end, and `size` bytes from it on lie in the table
unfoldable pub inside : List ℕ → ℕ → ℕ → Bool
inside table at size = both (ltb at (length table)) (leb (at + size) (length table))

-- the big-endian numbers of 8, 16 and 32 bits at a place
abbrev pub u8_at : List ℕ → ℕ → ℕ
u8_at table at = get_or table at 0

abbrev pub u16_at : List ℕ → ℕ → ℕ
u16_at table at = u8_at table at * 256 + u8_at table (at + 1)

abbrev pub u32_at : List ℕ → ℕ → ℕ
u32_at table at = u16_at table at * 65536 + u16_at table (at + 2)

unfoldable pub read_u8 : List ℕ → ℕ → Option ℕ
read_u8 table at = cond (inside table at 1) (Some (u8_at table at)) None

unfoldable pub read_u16 : List ℕ → ℕ → Option ℕ
read_u16 table at = cond (inside table at 2) (Some (u16_at table at)) None

unfoldable pub read_i16 : List ℕ → ℕ → Option ℤ
read_i16 table at = cond (inside table at 2) (Some (signed16 (u16_at table at))) None

unfoldable pub read_u32 : List ℕ → ℕ → Option ℕ
read_u32 table at = cond (inside table at 4) (Some (u32_at table at)) None
