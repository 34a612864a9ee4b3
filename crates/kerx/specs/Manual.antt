-- Apple's manual on the kerx table: the version is the 16-bit number at 0, the number of tables at 4, of 32 bits, and the first subtable at 8. A
-- subtable's length is the 32-bit number its head begins with, its coverage the one at 4, its tuple count the one at 8, which counts from version 4
-- on. The manual was not at hand: docs/DIFFERENCES.md says what these lines rest on.
use Rattle.std.specs.Prelude.{ℕ, ◌+◌, ◌%◌, ◌≤◌, ◌≡◌, List, length}
use Rattle.laws.specs.Bits.{is_set}
use Rattle.laws.specs.Choose.{if_lt}
use Rattle.laws.specs.Lists.{either}
use Rattle.parse.specs.Reads.{u16_at, u32_at}
use Rattle.kerning_lists.specs.Manual.{Told}

abbrev pub version_of : List ℕ → ℕ
version_of bytes = u16_at bytes 0

abbrev pub count_of : List ℕ → ℕ
count_of bytes = u32_at bytes 4

abbrev pub length_at : List ℕ → (at : ℕ) → ℕ
length_at bytes at = u32_at bytes at

-- what the head at a place tells, of 12 bytes in every version; a run skips what is vertical (0x80000000), across the stream (0x40000000) or has variations
-- (0x20000000). Which way it is worked through is a difference (docs/DIFFERENCES.md, row 35)
abbrev pub head_bytes : ℕ
head_bytes = 12

abbrev pub subtable_at : List ℕ → (at : ℕ) → Told
subtable_at bytes at =
    record {
      place = at;
      format = u32_at bytes (at + 4) % 256;
      skipped =
          either (is_set (u32_at bytes (at + 4)) 0x80000000)
          (either (is_set (u32_at bytes (at + 4)) 0x40000000) (is_set (u32_at bytes (at + 4)) 0x20000000));
    }

-- a subtable of this format, with so many bytes before what it is made of
pub record HasFormat (bytes : List ℕ) (format size : ℕ) : Type 0 where
  pub told : u32_at bytes 4 % 256 ≡ format
  pub head : size ≤ length bytes

abbrev pub tuple_count : List ℕ → (version : ℕ) → ℕ
tuple_count bytes version = if_lt version 4 0 (u32_at bytes 8)

-- format 0: the number of pairs at 12; the pairs begin at 28
abbrev pub HasPairs : List ℕ → Type 0
HasPairs bytes = HasFormat bytes 0 16

abbrev pub pair_count : List ℕ → ℕ
pair_count bytes = u32_at bytes 12

-- format 2: where the left glyphs' rows, the right ones' columns and the array begin, at 16, 20 and 24
abbrev pub HasClasses : List ℕ → Type 0
HasClasses bytes = HasFormat bytes 2 28

abbrev pub rows_of : List ℕ → ℕ
rows_of bytes = u32_at bytes 16

abbrev pub columns_of : List ℕ → ℕ
columns_of bytes = u32_at bytes 20

abbrev pub array_of : List ℕ → ℕ
array_of bytes = u32_at bytes 24
