-- Apple's manual on the kern table: two editions. The old one has a 16-bit version 0, a 16-bit number of tables at 2 and the first subtable at 4; a
-- subtable's head has 6 bytes, with its length at 2 and its coverage at 4, of 16 bits each. The new one has version 1, the number of tables at 4, of 32
-- bits, and the first subtable at 8; a head has 8 bytes, with a length of 32 bits at 0, the coverage at 4 and a tuple index at 6. The manual was not at
-- hand: docs/DIFFERENCES.md says what these lines rest on.
use Rattle.std.specs.Prelude.{ℕ, ◌+◌, ◌/◌, ◌%◌, ◌≤◌, ◌≡◌, Bool, not, List, length}
use Rattle.laws.specs.Bits.{is_set}
use Rattle.laws.specs.Lists.{either}
use Rattle.parse.specs.Reads.{u16_at, u32_at}
use Rattle.kerning_lists.specs.Manual.{Told}

pub data Edition : Type 0 where
  old : Edition
  new : Edition

-- the table is of this edition
abbrev pub version_number : Edition → ℕ
version_number old = 0
version_number new = 1

abbrev pub HasVersion : Edition → List ℕ → Type 0
HasVersion edition bytes = u16_at bytes 0 ≡ version_number edition

abbrev pub count_of : Edition → List ℕ → ℕ
count_of old bytes = u16_at bytes 2
count_of new bytes = u32_at bytes 4

abbrev pub first_of : Edition → ℕ
first_of old = 4
first_of new = 8

abbrev pub head_bytes : Edition → ℕ
head_bytes old = 6
head_bytes new = 8

abbrev pub length_at : Edition → List ℕ → (at : ℕ) → ℕ
length_at old bytes at = u16_at bytes (at + 2)
length_at new bytes at = u32_at bytes at

-- a coverage has the format in its high byte, or in its low one
abbrev pub format_in : Edition → (coverage : ℕ) → ℕ
format_in old coverage = coverage / 256
format_in new coverage = coverage % 256

-- vertical: 0x1, which is for horizontal text, is clear, or 0x8000 is set
abbrev pub is_vertical : Edition → (coverage : ℕ) → Bool
is_vertical old coverage = not (is_set coverage 0x1)
is_vertical new coverage = is_set coverage 0x8000

-- across the stream: 0x4, or 0x4000
abbrev pub is_across : Edition → (coverage : ℕ) → Bool
is_across old coverage = is_set coverage 0x4
is_across new coverage = is_set coverage 0x4000

-- what the head at a place tells; a run skips what is vertical or across the stream
abbrev pub subtable_at : Edition → List ℕ → (at : ℕ) → Told
subtable_at edition bytes at =
    record {
      place = at;
      format = format_in edition (u16_at bytes (at + 4));
      skipped = either (is_vertical edition (u16_at bytes (at + 4))) (is_across edition (u16_at bytes (at + 4)));
    }

-- format 0: the number of pairs is the 16-bit number behind the head, the pairs begin 8 bytes behind it; head and number lie in the table
pub record HasPairs (edition : Edition) (bytes : List ℕ) : Type 0 where
  pub format : format_in edition (u16_at bytes 4) ≡ 0
  pub head : head_bytes edition + 2 ≤ length bytes

abbrev pub pair_count : Edition → List ℕ → ℕ
pair_count edition bytes = u16_at bytes (head_bytes edition)

abbrev pub first_pair : Edition → ℕ
first_pair edition = head_bytes edition + 8
