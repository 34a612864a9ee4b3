-- Kerning pairs as the crate reads them, over the bytes from the subtable's own start on.
use Rattle.tables.specs.declared.lookup.Why.{Why}
use Rattle.std.specs.Prelude.{ℕ, ◌+◌, ◌*◌, List, drop, Option, Some, None, Result, Ok, Err, ℤ}
use Rattle.parse.specs.Reads.{read_u16, read_i16, read_u32}
use Rattle.parse.specs.Use.{on_u16, on_u32}
use Rattle.tables.specs.Records.{pair_place}
use Rattle.tables.specs.Search.{searched}
use Rattle.tables.specs.Units.{lookup_by}
use Rattle.tables.specs.declared.records.Keys.TheVariants as Keys'
use Rattle.tables.specs.declared.records.Spot.{Spot}
use Rattle.tables.specs.declared.records.Spot.TheVariants as Spot'
use Rattle.tables.specs.declared.units.Reading.{Reading}
use Rattle.tables.specs.declared.lookup.Why.TheVariants.{NotCovered, CutShort}
use Rattle.pairs.specs.declared.PairTable.{PairTable}
use Rattle.pairs.specs.declared.PairTable.TheVariants.{Ordered, Classes}
use Rattle.kerning.specs.declared.heads.Unready.{Unready}
use Rattle.kerning.specs.declared.heads.Unready.TheVariants.{Short}

-- kern format 0: a 16-bit count at the head's end, the pairs 8 bytes behind it
unfoldable pub ordered_kern : List ℕ → (head : ℕ) → Result PairTable Unready
ordered_kern bytes head = on_u16 (read_u16 bytes head) (λ count. Ok (Ordered (head + 8) count)) (Err Short)

-- kerx format 0: a 32-bit count at 12, the pairs at 28
unfoldable pub ordered_kerx : List ℕ → Result PairTable Unready
ordered_kerx bytes = on_u32 (read_u32 bytes 12) (λ count. Ok (Ordered 28 count)) (Err Short)

-- kerx format 2: the left glyphs' rows, the right ones' columns and the array begin where 16, 20 and 24 say; rows and columns are read by a reading
unfoldable pub classes_kerx : List ℕ → Reading → Result PairTable Unready
classes_kerx bytes reading =
    on_u32 (read_u32 bytes 16)
    (λ rows. on_u32 (read_u32 bytes 20) (λ columns. on_u32 (read_u32 bytes 24) (λ array. Ok (Classes rows columns array reading)) (Err Short)) (Err Short))
    (Err Short)

-- the number at a place
abbrev pub number_read : Option ℤ → Result ℤ Why
number_read (Some number) = Ok number
number_read None = Err CutShort

unfoldable pub number_at : List ℕ → ℕ → Result ℤ Why
number_at bytes place = number_read (read_i16 bytes place)

-- both glyphs as one key, the left one before the right
abbrev pub key_of : ℕ → ℕ → ℕ
key_of left right = left * 65536 + right

-- the number of the pair that the search finds stands behind its glyphs
unfoldable pub number_in : List ℕ → (first : ℕ) → Spot → Result ℤ Why
number_in bytes first (Spot'.At i) = number_at bytes (pair_place first i + 4)
number_in bytes first Spot'.Absent = Err NotCovered
number_in bytes first Spot'.Cut = Err CutShort

unfoldable pub ordered_number : List ℕ → (first count left right : ℕ) → Result ℤ Why
ordered_number bytes first count left right = number_in bytes first (searched bytes first Keys'.Pairs count (key_of left right))

-- what is made of a class, or nothing where the glyph has none
abbrev pub on_class : Result ℕ Why → (ℕ → Result ℤ Why) → Result ℤ Why
on_class (Ok class) use-it = use-it class
on_class (Err why) use-it = Err why

-- in the array's row that begins at a place; the right glyph's class is the column, in bytes
unfoldable pub number_in_row : List ℕ → (columns : ℕ) → Reading → (row right : ℕ) → Result ℤ Why
number_in_row bytes columns reading row right = on_class (lookup_by reading (drop columns bytes) right) (λ column. number_at bytes (row + column))

-- the left glyph's class is the row, in bytes from the array on
unfoldable pub class_number : List ℕ → (rows columns array : ℕ) → Reading → (left right : ℕ) → Result ℤ Why
class_number bytes rows columns array reading left right =
    on_class (lookup_by reading (drop rows bytes) left) (λ row. number_in_row bytes columns reading (array + row) right)

-- the number of a pair of glyphs
unfoldable pub pair_number : List ℕ → PairTable → (left right : ℕ) → Result ℤ Why
pair_number bytes (Ordered first count) left right = ordered_number bytes first count left right
pair_number bytes (Classes rows columns array reading) left right = class_number bytes rows columns array reading left right
