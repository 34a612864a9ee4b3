-- The lookup by a reading, the crate's or the manual's: they differ in how many bytes an element of format 10 has.
use Rattle.tables.specs.declared.lookup.Why.{Why}
use Rattle.std.specs.Prelude.{ℕ, ◌+◌, ◌-◌, List, Option, Some, None, Result, Ok, Err}
use Rattle.laws.specs.Choose.{if_lt, if_eq}
use Rattle.parse.specs.Reads.{read_u8, read_u16}
use Rattle.parse.specs.Use.{on_u16}
use Rattle.tables.specs.Lookup.{lookup_at}
use Rattle.tables.specs.declared.lookup.Why.TheVariants.{NotCovered, CutShort, UnknownFormat}
use Rattle.tables.specs.declared.units.Reading.{Reading}
use Rattle.tables.specs.declared.units.Reading.TheVariants.{Crate, Manual}
use Rattle.tables.specs.declared.units.Units.{Units}
use Rattle.tables.specs.declared.units.Units.TheVariants.{Words, Bytes}

-- elements of one byte: first and count at 4 and 6
unfoldable pub byte_units : List ℕ → Result Units Why
byte_units bytes = on_u16 (read_u16 bytes 4) (λ first. on_u16 (read_u16 bytes 6) (λ count. Ok (Bytes first count)) (Err CutShort)) (Err CutShort)

-- format 10 in the manual's reading: the unit size, at 2, is the bytes of an element, one or two, and no other is known
unfoldable pub sized_units : List ℕ → Result Units Why
sized_units bytes = on_u16 (read_u16 bytes 2) (λ size. if_eq size 1 (byte_units bytes) (if_eq size 2 (Ok Words) (Err UnknownFormat))) (Err CutShort)

-- the other formats have elements of two bytes in either reading, and in the crate's format 10 too
unfoldable pub units_by : Reading → List ℕ → Result Units Why
units_by Crate bytes = Ok Words
units_by Manual bytes = on_u16 (read_u16 bytes 0) (λ format. if_eq format 10 (sized_units bytes) (Ok Words)) (Ok Words)

-- the element of one byte at a place
abbrev pub byte_found : Option ℕ → Result ℕ Why
byte_found (Some element) = Ok element
byte_found None = Err CutShort

unfoldable pub byte_at : List ℕ → ℕ → Result ℕ Why
byte_at bytes place = byte_found (read_u8 bytes place)

-- elements of two bytes are found as the crate does, those of one byte begin at 8
unfoldable pub in_units : List ℕ → Result Units Why → ℕ → Result ℕ Why
in_units bytes (Ok Words) glyph = lookup_at bytes glyph
in_units bytes (Ok (Bytes first count)) glyph =
    if_lt glyph first (Err NotCovered) (if_lt (glyph - first) count (byte_at bytes (8 + (glyph - first))) (Err NotCovered))
in_units bytes (Err why) glyph = Err why

unfoldable pub lookup_by : Reading → List ℕ → ℕ → Result ℕ Why
lookup_by reading bytes glyph = in_units bytes (units_by reading bytes) glyph
