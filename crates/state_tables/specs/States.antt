-- The heads of state tables, as the crate reads them, over the bytes from the state table's own start on.
use Rattle.state_tables.specs.declared.States.{States}
use Rattle.std.specs.Prelude.{ℕ, ◌+◌, cond, List, length, Option, Some, None}
use Rattle.laws.specs.Choose.{if_lt}
use Rattle.parse.specs.Reads.{inside, read_u16, read_u32}
use Rattle.parse.specs.Use.{on_u16, on_u32}
use Rattle.tables.specs.declared.units.Reading.{Reading}
use Rattle.tables.specs.declared.units.Reading.TheVariants.{Crate}
use Rattle.state_tables.specs.declared.Edition.TheVariants.{Extended, Classic}

-- four 32-bit numbers: classes, class table, states, entries; the class table is read by a reading
unfoldable pub extended_by : Reading → List ℕ → Option States
extended_by reading bytes =
    on_u32 (read_u32 bytes 0)
    (λ classes. on_u32 (read_u32 bytes 4)
    (λ table. on_u32 (read_u32 bytes 8)
    (λ array. on_u32 (read_u32 bytes 12)
    (λ entries. Some (record { edition = Extended table reading; classes = classes; array = array; entries = entries }))
    None) None) None) None

-- in the crate's
unfoldable pub extended_at : List ℕ → Option States
extended_at bytes = extended_by Crate bytes

-- four 16-bit numbers, the same; then first glyph and count of the class array, whose bytes lie in the table (of no bytes, its place
-- does); and the state array does not begin past the end
unfoldable pub classic_at : List ℕ → Option States
classic_at bytes =
    on_u16 (read_u16 bytes 0)
    (λ classes. on_u16 (read_u16 bytes 2)
    (λ table. on_u16 (read_u16 bytes 4)
    (λ array. on_u16 (read_u16 bytes 6)
    (λ entries. on_u16 (read_u16 bytes table)
    (λ first. on_u16 (read_u16 bytes (table + 2))
    (λ count. cond (inside bytes (table + 4) count)
    (if_lt (length bytes) array None
    (Some (record { edition = Classic (table + 4) first count; classes = classes; array = array; entries = entries })))
    None) None) None) None) None) None) None
