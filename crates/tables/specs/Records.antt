-- Records of formats 2, 4 and 6, by value: where they begin and which glyphs they hold.
use Rattle.std.specs.Prelude.{ℕ, ◌+◌, ◌*◌, List}
use Rattle.laws.specs.Choose.{if_eq}
use Rattle.parse.specs.Reads.{u16_at}
use Rattle.tables.specs.declared.records.Format.{Format}
use Rattle.tables.specs.declared.records.Format.TheVariants.{Simple, Records, Trimmed, Unknown}
use Rattle.tables.specs.declared.records.Kind.{Kind}
use Rattle.tables.specs.declared.records.Kind.TheVariants.{Ranges, Arrays, Singles}

-- the format of a lookup table by its number; first and count of the trimmed ones stand at 2 and at 4
unfoldable pub format_of : ℕ → Format
format_of number =
    if_eq number 0 Simple
    (if_eq number 2 (Records Ranges)
    (if_eq number 4 (Records Arrays)
    (if_eq number 6 (Records Singles)
    (if_eq number 8 (Trimmed 2)
    (if_eq number 10 (Trimmed 4) Unknown)))))

-- the bytes of a record: last, first and a 16-bit number, or glyph and element
abbrev pub stride_of : Kind → ℕ
stride_of Ranges = 6
stride_of Arrays = 6
stride_of Singles = 4

-- where record i begins, the first being at `base`
abbrev pub record_place : ℕ → Kind → ℕ → ℕ
record_place base kind i = base + i * stride_of kind

-- where kerning pair i begins, the first being at `base`: left glyph, right glyph and number, of 16 bits each
abbrev pub pair_place : ℕ → ℕ → ℕ
pair_place base i = base + i * 6

-- the last glyph of the record at a place
abbrev pub last_at : List ℕ → ℕ → ℕ
last_at bytes place = u16_at bytes place

-- its first glyph; a record of one glyph has that one as both
abbrev pub first_at : List ℕ → Kind → ℕ → ℕ
first_at bytes Ranges place = u16_at bytes (place + 2)
first_at bytes Arrays place = u16_at bytes (place + 2)
first_at bytes Singles place = u16_at bytes place
