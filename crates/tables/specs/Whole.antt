-- For the code alone; no entry and no promise rests on it, and nobody has to believe it. What the code keeps of a lookup table whose records all
-- lie in it.
use Rattle.tables.specs.declared.lookup.Why.{Why}
use Rattle.std.specs.Prelude.{ℕ, List, length, Option, Some, None, Result, Ok, Err}
use Rattle.laws.specs.Choose.{if_lt}
use Rattle.parse.specs.Reads.{read_u16}
use Rattle.parse.specs.Use.{on_u16}
use Rattle.tables.specs.Records.{record_place, format_of}
use Rattle.tables.specs.declared.records.Format.{Format}
use Rattle.tables.specs.declared.records.Format.TheVariants as Format'
use Rattle.tables.specs.declared.records.Kind.{Kind}
use Rattle.tables.specs.declared.whole.Records.{Records}

-- the records of a kind, where all lie in the table
unfoldable pub whole_of : List ℕ → Kind → Option Records
whole_of bytes kind =
    on_u16 (read_u16 bytes 4)
    (λ count. if_lt (length bytes) (record_place 12 kind count) None (Some (record { kind = kind; count = count })))
    None

abbrev pub records_in : List ℕ → Format → Option Records
records_in bytes Format'.Simple = None
records_in bytes (Format'.Records kind) = whole_of bytes kind
records_in bytes (Format'.Trimmed head) = None
records_in bytes Format'.Unknown = None

unfoldable pub records_of : List ℕ → Option Records
records_of bytes = on_u16 (read_u16 bytes 0) (λ number. records_in bytes (format_of number)) None

-- what becomes of a glyph by what is found for it
abbrev pub becomes : (glyph : ℕ) → Result ℕ Why → ℕ
becomes glyph (Ok element) = element
becomes glyph (Err why) = glyph
