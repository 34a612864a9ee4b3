-- For the code alone; no entry and no promise rests on it, and nobody has to believe it. What the code keeps of a class table that it opens once for
-- many glyphs.
use Rattle.std.specs.Prelude.{ℕ, ◌+◌, ◌-◌, ◌*◌, ◌/◌, ◌%◌, ◌<◌, ◌≤◌, ◌≡◌, List, length, get_or, set, drop, replicate, Option, Some, None, Result, Ok, Err}
use Rattle.laws.specs.Choose.{if_lt, if_eq}
use Rattle.parse.specs.Reads.{u8_at, u16_at}
use Rattle.tables.specs.Opened.{most_in, opened_of}
use Rattle.tables.specs.Units.{units_by}
use Rattle.tables.specs.declared.lookup.Why.{Why}
use Rattle.tables.specs.declared.opened.Array.{Array}
use Rattle.tables.specs.declared.units.Reading.TheVariants.{Crate}
use Rattle.tables.specs.declared.units.Units.{Units}
use Rattle.tables.specs.declared.units.Units.TheVariants as Units'
use Rattle.state_tables.specs.Classes.{class_by_lookup}
use Rattle.state_tables.specs.declared.Edition.{Edition}
use Rattle.state_tables.specs.declared.Edition.TheVariants.{Extended, Classic}
use Rattle.state_tables.specs.declared.opened.Classes.{Classes}
use Rattle.state_tables.specs.declared.opened.Classes.TheVariants.{Words, Bytes, Searched}

-- how many of an array's bytes lie in the table
unfoldable pub cut_bytes : List ℕ → (base count : ℕ) → ℕ
cut_bytes bytes base count = if_lt (length bytes - base) count (length bytes - base) count

abbrev pub classes_from : (table : ℕ) → Option Array → Classes
classes_from table (Some array) = Words (table + array.base) array.first array.count
classes_from table None = Searched table

unfoldable pub opened_bytes : List ℕ → (base first count : ℕ) → Classes
opened_bytes bytes base first count = Bytes base first (cut_bytes bytes base count)

-- elements of one byte begin at 8; no elements are an array of none
unfoldable pub classes_in : List ℕ → (table : ℕ) → Result Units Why → Classes
classes_in bytes table (Ok Units'.Words) = classes_from table (opened_of (drop table bytes))
classes_in bytes table (Ok (Units'.Bytes first count)) = opened_bytes bytes (table + 8) first count
classes_in bytes table (Err why) = opened_bytes bytes 0 0 0

unfoldable pub opened_classes : List ℕ → Edition → Classes
opened_classes bytes (Extended table reading) = classes_in bytes table (units_by reading (drop table bytes))
opened_classes bytes (Classic place first count) = opened_bytes bytes place first count

-- the class of a glyph in an array of elements: a deleted one has its own
abbrev pub in_classes : (element : ℕ → ℕ) → (first count glyph : ℕ) → ℕ
in_classes element first count glyph = if_eq glyph 65535 2 (if_lt glyph first 1 (if_lt (glyph - first) count (element (glyph - first)) 1))

unfoldable pub word_class : List ℕ → (base first count glyph : ℕ) → ℕ
word_class bytes base first count glyph = in_classes (λ index. u16_at bytes (base + index * 2)) first count glyph

unfoldable pub byte_class_in : List ℕ → (base first count glyph : ℕ) → ℕ
byte_class_in bytes base first count glyph = in_classes (λ index. u8_at bytes (base + index)) first count glyph

unfoldable pub class_by : List ℕ → Classes → (glyph : ℕ) → ℕ
class_by bytes (Words base first count) glyph = word_class bytes base first count glyph
class_by bytes (Bytes base first count) glyph = byte_class_in bytes base first count glyph
class_by bytes (Searched table) glyph = if_eq glyph 65535 2 (class_by_lookup bytes table Crate glyph)

-- all elements of an array lie in the table
pub record LiesIn (bytes : List ℕ) (opened : Classes) : Type 0 where
  pub words : (base first count : ℕ) → opened ≡ Words base first count → count ≤ most_in bytes base
  pub byte_classes : (base first count : ℕ) → opened ≡ Bytes base first count → count ≤ length bytes - base

-- 64 slots, each of which holds a glyph and its class: at first a deleted glyph's
abbrev pub nothing_found : List ℕ
nothing_found = replicate 64 0xFFFF0002

pub record Remembers (classes : ℕ → ℕ) (memo : List ℕ) : Type 0 where
  pub long : length memo ≡ 64
  pub slots : (slot : ℕ) → slot < 64 → classes (get_or memo slot 0 / 65536) ≡ get_or memo slot 0 % 65536

-- what is remembered once the class of a glyph was asked for
unfoldable pub noted : (classes : ℕ → ℕ) → (memo : List ℕ) → (glyph : ℕ) → List ℕ
noted classes memo glyph = if_eq (get_or memo (glyph % 64) 0 / 65536) glyph memo (set memo (glyph % 64) (glyph * 65536 + classes glyph))

-- an array's classes are not remembered
unfoldable pub noted_now : (classes : ℕ → ℕ) → Classes → (memo : List ℕ) → (glyph : ℕ) → List ℕ
noted_now classes (Words base first count) memo glyph = memo
noted_now classes (Bytes base first count) memo glyph = noted classes memo glyph
noted_now classes (Searched table) memo glyph = noted classes memo glyph
