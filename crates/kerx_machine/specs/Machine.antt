-- kerx format 1: the head of its subtable, and its pass and step.
use Rattle.std.specs.Prelude.{ℕ, ◌%◌, Bool, false, not, List, eqb, ℤ, length, drop, Option, Some, None, Result, Ok, Err}
use Rattle.laws.specs.Choose.{if_lt, if_eq}
use Rattle.parse.specs.Reads.{read_u32}
use Rattle.parse.specs.Use.{on_u32}
use Rattle.tables.specs.declared.units.Reading.{Reading}
use Rattle.tables.specs.declared.units.Reading.TheVariants.{Crate, Manual}
use Rattle.state_tables.specs.declared.States.{States}
use Rattle.state_tables.specs.States.{extended_by}
use Rattle.kerning.specs.Additions.{Kerned}
use Rattle.kerning.specs.Heads.{barred}
use Rattle.kerning.specs.declared.heads.Unready.{Unready}
use Rattle.kerning.specs.declared.heads.Unready.TheVariants.{Short}
use Rattle.kerning_machine.specs.Machine as Kerning'
use Rattle.kerning_machine.specs.Machine.{Stepped}
use Rattle.kerning_machine.specs.declared.Reading as Entries'
use Rattle.kerning_machine.specs.declared.Reading.TheVariants as Entries
use Rattle.kerning_machine.specs.declared.Kerning.{Kerning}
use Rattle.kerning_machine.specs.declared.KerningState.{KerningState}

-- the tuple count is read only from version 4 of the list on
unfoldable pub tuples_of : List ℕ → (version : ℕ) → Option ℕ
tuples_of bytes version = if_lt version 4 (Some 0) (read_u32 bytes 8)

-- the state table always begins 12 bytes in, though the head has 8 below version 4
abbrev pub body_of : List ℕ → List ℕ
body_of bytes = drop 12 bytes

abbrev pub on_made : Option States → (States → Result Kerning Unready) → Result Kerning Unready
on_made (Some states) use-it = use-it states
on_made None use-it = Err Short

-- whether there are any, which the manual's reading refuses: TUPLES, behind HEAD; a run makes nothing of a refused subtable, and so passes over it
unfoldable pub has_tuples : List ℕ → (version : ℕ) → Bool
has_tuples bytes version = on_u32 (tuples_of bytes version) (λ tuples. not (eqb tuples 0)) false

unfoldable pub is_tupled : List ℕ → (version : ℕ) → Reading → Bool
is_tupled bytes version Crate = false
is_tupled bytes version Manual = has_tuples bytes version

-- how entries are read
abbrev pub entries_of : Reading → (values tuples : ℕ) → Entries'.Reading
entries_of Crate values tuples = Entries.Kerx values tuples
entries_of Manual values tuples = Entries.Manual values

-- the machine of a subtable of format 1, which is the low byte of its coverage, where its head, the state table's own, and the value table's place
-- behind that can be read
unfoldable pub opened_any : List ℕ → (version : ℕ) → Reading → Result Kerning Unready
opened_any bytes version reading =
    on_u32 (read_u32 bytes 4)
    (λ coverage. on_u32 (tuples_of bytes version)
    (λ tuples. if_eq (coverage % 256) 1
    (on_made (extended_by reading (body_of bytes))
    (λ states. on_u32 (read_u32 (body_of bytes) 16) (λ values. Ok (record { states = states; reading = entries_of reading values tuples })) (Err Short)))
    (Err Short)) (Err Short)) (Err Short)

unfoldable pub opened : List ℕ → (version : ℕ) → Reading → Result Kerning Unready
opened bytes version reading = barred (is_tupled bytes version reading) (opened_any bytes version reading)

-- the pass by the subtable whose bytes begin at its head
unfoldable pub worked : List ℕ → (version : ℕ) → (glyphs : List ℕ) → (used : ℕ) → Reading → Kerned
worked bytes version glyphs used reading = Kerning'.worked_by (body_of bytes) (opened bytes version reading) glyphs used

-- the same by the classes of an index
unfoldable pub worked_indexed : (index : List ℕ) → List ℕ → (version : ℕ) → (glyphs : List ℕ) → (used : ℕ) → Reading → Kerned
worked_indexed index bytes version glyphs used reading = Kerning'.worked_indexed index (body_of bytes) (opened bytes version reading) glyphs used

-- a lone step by the subtable at `start`
unfoldable pub step_call : List ℕ → (start version : ℕ) → KerningState → (used index glyph : ℕ) → List ℤ → Reading → Stepped
step_call table start version s used index glyph along reading =
    Kerning'.step_call (length table) (body_of (drop start table)) (opened (drop start table) version reading) s used index glyph along
