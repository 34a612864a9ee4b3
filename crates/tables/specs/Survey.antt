-- The survey of a lookup table's order, over the bytes from the lookup table's own start on.
use Rattle.answers.specs.declared.Refusal.{Refusal}
use Rattle.std.specs.Prelude.{ℕ, zero, suc, Bool, true, false, cond, List, [], ◌∷◌, leb, length, drop, Option, Some, None, Result, Ok, Err}
use Rattle.laws.specs.Choose.{if_eq}
use Rattle.laws.specs.Lists.{both}
use Rattle.answers.specs.Refuse.{refuse, table_test}
use Rattle.parse.specs.Reads.{inside, u16_at, read_u16}
use Rattle.parse.specs.Use.{on_u16}
use Rattle.tables.specs.Records.{stride_of, record_place, first_at, last_at, format_of}
use Rattle.tables.specs.declared.records.Format.{Format}
use Rattle.tables.specs.declared.records.Format.TheVariants.{Simple, Records, Trimmed, Unknown}
use Rattle.tables.specs.declared.records.Kind.{Kind}
use Rattle.tables.specs.declared.survey.Record.{Record}
use Rattle.tables.specs.declared.survey.Surveyed.{Surveyed}
use Rattle.tables.specs.declared.survey.Surveyed.TheVariants.{Sorted, Bad, UnitSize, NoRecords, Nothing}

-- the record of a kind at a place, where all its bytes lie in the table
unfoldable pub record_in : List ℕ → Kind → ℕ → Option Record
record_in bytes kind place =
    cond (inside bytes place (stride_of kind)) (Some (record { first = first_at bytes kind place; last = last_at bytes place })) None

-- record i; the records begin at 12
unfoldable pub record_at : List ℕ → Kind → ℕ → Option Record
record_at bytes kind i = record_in bytes kind (record_place 12 kind i)

-- the lowest glyph that record i may begin with: behind the last of the record before it
unfoldable pub floor_of : List ℕ → Kind → ℕ → ℕ
floor_of bytes kind zero = 0
floor_of bytes kind (suc i) = suc (last_at bytes (record_place 12 kind i))

-- a record lies wholly in the table, begins behind the one before it, and does not end before it begins
abbrev pub ordered : ℕ → Option Record → Bool
ordered floor (Some r) = both (leb floor r.first) (leb r.first r.last)
ordered floor None = false

unfoldable pub in_order : List ℕ → Kind → ℕ → Bool
in_order bytes kind i = ordered (floor_of bytes kind i) (record_at bytes kind i)

-- the first of the numbers from i on, as many as told, at which the test fails
unfoldable pub scan : (ℕ → Bool) → ℕ → ℕ → Surveyed
scan good zero i = Sorted
scan good (suc left) i = elim (good i) [ true ↦ scan good left (suc i) | false ↦ Bad i ]

unfoldable pub scanned : List ℕ → Kind → ℕ → Surveyed
scanned bytes kind count = scan (in_order bytes kind) count 0

-- by the format; the count is at 4, and the unit size, at 2, lies in the table wherever that does. Records of another size are not looked at
unfoldable pub survey_in : List ℕ → Format → Surveyed
survey_in bytes (Records kind) =
    on_u16 (read_u16 bytes 4)
    (λ count. if_eq (u16_at bytes 2) (stride_of kind) (scanned bytes kind count) (UnitSize (u16_at bytes 2)))
    Nothing
survey_in bytes Simple = NoRecords
survey_in bytes (Trimmed head) = NoRecords
survey_in bytes Unknown = NoRecords

unfoldable pub survey_at : List ℕ → Surveyed
survey_at bytes = on_u16 (read_u16 bytes 0) (λ number. survey_in bytes (format_of number)) Nothing

abbrev pub unless_refused : Result Unit Refusal → Surveyed → Result Surveyed Refusal
unless_refused (Ok tt) work = Ok work
unless_refused (Err why) work = Err why

unfoldable pub surveyed : List ℕ → ℕ → Result Surveyed Refusal
surveyed table start = unless_refused (refuse (table_test (length table) ∷ [])) (survey_at (drop start table))
