-- The crate's lookup of 16-bit elements, over the bytes from the lookup table's own start on.
use Rattle.answers.specs.declared.Refusal.{Refusal}
use Rattle.tables.specs.declared.lookup.Why.{Why}
use Rattle.std.specs.Prelude.{ℕ, ◌+◌, ◌-◌, ◌*◌, List, [], ◌∷◌, length, drop, Result, Ok, Err}
use Rattle.laws.specs.Choose.{if_lt}
use Rattle.answers.specs.Refuse.{refuse, table_test}
use Rattle.answers.specs.declared.Answer.{Answer}
use Rattle.answers.specs.declared.Answer.TheVariants as Answer'
use Rattle.parse.specs.Reads.{read_u16}
use Rattle.parse.specs.Use.{on_u16}
use Rattle.tables.specs.Records.{record_place, format_of}
use Rattle.tables.specs.declared.records.Format.{Format}
use Rattle.tables.specs.declared.records.Format.TheVariants.{Simple, Records, Trimmed, Unknown}
use Rattle.tables.specs.Search.{searched}
use Rattle.tables.specs.declared.records.Keys.TheVariants.{Glyphs}
use Rattle.tables.specs.declared.records.Kind.{Kind}
use Rattle.tables.specs.declared.records.Kind.TheVariants.{Ranges, Arrays, Singles}
use Rattle.tables.specs.declared.records.Spot.{Spot}
use Rattle.tables.specs.declared.records.Spot.TheVariants as Spot'
use Rattle.tables.specs.declared.lookup.Why.TheVariants.{NotCovered, CutShort, UnknownFormat}

-- the element at a place
unfoldable pub element_at : List ℕ → ℕ → Result ℕ Why
element_at bytes place = on_u16 (read_u16 bytes place) Ok (Err CutShort)

-- the element of a glyph in the record at a place that holds it: in formats 2 and 6 the record's own, in format 4 one of an
-- array, which begins at the record's offset, counted from the lookup's own start
unfoldable pub element_of : List ℕ → Kind → ℕ → ℕ → Result ℕ Why
element_of bytes Ranges place glyph = element_at bytes (place + 4)
element_of bytes Singles place glyph = element_at bytes (place + 2)
element_of bytes Arrays place glyph =
    on_u16 (read_u16 bytes (place + 2))
    (λ first. on_u16 (read_u16 bytes (place + 4)) (λ offset. element_at bytes (offset + (glyph - first) * 2)) (Err CutShort))
    (Err CutShort)

unfoldable pub element_in : List ℕ → Kind → ℕ → Spot → Result ℕ Why
element_in bytes kind glyph (Spot'.At i) = element_of bytes kind (record_place 12 kind i) glyph
element_in bytes kind glyph Spot'.Absent = Err NotCovered
element_in bytes kind glyph Spot'.Cut = Err CutShort

-- formats 2, 4 and 6: the count is at 4, the records begin at 12
unfoldable pub in_records : List ℕ → Kind → ℕ → Result ℕ Why
in_records bytes kind glyph =
    on_u16 (read_u16 bytes 4) (λ count. element_in bytes kind glyph (searched bytes 12 (Glyphs kind) count glyph)) (Err CutShort)

-- formats 8 and 10: first and count at `head`, the elements behind them
unfoldable pub trimmed_at : List ℕ → ℕ → ℕ → Result ℕ Why
trimmed_at bytes head glyph =
    on_u16 (read_u16 bytes head)
    (λ first. on_u16 (read_u16 bytes (head + 2))
    (λ count. if_lt glyph first (Err NotCovered)
    (if_lt (glyph - first) count (element_at bytes (head + 4 + (glyph - first) * 2)) (Err NotCovered)))
    (Err CutShort))
    (Err CutShort)

-- by the format: 0 has an element for each glyph
unfoldable pub in_format : List ℕ → Format → ℕ → Result ℕ Why
in_format bytes Simple glyph = element_at bytes (2 + glyph * 2)
in_format bytes (Records kind) glyph = in_records bytes kind glyph
in_format bytes (Trimmed head) glyph = trimmed_at bytes head glyph
in_format bytes Unknown glyph = Err UnknownFormat

unfoldable pub lookup_at : List ℕ → ℕ → Result ℕ Why
lookup_at bytes glyph = on_u16 (read_u16 bytes 0) (λ format. in_format bytes (format_of format) glyph) (Err CutShort)

-- the public answer: the element, or nothing and why
abbrev pub reply_of : Result ℕ Why → Result (Result ℕ Why) Refusal
reply_of found = Ok found

-- a refused call is answered so, any other by its work
abbrev pub checked_lookup : Result Unit Refusal → Result (Result ℕ Why) Refusal → Result (Result ℕ Why) Refusal
checked_lookup (Ok tt) work = work
checked_lookup (Err why) work = Err why

unfoldable pub lookup_reply : List ℕ → ℕ → ℕ → Result (Result ℕ Why) Refusal
lookup_reply table start glyph = checked_lookup (refuse (table_test (length table) ∷ [])) (reply_of (lookup_at (drop start table) glyph))

-- the answer of a reply: an element is DONE
abbrev pub answer_of : Result (Result ℕ Why) Refusal → Answer
answer_of (Ok (Ok element)) = Answer'.Done
answer_of (Ok (Err why)) = Answer'.Nothing
answer_of (Err why) = Answer'.Refused why

-- the number lent for the value, afterwards: the element, or as it was
abbrev pub value_of : Result (Result ℕ Why) Refusal → ℕ → ℕ
value_of (Ok (Ok element)) was = element
value_of (Ok (Err why)) was = was
value_of (Err why) was = was
