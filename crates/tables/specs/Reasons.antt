-- Why a lookup finds nothing: what each reason says, by the reads that the crate's lookup tries.
use Rattle.std.specs.Prelude.{ℕ, zero, suc, ◌+◌, ◌-◌, ◌*◌, ◌/◌, ◌<◌, ◌≤◌, ◌≡◌, List, [], ◌∷◌, ◌⊎◌, length, Ok}
use Rattle.laws.specs.Choose.{if_lt}
use Rattle.parse.specs.Reads.{u16_at, read_u16}
use Rattle.parse.specs.Use.{on_u16}
use Rattle.tables.specs.Records.{record_place, format_of}
use Rattle.tables.specs.Lookup.{lookup_at}
use Rattle.tables.specs.ManualLookup.{Layout, format_number}
use Rattle.tables.specs.declared.records.Format.{Format}
use Rattle.tables.specs.declared.records.Format.TheVariants.{Simple, Records, Trimmed, Unknown}
use Rattle.tables.specs.declared.records.Kind.{Kind}
use Rattle.tables.specs.declared.records.Kind.TheVariants.{Ranges, Arrays, Singles}
use Rattle.tables.specs.declared.lookup.Why.{Why}
use Rattle.tables.specs.declared.lookup.Why.TheVariants.{NotCovered, CutShort, UnknownFormat}

-- reads are told as the places of the 16-bit numbers tried, in the crate's order. One that fails is the last; behind one that succeeds are those that
-- follow from its number
abbrev pub reading : List ℕ → (place : ℕ) → (ℕ → List ℕ) → List ℕ
reading bytes place behind = place ∷ on_u16 (read_u16 bytes place) behind []

-- one turn of the search, against the record at a place, and behind it what follows on each side: format 2 reads first only where last does not decide,
-- format 4 reads first, then last, format 6 has one glyph
abbrev pub turn_reads : List ℕ → Kind → (place glyph : ℕ) → (left here right : List ℕ) → List ℕ
turn_reads bytes Ranges place glyph left here right =
    reading bytes place (λ last. if_lt last glyph right (reading bytes (place + 2) (λ first. if_lt glyph first left here)))
turn_reads bytes Arrays place glyph left here right =
    reading bytes (place + 2) (λ first. reading bytes place (λ last. if_lt last glyph right (if_lt glyph first left here)))
turn_reads bytes Singles place glyph left here right =
    reading bytes place (λ one. if_lt one glyph right (if_lt glyph one left here))

-- the element of a glyph by the record at a place that holds it, whose first glyph is read already
abbrev pub element_reads : List ℕ → Kind → (place glyph : ℕ) → List ℕ
element_reads bytes Ranges place glyph = (place + 4) ∷ []
element_reads bytes Arrays place glyph = reading bytes (place + 4) (λ offset. (offset + (glyph - u16_at bytes (place + 2)) * 2) ∷ [])
element_reads bytes Singles place glyph = (place + 2) ∷ []

-- the search between lo and hi; `turns` bounds how often it halves
unfoldable pub search_reads : List ℕ → Kind → (glyph turns lo hi : ℕ) → List ℕ
search_reads bytes kind glyph zero lo hi = []
search_reads bytes kind glyph (suc turns) lo hi =
    let middle : ℕ = (lo + hi) / 2 in
    let place : ℕ = record_place 12 kind middle in
    if_lt lo hi
    (turn_reads bytes kind place glyph (search_reads bytes kind glyph turns lo middle) (element_reads bytes kind place glyph)
    (search_reads bytes kind glyph turns (middle + 1) hi)) []

-- by the format
abbrev pub format_reads : List ℕ → Format → (glyph : ℕ) → List ℕ
format_reads bytes Simple glyph = (2 + glyph * 2) ∷ []
format_reads bytes (Records kind) glyph = reading bytes 4 (λ count. search_reads bytes kind glyph count 0 count)
format_reads bytes (Trimmed head) glyph =
    reading bytes head
    (λ first. reading bytes (head + 2)
    (λ count. if_lt glyph first [] (if_lt (glyph - first) count ((head + 4 + (glyph - first) * 2) ∷ []) [])))
format_reads bytes Unknown glyph = []

-- all that a lookup tries
unfoldable pub lookup_reads : List ℕ → (glyph : ℕ) → List ℕ
lookup_reads bytes glyph = reading bytes 0 (λ number. format_reads bytes (format_of number) glyph)

-- one of these reads fails: its two bytes do not both lie in the table
unfoldable pub SomeFails : List ℕ → (places : List ℕ) → Type 0
SomeFails bytes [] = ⊥
SomeFails bytes (place ∷ places) = (length bytes < place + 2) ⊎ SomeFails bytes places

-- the format can be read and is none of the six
abbrev pub NoneOfSix : List ℕ → Type 0
NoneOfSix bytes = (2 ≤ length bytes) × ((layout : Layout) → u16_at bytes 0 ≡ format_number layout → ⊥)

-- what each reason says: not covered is what is neither of the others, where no element is found
unfoldable pub Because : List ℕ → (glyph : ℕ) → Why → Type 0
Because bytes glyph UnknownFormat = NoneOfSix bytes
Because bytes glyph CutShort = SomeFails bytes (lookup_reads bytes glyph)
Because bytes glyph NotCovered =
    (NoneOfSix bytes → ⊥) × (SomeFails bytes (lookup_reads bytes glyph) → ⊥) × ((element : ℕ) → lookup_at bytes glyph ≡ Ok element → ⊥)
