-- For the code alone; no entry and no promise rests on it, and nobody has to believe it. What the code keeps of a lookup table that it opens once for
-- many glyphs.
use Rattle.tables.specs.declared.lookup.Why.{Why}
use Rattle.std.specs.Prelude.{ℕ, ◌+◌, ◌-◌, ◌*◌, ◌/◌, ◌≤◌, ◌≡◌, List, length, Option, Some, None, Result, Ok, Err}
use Rattle.laws.specs.Choose.{if_lt}
use Rattle.parse.specs.Reads.{u16_at, read_u16}
use Rattle.parse.specs.Use.{on_u16}
use Rattle.tables.specs.Records.{format_of}
use Rattle.tables.specs.Lookup.{lookup_at}
use Rattle.tables.specs.declared.records.Format.{Format}
use Rattle.tables.specs.declared.records.Format.TheVariants.{Simple, Records, Trimmed, Unknown}
use Rattle.tables.specs.declared.lookup.Why.TheVariants.{NotCovered}
use Rattle.tables.specs.declared.opened.Array.{Array}

-- how many elements of an array at `base` can lie in the table
unfoldable pub most_in : List ℕ → (base : ℕ) → ℕ
most_in bytes base = (length bytes - base) / 2

unfoldable pub opened_array : List ℕ → (base first count : ℕ) → Option Array
opened_array bytes base first count = Some (record { base = base; first = first; count = if_lt (most_in bytes base) count (most_in bytes base) count })

unfoldable pub opened_trimmed : List ℕ → (head : ℕ) → Option Array
opened_trimmed bytes head =
    on_u16 (read_u16 bytes head) (λ first. on_u16 (read_u16 bytes (head + 2)) (λ count. opened_array bytes (head + 4) first count) None) None

abbrev pub opened_by : List ℕ → Format → Option Array
opened_by bytes Simple = Some (record { base = 2; first = 0; count = most_in bytes 2 })
opened_by bytes (Records kind) = None
opened_by bytes (Trimmed head) = opened_trimmed bytes head
opened_by bytes Unknown = None

unfoldable pub opened_of : List ℕ → Option Array
opened_of bytes = on_u16 (read_u16 bytes 0) (λ number. opened_by bytes (format_of number)) None

-- an answer, why there is none not told apart
abbrev pub plain : Result ℕ Why → Result ℕ Why
plain (Ok element) = Ok element
plain (Err why) = Err NotCovered

unfoldable pub in_array : List ℕ → (base first count glyph : ℕ) → Result ℕ Why
in_array bytes base first count glyph =
    if_lt glyph first (Err NotCovered)
    (if_lt (glyph - first) count (Ok (u16_at bytes (base + (glyph - first) * 2))) (Err NotCovered))

unfoldable pub found_in : List ℕ → Option Array → (glyph : ℕ) → Result ℕ Why
found_in bytes (Some array) glyph = in_array bytes array.base array.first array.count glyph
found_in bytes None glyph = plain (lookup_at bytes glyph)

-- all elements of an array lie in the table
abbrev pub LiesIn : List ℕ → Option Array → Type 0
LiesIn bytes opened = (array : Array) → opened ≡ Some array → array.count ≤ most_in bytes array.base
