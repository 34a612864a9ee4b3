-- The class of a glyph, as the crate finds it.
use Rattle.answers.specs.declared.Refusal.{Refusal}
use Rattle.tables.specs.declared.lookup.Why.{Why}
use Rattle.std.specs.Prelude.{ℕ, ◌+◌, ◌-◌, Bool, true, false, List, [], ◌∷◌, ltb, length, drop, Option, Some, None, Result, Ok, Err}
use Rattle.laws.specs.Choose.{if_lt, if_eq}
use Rattle.answers.specs.Refuse.{Test, refuse, table_test, checked}
use Rattle.answers.specs.declared.Refusal.TheVariants.{Head}
use Rattle.parse.specs.Reads.{read_u8}
use Rattle.tables.specs.Units.{lookup_by}
use Rattle.tables.specs.declared.units.Reading.{Reading}
use Rattle.state_tables.specs.States.{extended_at, classic_at}
use Rattle.state_tables.specs.declared.Edition.{Edition}
use Rattle.state_tables.specs.declared.Edition.TheVariants.{Extended, Classic}
use Rattle.state_tables.specs.declared.States.{States}

-- a failed lookup gives class 1
abbrev pub found_class : Result ℕ Why → ℕ
found_class (Ok class) = class
found_class (Err why) = 1

unfoldable pub class_by_lookup : List ℕ → ℕ → Reading → ℕ → ℕ
class_by_lookup bytes table reading glyph = found_class (lookup_by reading (drop table bytes) glyph)

-- and so does a glyph outside the array
abbrev pub byte_class : Option ℕ → ℕ
byte_class (Some class) = class
byte_class None = 1

unfoldable pub class_by_array : List ℕ → ℕ → ℕ → ℕ → ℕ → ℕ
class_by_array bytes place first count glyph =
    if_lt glyph first 1 (if_lt (glyph - first) count (byte_class (read_u8 bytes (place + (glyph - first)))) 1)

unfoldable pub class_in : List ℕ → Edition → ℕ → ℕ
class_in bytes (Extended table reading) glyph = class_by_lookup bytes table reading glyph
class_in bytes (Classic place first count) glyph = class_by_array bytes place first count glyph

-- glyph 0xFFFF has class 2 whatever the class table says
unfoldable pub class_of : List ℕ → States → ℕ → ℕ
class_of bytes states glyph = if_eq glyph 65535 2 (class_in bytes states.edition glyph)

-- HEAD: the start is past the table, or the crate's `new` gives None
abbrev pub head_fails : Bool → Option States → Bool
head_fails true made = true
head_fails false None = true
head_fails false (Some states) = false

unfoldable pub head_test : ℕ → ℕ → Option States → Test
head_test table_length start made = record { holds = head_fails (ltb table_length start) made; refusal = Head }

-- the class of a glyph by what a head gives; without a head the call is refused before, so that its line here is never reached
abbrev pub class_by : List ℕ → Option States → ℕ → Result (Option ℕ) Refusal
class_by bytes (Some states) glyph = Ok (Some (class_of bytes states glyph))
class_by bytes None glyph = Ok None

unfoldable pub class_reply : Option States → List ℕ → ℕ → ℕ → Result (Option ℕ) Refusal
class_reply made table start glyph =
    checked (refuse (table_test (length table) ∷ head_test (length table) start made ∷ [])) (class_by (drop start table) made glyph)

unfoldable pub class_extended : List ℕ → ℕ → ℕ → Result (Option ℕ) Refusal
class_extended table start glyph = class_reply (extended_at (drop start table)) table start glyph

unfoldable pub class_classic : List ℕ → ℕ → ℕ → Result (Option ℕ) Refusal
class_classic table start glyph = class_reply (classic_at (drop start table)) table start glyph
