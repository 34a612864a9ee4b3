-- Apple's manual on lookup tables of 16-bit values: which unit holds a glyph, and where its element lies in each of the six formats.
-- The manual was not at hand: docs/DIFFERENCES.md says what these lines rest on.
use Rattle.std.specs.Prelude.{ℕ, ◌+◌, ◌-◌, ◌*◌, ◌<◌, ◌≤◌, ◌≡◌, List, length, Ok}
use Rattle.parse.specs.Reads.{u16_at}
use Rattle.tables.specs.Survey.{survey_at}
use Rattle.tables.specs.Lookup.{lookup_at}
use Rattle.tables.specs.declared.survey.Surveyed.TheVariants.{Sorted}

-- the formats by name; three of them are sorted units behind a search header
pub data Units : Type 0 where
  segments : Units
  segment_arrays : Units
  singles : Units

pub data Layout : Type 0 where
  simple_array : Layout
  units : Units → Layout
  trimmed_array : Layout
  extended_trimmed_array : Layout

abbrev pub format_number : Layout → ℕ
format_number simple_array = 0
format_number (units segments) = 2
format_number (units segment_arrays) = 4
format_number (units singles) = 6
format_number trimmed_array = 8
format_number extended_trimmed_array = 10

-- the search header: the size of a unit at 2 (there too in format 10), how many there are at 4; unit 0 begins at 12
abbrev pub unit_size : List ℕ → ℕ
unit_size bytes = u16_at bytes 2

abbrev pub unit_count : List ℕ → ℕ
unit_count bytes = u16_at bytes 4

abbrev pub unit_place : List ℕ → ℕ → ℕ
unit_place bytes i = 12 + i * unit_size bytes

-- a unit has last glyph, first glyph and element; last glyph, first glyph and the offset of an array; or glyph and element. The first and the
-- last glyph of the unit at a place
abbrev pub first_glyph : List ℕ → Units → ℕ → ℕ
first_glyph bytes segments place = u16_at bytes (place + 2)
first_glyph bytes segment_arrays place = u16_at bytes (place + 2)
first_glyph bytes singles place = u16_at bytes place

abbrev pub last_glyph : List ℕ → Units → ℕ → ℕ
last_glyph bytes segments place = u16_at bytes place
last_glyph bytes segment_arrays place = u16_at bytes place
last_glyph bytes singles place = u16_at bytes place

-- unit i is counted, spans the glyph, and is no sentinel, whose key words are all 0xFFFF
pub record UnitHolds (bytes : List ℕ) (kind : Units) (glyph i : ℕ) : Type 0 where
  pub counted : i < unit_count bytes
  pub above : first_glyph bytes kind (unit_place bytes i) ≤ glyph
  pub below : glyph ≤ last_glyph bytes kind (unit_place bytes i)
  pub real : first_glyph bytes kind (unit_place bytes i) ≡ 65535 → last_glyph bytes kind (unit_place bytes i) ≡ 65535 → ⊥

-- where the element of a glyph lies, by the unit at a place that holds it; an array's offset counts from the lookup's own start
abbrev pub element_place : List ℕ → Units → ℕ → ℕ → ℕ
element_place bytes segments glyph place = place + 4
element_place bytes segment_arrays glyph place = u16_at bytes (place + 4) + (glyph - u16_at bytes (place + 2)) * 2
element_place bytes singles glyph place = place + 2

-- a trimmed array spans the glyph
abbrev pub Spans : ℕ → ℕ → ℕ → Type 0
Spans first count glyph = (first ≤ glyph) × (glyph < first + count)

-- the element of a glyph lies at a place, in a font of so many glyphs
unfoldable pub Lies : List ℕ → ℕ → ℕ → Layout → ℕ → Type 0
Lies bytes glyphs glyph simple_array place = (glyph < glyphs) × (place ≡ 2 + glyph * 2)
Lies bytes glyphs glyph (units kind) place =
    (i : ℕ) × UnitHolds bytes kind glyph i × (place ≡ element_place bytes kind glyph (unit_place bytes i))
Lies bytes glyphs glyph trimmed_array place =
    Spans (u16_at bytes 2) (u16_at bytes 4) glyph × (place ≡ 6 + (glyph - u16_at bytes 2) * 2)
Lies bytes glyphs glyph extended_trimmed_array place =
    Spans (u16_at bytes 4) (u16_at bytes 6) glyph × (place ≡ 8 + (glyph - u16_at bytes 4) * unit_size bytes)

-- where crate and manual read alike: in format 0 below the font's glyph count; in formats 2, 4 and 6 for a glyph below 0xFFFF, on a
-- table that the survey passes; in format 10 with elements of two bytes
unfoldable pub Alike : List ℕ → ℕ → ℕ → Layout → Type 0
Alike bytes glyphs glyph simple_array = glyph < glyphs
Alike bytes glyphs glyph (units kind) = (glyph < 65535) × (survey_at bytes ≡ Sorted)
Alike bytes glyphs glyph trimmed_array = Unit {0}
Alike bytes glyphs glyph extended_trimmed_array = unit_size bytes ≡ 2

-- the crate's lookup finds just the manual's element, where that lies in the table
pub record AsManual (bytes : List ℕ) (glyphs glyph : ℕ) (layout : Layout) : Type 0 where
  pub found : (element : ℕ) → lookup_at bytes glyph ≡ Ok element
      → (place : ℕ) × Lies bytes glyphs glyph layout place × (place + 2 ≤ length bytes) × (element ≡ u16_at bytes place)
  pub there : (place : ℕ) → Lies bytes glyphs glyph layout place → place + 2 ≤ length bytes
      → lookup_at bytes glyph ≡ Ok (u16_at bytes place)
