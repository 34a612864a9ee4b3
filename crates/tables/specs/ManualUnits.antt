-- Apple's manual on the unit size of lookup format 10, as the lookup in the manual's reading obeys it. The manual was not at hand: docs/DIFFERENCES.md
-- says what these lines rest on.
use Rattle.std.specs.Prelude.{ℕ, ◌+◌, ◌≤◌, ◌≡◌, List, length, Some, None, Ok, Err}
use Rattle.parse.specs.Reads.{u8_at, u16_at, read_u16}
use Rattle.tables.specs.ManualLookup.{extended_trimmed_array, Lies}
use Rattle.tables.specs.Units.{lookup_by}
use Rattle.tables.specs.declared.lookup.Why.TheVariants.{CutShort, UnknownFormat}
use Rattle.tables.specs.declared.units.Reading.TheVariants.{Manual}

-- the unit sizes that are taken
pub data Size : Type 0 where
  one : Size
  two : Size

abbrev pub size_number : Size → ℕ
size_number one = 1
size_number two = 2

-- the element at a place, of so many bytes
abbrev pub value_at : List ℕ → Size → (place : ℕ) → ℕ
value_at bytes one place = u8_at bytes place
value_at bytes two place = u16_at bytes place

-- the lookup finds just the manual's element, where all its bytes lie in the table
pub record AsSized (bytes : List ℕ) (glyphs glyph : ℕ) (size : Size) : Type 0 where
  pub found : (element : ℕ) → lookup_by Manual bytes glyph ≡ Ok element
      → (place : ℕ) × Lies bytes glyphs glyph extended_trimmed_array place × (place + size_number size ≤ length bytes) × (element ≡ value_at bytes size place)
  pub there : (place : ℕ) → Lies bytes glyphs glyph extended_trimmed_array place → place + size_number size ≤ length bytes
      → lookup_by Manual bytes glyph ≡ Ok (value_at bytes size place)

-- format 10: with a size that is taken it is the manual's lookup, with any other it finds nothing
pub record FormatTen (bytes : List ℕ) (glyphs glyph : ℕ) : Type 0 where
  pub sized : (size : Size) → read_u16 bytes 2 ≡ Some (size_number size) → AsSized bytes glyphs glyph size
  pub unknown : (number : ℕ) → read_u16 bytes 2 ≡ Some number → ((size : Size) → number ≡ size_number size → ⊥)
      → lookup_by Manual bytes glyph ≡ Err UnknownFormat
  pub short : read_u16 bytes 2 ≡ None → lookup_by Manual bytes glyph ≡ Err CutShort
