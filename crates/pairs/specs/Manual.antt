-- Apple's manual on kerning pairs: which pair is that of two glyphs, and what its value is. The manual was not at hand: docs/DIFFERENCES.md says
-- what these lines rest on.
use Rattle.answers.specs.declared.Refusal.{Refusal}
use Rattle.std.specs.Prelude.{ℕ, suc, ◌+◌, ◌*◌, ◌<◌, ◌≤◌, ◌≡◌, List, ℤ, length, drop, Some, Result, Ok, Err}
use Rattle.laws.specs.Choose.{if_eq}
use Rattle.laws.specs.Signed.{signed16}
use Rattle.parse.specs.Reads.{u16_at, u32_at, read_u16}
use Rattle.tables.specs.ManualLookup.{Layout, format_number, Lies, Alike}
use Rattle.tables.specs.declared.lookup.Why.{Why}

-- a pair has 6 bytes: left glyph, right glyph and value, of 16 bits each
abbrev pub pair_at : (first i : ℕ) → ℕ
pair_at first i = first + i * 6

-- the two glyphs of pair i as one number of 32 bits, by which the pairs are sorted
abbrev pub pair_key : List ℕ → (first i : ℕ) → ℕ
pair_key bytes first i = u32_at bytes (pair_at first i)

-- pair i of so many is that of two glyphs
pub record IsPair (bytes : List ℕ) (first count left right i : ℕ) : Type 0 where
  pub counted : i < count
  pub glyphs : pair_key bytes first i ≡ left * 65536 + right

-- its value: without tuples the number behind its glyphs; with tuples that is where the number stands, from the subtable's start on
abbrev pub pair_value : List ℕ → (tuples first i : ℕ) → ℤ
pair_value bytes tuples first i =
    if_eq tuples 0 (signed16 (u16_at bytes (pair_at first i + 4))) (signed16 (u16_at bytes (u16_at bytes (pair_at first i + 4))))

-- so many pairs lie in the table, in rising order
pub record Rising (bytes : List ℕ) (first count : ℕ) : Type 0 where
  pub whole : (i : ℕ) → i < count → pair_at first i + 6 ≤ length bytes
  pub upward : (i : ℕ) → suc i < count → pair_key bytes first i < pair_key bytes first (suc i)

-- the value that ordered pairs have for two glyphs
abbrev pub OrderedValue : List ℕ → (tuples first count left right : ℕ) → ℤ → Type 0
OrderedValue bytes tuples first count left right value =
    (i : ℕ) × IsPair bytes first count left right i × (value ≡ pair_value bytes tuples first i)

-- class pairs: row and column are the values of the two lookup tables, already multiplied by a row's and a number's bytes, so that their sum is where the
-- number stands in the array, in bytes. Three readings are about (docs/DIFFERENCES.md, row 32); this one is taken, since only here do values that are
-- multiplied already, a row width in bytes and an array with an offset of its own all mean something
pub record ClassPair (bytes : List ℕ) (glyphs rows columns array left right : ℕ) (left_layout right_layout : Layout) (place : ℕ) : Type 0 where
  pub row : ℕ
  pub row_lies : Lies (drop rows bytes) glyphs left left_layout row
  pub row_inside : row + 2 ≤ length (drop rows bytes)
  pub column : ℕ
  pub column_lies : Lies (drop columns bytes) glyphs right right_layout column
  pub column_inside : column + 2 ≤ length (drop columns bytes)
  pub sum : place ≡ array + u16_at (drop rows bytes) row + u16_at (drop columns bytes) column
  pub inside : place + 2 ≤ length bytes

-- the value that class pairs have for two glyphs, in a font of so many
abbrev pub ClassValue : List ℕ → (glyphs rows columns array left right : ℕ) → (left_layout right_layout : Layout) → ℤ → Type 0
ClassValue bytes glyphs rows columns array left right left_layout right_layout value =
    (place : ℕ) × ClassPair bytes glyphs rows columns array left right left_layout right_layout place × (value ≡ signed16 (u16_at bytes place))

-- a lookup table of this layout, which crate and manual read alike for a glyph
abbrev pub Legible : List ℕ → (glyphs glyph : ℕ) → Layout → Type 0
Legible bytes glyphs glyph layout = (read_u16 bytes 0 ≡ Some (format_number layout)) × Alike bytes glyphs glyph layout

-- and has an element for the glyph that lies in the table
abbrev pub Covered : List ℕ → (glyphs glyph : ℕ) → Layout → Type 0
Covered bytes glyphs glyph layout = (place : ℕ) × Lies bytes glyphs glyph layout place × (place + 2 ≤ length bytes)

-- the answer for a pair is the manual's: DONE with just the value that the pair has, NOTHING exactly when it has none, and then for this reason
pub record AsManual (reply : Result (Result ℤ Why) Refusal) (Value : ℤ → Type 0) (reason : Why) : Type 0 where
  pub found : (value : ℤ) → reply ≡ Ok (Ok value) → Value value
  pub there : (value : ℤ) → Value value → reply ≡ Ok (Ok value)
  pub nothing : (why : Why) → reply ≡ Ok (Err why) → (value : ℤ) → Value value → ⊥
  pub none : ((value : ℤ) → Value value → ⊥) → reply ≡ Ok (Err reason)
