-- Apple's manual on the ankr table: its lookup begins at the 32-bit number at 4, and the glyphs' points at the one at 8. A glyph's value in the lookup is
-- where its own begin, from there on: their count, of 32 bits, and then the points, x and y of 16 bits each, with a sign. The manual was not at hand:
-- docs/DIFFERENCES.md says what these lines rest on.
use Rattle.std.specs.Prelude.{ℕ, ◌+◌, ◌*◌, ◌≤◌, ◌≡◌, List, ℤ, length, drop, Some}
use Rattle.laws.specs.Signed.{signed16}
use Rattle.parse.specs.Reads.{u16_at, u32_at}
use Rattle.tables.specs.ManualLookup.{Layout, Lies}
use Rattle.tables.specs.declared.units.Reading.TheVariants.{Crate}
use Rattle.anchors.specs.Anchors.{point_of}

abbrev pub lookup_part : List ℕ → List ℕ
lookup_part ankr = drop (u32_at ankr 4) ankr

abbrev pub data_place : List ℕ → ℕ
data_place ankr = u32_at ankr 8

-- a glyph's points begin at a place, in a font of so many glyphs
pub record PointsLie (ankr : List ℕ) (glyphs glyph : ℕ) (layout : Layout) (place : ℕ) : Type 0 where
  pub value : ℕ
  pub value_lies : Lies (lookup_part ankr) glyphs glyph layout value
  pub value_inside : value + 2 ≤ length (lookup_part ankr)
  pub begins : place ≡ data_place ankr + u16_at (lookup_part ankr) value
  pub counted : place + 4 ≤ length ankr

-- where their point of a number lies, and its x and y. A number that is not below the count, which is the 32-bit number at their place, has no point by
-- the manual; that is a difference (docs/DIFFERENCES.md, row 54)
abbrev pub point_place : (place number : ℕ) → ℕ
point_place place number = place + 4 + number * 4

abbrev pub x_at : List ℕ → (place : ℕ) → ℤ
x_at ankr place = signed16 (u16_at ankr place)

abbrev pub y_at : List ℕ → (place : ℕ) → ℤ
y_at ankr place = signed16 (u16_at ankr (place + 2))

-- the crate's point of a number is just the one that lies there, where all of it is in the table
pub record AsManual (ankr : List ℕ) (glyphs glyph : ℕ) (layout : Layout) (number : ℕ) : Type 0 where
  pub found : (x y : ℤ) → point_of Crate ankr glyph number ≡ Some (record { x = x; y = y })
      → (place : ℕ) × PointsLie ankr glyphs glyph layout place × (point_place place number + 4 ≤ length ankr)
      × (x ≡ x_at ankr (point_place place number)) × (y ≡ y_at ankr (point_place place number))
  pub there : (place : ℕ) → PointsLie ankr glyphs glyph layout place → point_place place number + 4 ≤ length ankr
      → point_of Crate ankr glyph number ≡ Some (record { x = x_at ankr (point_place place number); y = y_at ankr (point_place place number) })
