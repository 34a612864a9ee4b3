-- For the code alone; no entry and no promise rests on it, and nobody has to believe it. What the code keeps of an ankr table that it opens once for
-- many glyphs.
use Rattle.tables.specs.declared.lookup.Why.{Why}
use Rattle.std.specs.Prelude.{ℕ, ◌+◌, ◌*◌, ◌≤◌, ◌≡◌, List, drop, Option, Some, None, Result, Ok, Err}
use Rattle.parse.specs.Reads.{read_u32}
use Rattle.parse.specs.Use.{on_u32}
use Rattle.tables.specs.Opened.{opened_of}
use Rattle.tables.specs.Units.{units_by}
use Rattle.tables.specs.declared.opened.Array.{Array}
use Rattle.tables.specs.declared.units.Reading.{Reading}
use Rattle.tables.specs.declared.units.Units.{Units}
use Rattle.tables.specs.declared.units.Units.TheVariants as Units'
use Rattle.anchors.specs.Anchors.{on_found, point_at, point_of}
use Rattle.anchors.specs.declared.Point.{Point}
use Rattle.anchors.specs.declared.opened.Anchors.{Anchors}
use Rattle.anchors.specs.declared.opened.Anchors.TheVariants.{Words, Searched, Other}

abbrev pub anchors_from : (lookup origin : ℕ) → Option Array → Anchors
anchors_from lookup origin (Some array) = Words origin array
anchors_from lookup origin None = Searched lookup origin

unfoldable pub anchors_in : List ℕ → (lookup origin : ℕ) → Result Units Why → Anchors
anchors_in ankr lookup origin (Ok Units'.Words) = anchors_from lookup origin (opened_of (drop lookup ankr))
anchors_in ankr lookup origin (Ok (Units'.Bytes first count)) = Other
anchors_in ankr lookup origin (Err why) = Other

unfoldable pub anchors_of : Reading → List ℕ → Anchors
anchors_of reading ankr =
    on_u32 (read_u32 ankr 4)
    (λ lookup. on_u32 (read_u32 ankr 8) (λ origin. anchors_in ankr lookup origin (units_by reading (drop lookup ankr))) Other) Other

-- the table from its lookup on
unfoldable pub part_of : List ℕ → List ℕ
part_of ankr = on_u32 (read_u32 ankr 4) (λ lookup. drop lookup ankr) (drop 0 ankr)

-- no table is that long
abbrev pub nowhere : ℕ
nowhere = 0x8000000000000000

abbrev pub place_of : Option ℕ → ℕ
place_of (Some place) = place
place_of None = nowhere

-- points behind their count, and those that the lookup has a number for
abbrev pub points_from : List ℕ → (place : ℕ) → Option ℕ
points_from ankr place = on_u32 (read_u32 ankr place) (λ count. Some (place + 4)) None

abbrev pub points_by : List ℕ → (origin : ℕ) → Result ℕ Why → Option ℕ
points_by ankr origin found = on_found found (λ number. points_from ankr (number + origin)) None

abbrev pub point_by : List ℕ → (origin number : ℕ) → Result ℕ Why → Option Point
point_by ankr origin number found = on_found found (λ n. point_at ankr (n + origin + 4 + number * 4)) None

-- a glyph's points are those from a place on
pub record Placed (reading : Reading) (ankr : List ℕ) (glyph place : ℕ) : Type 0 where
  pub reached : place ≤ nowhere
  pub points : (number : ℕ) → point_at ankr (place + number * 4) ≡ point_of reading ankr glyph number
