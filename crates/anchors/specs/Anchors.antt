-- The anchor points of glyphs, as the crate reads an ankr table, over its bytes.
use Rattle.tables.specs.declared.lookup.Why.{Why}
use Rattle.std.specs.Prelude.{ℕ, ◌+◌, ◌*◌, List, ltb, ℤ, drop, Option, Some, None, Result, Ok, Err}
use Rattle.answers.specs.Limits.{table_limit}
use Rattle.answers.specs.Refuse.{Test}
use Rattle.answers.specs.declared.Refusal.TheVariants as Refusal'
use Rattle.parse.specs.Reads.{read_i16, read_u32}
use Rattle.parse.specs.Use.{on_u32}
use Rattle.tables.specs.Units.{lookup_by}
use Rattle.tables.specs.declared.units.Reading.{Reading}
use Rattle.anchors.specs.declared.Point.{Point}

-- ANCHOR: the ankr table is too long
unfoldable pub anchor_test : (ankr_length : ℕ) → Test
anchor_test ankr_length = record { holds = ltb table_limit ankr_length; refusal = Refusal'.Anchor }

abbrev pub on_i16 : {A : Type 0} → Option ℤ → (ℤ → A) → A → A
on_i16 (Some n) use-it otherwise = use-it n
on_i16 None use-it otherwise = otherwise

abbrev pub on_found : {A : Type 0} → Result ℕ Why → (ℕ → A) → A → A
on_found (Ok element) use-it otherwise = use-it element
on_found (Err why) use-it otherwise = otherwise

abbrev pub on_points : {A : Type 0} → Option ℕ → (ℕ → A) → A → A
on_points (Some place) use-it otherwise = use-it place
on_points None use-it otherwise = otherwise

-- where a glyph's points begin: at 4 stands where the lookup begins, which has a number for the glyph, and at 8 from where on that counts. There the
-- count of the points has to be readable, which the crate does not compare with a point's number (docs/DIFFERENCES.md); the points are behind it
unfoldable pub points_of : Reading → List ℕ → (glyph : ℕ) → Option ℕ
points_of reading ankr glyph =
    on_u32 (read_u32 ankr 4)
    (λ lookup. on_u32 (read_u32 ankr 8)
    (λ base. on_found (lookup_by reading (drop lookup ankr) glyph)
    (λ number. on_u32 (read_u32 ankr (number + base)) (λ count. Some (number + base + 4)) None)
    None) None) None

-- a point is x and y, signed numbers of 16 bits
unfoldable pub point_at : List ℕ → (place : ℕ) → Option Point
point_at ankr place =
    on_i16 (read_i16 ankr place) (λ x. on_i16 (read_i16 ankr (place + 2)) (λ y. Some (record { x = x; y = y })) None) None

-- the point of a glyph with a number
unfoldable pub point_of : Reading → List ℕ → (glyph number : ℕ) → Option Point
point_of reading ankr glyph number = on_points (points_of reading ankr glyph) (λ place. point_at ankr (place + number * 4)) None
