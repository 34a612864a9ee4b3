-- The crate's points are those that lie where the manual says, and they are found wherever all of them lies in the table.
use Rattle.std.specs.Prelude.{Option, Some, None, Result, Ok, Err}
use Rattle.tables.specs.declared.lookup.Why.{Why}
use Prim.Native.Nat.{ℕ, ◌+◌, ◌*◌, ◌≤◌}
use mathlib.Core.Path.{◌≡◌, refl, sym, ◌∙◌, ap}
use mathlib.Core.Bool.{Bool, true, false}
use mathlib.Core.List.{List}
use native.Mathlib.Omega.{arith}
use lib.IntN.{ℤ}
use lib.ListN.{length}
use Rattle.laws.specs.Signed.{signed16}
use Rattle.parse.specs.Reads.{inside, u16_at, read_i16, read_u16, read_u32}
use Rattle.parse.specs.Use.{on_u32}
use Rattle.parse.proofs.Laws.{inside_yes, inside-fits, read_u32_got, u32_value}
use Rattle.tables.specs.ManualLookup.{Layout, format_number, Alike}
use Rattle.tables.specs.ManualLookup as Lookup'
use Rattle.tables.specs.Lookup.{lookup_at}
use Rattle.tables.specs.Units.{lookup_by}
use Rattle.tables.specs.declared.units.Reading.TheVariants.{Crate}
use Rattle.tables.proofs.ManualLookup.{lookup_as_manual}
use Rattle.tables.proofs.Sizes.{in_crate}
use Rattle.anchors.specs.declared.Point.{Point}
use Rattle.anchors.proofs.Lying.{same_point}
use Rattle.anchors.specs.Anchors.{on_found, on_i16, on_points, points_of, point_at, point_of}
use Rattle.anchors.specs.Manual.{lookup_part, data_place, PointsLie, point_place, x_at, y_at, AsManual}

-- a signed number is read exactly where it lies in the table
i16_there : (ankr : List ℕ) (at : ℕ) → at + 2 ≤ length ankr → read_i16 ankr at ≡ Some (signed16 (u16_at ankr at))
unfolding read_i16
i16_there ankr at h = rw (inside_yes ankr at 2 (omega arith) (omega arith))

i16_found : (ankr : List ℕ) (at : ℕ) (n : ℤ) → read_i16 ankr at ≡ Some n → (at + 2 ≤ length ankr) × (n ≡ signed16 (u16_at ankr at))
unfolding read_i16
i16_found ankr at n e = go (inside ankr at 2) refl
  where
    go : (t : Bool) → inside ankr at 2 ≡ t → (at + 2 ≤ length ankr) × (n ≡ signed16 (u16_at ankr at))
    go true p =
        let v : Some (signed16 (u16_at ankr at)) ≡ Some n = sym (rw (p, read_i16)) ∙ e in
        (inside-fits ankr at 2 p, cc)
    go false p =
        let v : None ≡ Some n = sym (rw (p, read_i16)) ∙ e in
        absurd cc

-- and so is a point
point_there : (ankr : List ℕ) (at : ℕ) → at + 4 ≤ length ankr → point_at ankr at ≡ Some (record { x = x_at ankr at; y = y_at ankr at })
unfolding point_at
point_there ankr at h = rw (i16_there ankr at (omega arith), i16_there ankr (at + 2) (omega arith), point_at)

point_found : (ankr : List ℕ) (at : ℕ) (x y : ℤ) → point_at ankr at ≡ Some (record { x = x; y = y }) → (at + 4 ≤ length ankr) × (x ≡ x_at ankr at) × (y ≡ y_at ankr at)
unfolding point_at
point_found ankr at x y e = go (read_i16 ankr at) (read_i16 ankr (at + 2)) refl refl e
  where
    go : (a b : Option ℤ) → read_i16 ankr at ≡ a → read_i16 ankr (at + 2) ≡ b
        → on_i16 {A = Option Point} a (λ x. on_i16 b (λ y. Some (record { x = x; y = y })) None) None ≡ Some (record { x = x; y = y }) → (at + 4 ≤ length ankr) × (x ≡ x_at ankr at) × (y ≡ y_at ankr at)
    go (Some a) (Some b) p q f =
        let (in-x, x_is) = i16_found ankr at a p in
        let (in-y, y_is) = i16_found ankr (at + 2) b q in
        let (ax, by) = same_point f in
        (omega (arith, in-y), sym ax ∙ x_is, sym by ∙ y_is)
    go (Some a) None p q f = absurd cc
    go None b p q f = absurd cc

module _ (ankr : List ℕ) (glyphs glyph : ℕ) (layout : Layout) (number : ℕ) (whole : 12 ≤ length ankr)
    (format : read_u16 (lookup_part ankr) 0 ≡ Some (format_number layout)) (alike : Alike (lookup_part ankr) glyphs glyph layout) where
  looked : Lookup'.AsManual (lookup_part ankr) glyphs glyph layout
  looked = lookup_as_manual layout (lookup_part ankr) glyphs glyph format alike

  -- by what the lookup gives
  abbrev behind : Result ℕ Why → Option ℕ
  behind v =
      on_found v (λ n. on_u32 (read_u32 ankr (n + data_place ankr)) (λ count. Some (n + data_place ankr + 4)) None) None

  points_by_lem : {v : (Result ℕ Why)} → lookup_by Crate (lookup_part ankr) glyph ≡ v → points_of Crate ankr glyph ≡ behind v
  unfolding points_of
  points_by_lem e = rw (read_u32_got ankr 4 (omega arith), read_u32_got ankr 8 (omega arith), e, points_of)

  points-there : (place : ℕ) → PointsLie ankr glyphs glyph layout place → points_of Crate ankr glyph ≡ Some (place + 4)
  points-there place l =
      let n : ℕ = u16_at (lookup_part ankr) l.value in
      let same : n + data_place ankr ≡ place = omega (arith, l.begins) in
      points_by_lem (in_crate (lookup_part ankr) glyph ∙ looked.there l.value l.value_lies l.value_inside)
      ∙ ap (λ (p : ℕ). on_u32 (read_u32 ankr p) (λ count. Some (p + 4)) None) same
      ∙ rw (read_u32_got ankr place l.counted)

  point_is : (place : ℕ) → points_of Crate ankr glyph ≡ Some (place + 4) → point_of Crate ankr glyph number ≡ point_at ankr (point_place place number)
  unfolding point_of
  point_is place e = rw (e, point_of)

  points-found : (from : ℕ) → points_of Crate ankr glyph ≡ Some from → (place : ℕ) × PointsLie ankr glyphs glyph layout place × (from ≡ place + 4)
  points-found from e = go (lookup_at (lookup_part ankr) glyph) refl
    where
      counted : (n : ℕ) → lookup_at (lookup_part ankr) glyph ≡ Ok n → (r : Option ℕ) → read_u32 ankr (n + data_place ankr) ≡ r
          → on_u32 r (λ count. Some (n + data_place ankr + 4)) None ≡ Some from
          → (place : ℕ) × PointsLie ankr glyphs glyph layout place × (from ≡ place + 4)
      counted n f (Some count) g p =
          let (value, lies, inside, n-is) = looked.found n f in
          let q : n + data_place ankr + 4 ≡ from = cc in (
            n + data_place ankr,
            record { value = value; value_lies = lies; value_inside = inside; begins = omega (arith, n-is); counted = (u32_value ankr (n + data_place ankr) g).0 },
            sym q,
          )
      counted n f None g p = absurd cc

      go : (v : Result ℕ Why) → lookup_at (lookup_part ankr) glyph ≡ v → (place : ℕ) × PointsLie ankr glyphs glyph layout place × (from ≡ place + 4)
      go (Ok n) f =
          counted n f (read_u32 ankr (n + data_place ankr)) refl (sym (points_by_lem (in_crate (lookup_part ankr) glyph ∙ f)) ∙ e)
      go (Err why) f =
          let n : None ≡ Some from = sym (points_by_lem (in_crate (lookup_part ankr) glyph ∙ f)) ∙ e in
          absurd cc

  pub points_as_manual : AsManual ankr glyphs glyph layout number
  unfolding point_of
  points_as_manual =
      record {
        found = λ x y e. by_points (points_of Crate ankr glyph) refl x y e;
        there = λ place l h. point_is place (points-there place l) ∙ point_there ankr (point_place place number) h;
      }
    where
      by_points : (r : Option ℕ) → points_of Crate ankr glyph ≡ r → (x y : ℤ) → on_points r (λ p. point_at ankr (p + number * 4)) None ≡ Some (record { x = x; y = y })
          → (place : ℕ) × PointsLie ankr glyphs glyph layout place × (point_place place number + 4 ≤ length ankr)
          × (x ≡ x_at ankr (point_place place number)) × (y ≡ y_at ankr (point_place place number))
      by_points (Some from) p x y e =
          let (place, lies, from_is) = points-found from p in
          let there : point_at ankr (point_place place number) ≡ Some (record { x = x; y = y }) = ap (λ (f : ℕ). point_at ankr (f + number * 4)) (sym from_is) ∙ e in
          let (inside, x_is, y_is) = point_found ankr (point_place place number) x y there in
          (place, lies, inside, x_is, y_is)
      by_points None p x y e = absurd cc
