-- An ankr table that was opened gives the points that it gave before.
use Rattle.std.specs.Prelude.{Option, Some, None, Result, Ok, Err}
use Rattle.tables.specs.declared.lookup.Why.{Why}
use Prim.Native.Nat.{ℕ, ◌+◌, ◌*◌, ◌<◌, ◌≤◌}
use mathlib.Core.Path.{◌≡◌, refl, sym, ◌∙◌, ap, subst, subst⁻¹}
use mathlib.Core.List.{List}
use mathlib.Core.Logic.{⊎_elim}
use native.Mathlib.Omega.{arith}
use lib.ListN.{length, drop}
use Rattle.laws.proofs.Numbers.{lt-or-ge}
use Rattle.parse.specs.Reads.{read_u32}
use Rattle.parse.proofs.Laws.{read_u32_got, read_u32-short}
use Rattle.tables.specs.Lookup.{lookup_at}
use Rattle.tables.specs.Units.{units_by, lookup_by}
use Rattle.tables.specs.Opened.{opened_of, plain, found_in, LiesIn}
use Rattle.tables.specs.declared.opened.Array.{Array}
use Rattle.tables.specs.declared.units.Reading.{Reading}
use Rattle.tables.specs.declared.units.Units.{Units}
use Rattle.tables.specs.declared.units.Units.TheVariants as Units'
use Rattle.tables.proofs.Sizes.{in_words_lem}
use Rattle.tables.proofs.Openings.{opened-same, opened-lies}
use Rattle.anchors.specs.Anchors.{on_found, on_points, points_of, point_at, point_of}
use Rattle.anchors.specs.Opened.{anchors_from, anchors_in, anchors_of, part_of, nowhere, place_of, points_from, points_by, point_by, Placed}
use Rattle.anchors.specs.declared.Point.{Point}
use Rattle.anchors.specs.declared.opened.Anchors.{Anchors}
use Rattle.anchors.specs.declared.opened.Anchors.TheVariants.{Words, Searched, Other}
use Rattle.anchors.proofs.Lying.{point_short, points_lie}

-- why nothing was found does not matter to a point
plain_point : (found : Result ℕ Why) (use-it : ℕ → Option Point) → on_found (plain found) use-it None ≡ on_found found use-it None
plain_point (Ok n) use-it = refl
plain_point (Err why) use-it = refl

-- where a point lies in the table, so does the count before it
counted : (ankr : List ℕ) (at number : ℕ)
    → on_points (points_from ankr at) (λ place. point_at ankr (place + number * 4)) None
    ≡ point_at ankr (at + 4 + number * 4)
counted ankr at number =
    ⊎_elim
    (λ (h : length ankr < at + 4). rw (read_u32-short ankr at h) (point_short ankr (at + 4 + number * 4) (omega arith)))
    (λ (h : at + 4 ≤ length ankr). rw (read_u32_got ankr at h))
    (lt-or-ge (length ankr) (at + 4))

module _ (reading : Reading) (ankr : List ℕ) where
  -- a glyph's points and each of them, by what the lookup has for it
  module _ {lookup origin : ℕ} (e : read_u32 ankr 4 ≡ Some lookup) (f : read_u32 ankr 8 ≡ Some origin) (glyph : ℕ) where
    points_by_lem : points_by ankr origin (lookup_by reading (drop lookup ankr) glyph) ≡ points_of reading ankr glyph
    unfolding points_of
    points_by_lem = rw (e, f)

    point_by_lem : (number : ℕ) → point_by ankr origin number (lookup_by reading (drop lookup ankr) glyph) ≡ point_of reading ankr glyph number
    unfolding point_of
    point_by_lem number =
        go (lookup_by reading (drop lookup ankr) glyph)
        ∙ ap (λ (points : Option ℕ). on_points points (λ place. point_at ankr (place + number * 4)) None) points_by_lem
      where
        go : (found : Result ℕ Why) → point_by ankr origin number found ≡ on_points (points_by ankr origin found) (λ place. point_at ankr (place + number * 4)) None
        go (Ok n) = sym (counted ankr (n + origin) number)
        go (Err why) = refl

  -- what is known of an opened table
  abbrev Knows : Anchors → Type 0
  Knows (Words origin array) =
      LiesIn (part_of ankr) (Some array) × ((glyph number : ℕ) → point_by ankr origin number (found_in (part_of ankr) (Some array) glyph) ≡ point_of reading ankr glyph number)
  Knows (Searched lookup origin) = (glyph : ℕ) → points_by ankr origin (lookup_at (drop lookup ankr) glyph) ≡ points_of reading ankr glyph
  Knows Other = 0 ≤ 0

  module _ (lookup origin : ℕ) (e : read_u32 ankr 4 ≡ Some lookup) (f : read_u32 ankr 8 ≡ Some origin)
      (u : units_by reading (drop lookup ankr) ≡ Ok Units'.Words) where
    part_is : drop lookup ankr ≡ part_of ankr
    unfolding part_of
    part_is = rw e

    words-found : (glyph number : ℕ) → point_by ankr origin number (found_in (drop lookup ankr) (opened_of (drop lookup ankr)) glyph) ≡ point_of reading ankr glyph number
    words-found glyph number =
        ap (point_by ankr origin number) (opened-same (drop lookup ankr) glyph)
        ∙ plain_point (lookup_at (drop lookup ankr) glyph) (λ n. point_at ankr (n + origin + 4 + number * 4))
        ∙ ap (point_by ankr origin number) (sym (in_words_lem reading (drop lookup ankr) glyph u)) ∙ point_by_lem e f glyph number

    by_opened : (opened : Option Array) → opened_of (drop lookup ankr) ≡ opened → Knows (anchors_from lookup origin opened)
    by_opened (Some array) g =
        let o : Option Array = Some array in (
          subst (λ (part : List ℕ). LiesIn part o) part_is (subst (λ (x : Option Array). LiesIn (drop lookup ankr) x) g (opened-lies (drop lookup ankr))),
          λ glyph number.
              subst (λ (part : List ℕ). point_by ankr origin number (found_in part o glyph) ≡ point_of reading ankr glyph number) part_is
              (subst (λ (x : Option Array). point_by ankr origin number (found_in (drop lookup ankr) x glyph) ≡ point_of reading ankr glyph number) g (words-found glyph number)),
        )
    by_opened None g = λ glyph. ap (points_by ankr origin) (sym (in_words_lem reading (drop lookup ankr) glyph u)) ∙ points_by_lem e f glyph

  known : Knows (anchors_of reading ankr)
  unfolding anchors_of anchors_in
  known = by_lookup (read_u32 ankr 4) refl
    where
      by_units : (lookup origin : ℕ) → read_u32 ankr 4 ≡ Some lookup → read_u32 ankr 8 ≡ Some origin → (units : Result Units Why)
          → units_by reading (drop lookup ankr) ≡ units → Knows (anchors_in ankr lookup origin units)
      by_units lookup origin e f (Ok Units'.Words) g = by_opened lookup origin e f g (opened_of (drop lookup ankr)) refl
      by_units lookup origin e f (Ok (Units'.Bytes first count)) g = omega arith
      by_units lookup origin e f (Err why) g = omega arith

      by_lookup : (r : Option ℕ) → read_u32 ankr 4 ≡ r → Knows (anchors_of reading ankr)
      by_lookup None e = rw e (omega arith)
      by_lookup (Some lookup) e = by_origin (read_u32 ankr 8) refl
        where
          by_origin : (r : Option ℕ) → read_u32 ankr 8 ≡ r → Knows (anchors_of reading ankr)
          by_origin None f = rw (e, f) (omega arith)
          by_origin (Some origin) f = rw (e, f) (by_units lookup origin e f (units_by reading (drop lookup ankr)) refl)

  module _ {anchors : Anchors} (o : anchors ≡ anchors_of reading ankr) where
    knows : {opened : Anchors} → anchors ≡ opened → Knows opened
    knows e = subst Knows (sym o ∙ e) known

    module _ {origin : ℕ} {array : Array} (e : anchors ≡ Words origin array) {part : List ℕ} (p : part ≡ part_of ankr) where
      pub words_lie : LiesIn part (Some array)
      words_lie = subst⁻¹ (λ (b : List ℕ). LiesIn b (Some array)) p (knows e).0

      pub words_point : (glyph number : ℕ) → point_by ankr origin number (found_in part (Some array) glyph) ≡ point_of reading ankr glyph number
      words_point glyph number =
          subst⁻¹ (λ (b : List ℕ). point_by ankr origin number (found_in b (Some array) glyph) ≡ point_of reading ankr glyph number) p ((knows e).1 glyph number)

    pub searched_points : {lookup origin : ℕ} → anchors ≡ Searched lookup origin → (glyph : ℕ)
        → points_by ankr origin (lookup_at (drop lookup ankr) glyph) ≡ points_of reading ankr glyph
    searched_points e glyph = knows e glyph

  -- no point lies that far
  pub placed : {glyph place : ℕ} → length ankr < nowhere → place ≡ place_of (points_of reading ankr glyph) → Placed reading ankr glyph place
  unfolding point_of
  placed {glyph} {place} short p =
      record {
        reached = subst⁻¹ (λ (n : ℕ). n ≤ nowhere) p (near (points_of reading ankr glyph) refl);
        points = λ number. ap (λ (n : ℕ). point_at ankr (n + number * 4)) p ∙ go number (points_of reading ankr glyph);
      }
    where
      near : (points : Option ℕ) → points_of reading ankr glyph ≡ points → place_of points ≤ nowhere
      near (Some from) e = omega (arith, points_lie reading ankr glyph e)
      near None e = omega arith

      go : (number : ℕ) (points : Option ℕ) → point_at ankr (place_of points + number * 4) ≡ on_points points (λ from. point_at ankr (from + number * 4)) None
      go number (Some from) = refl
      go number None = sym (point_short ankr (nowhere + number * 4) (omega arith))
