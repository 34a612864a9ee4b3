-- Where points lie, and how far one may be from another.
use Rattle.std.specs.Prelude.{Option, Some, None, Result, Ok, Err}
use Rattle.tables.specs.declared.lookup.Why.{Why}
use Prim.Native.Nat.{ℕ, zero, suc, ◌+◌, ◌-◌, ◌*◌, ◌<◌, ◌≤◌}
use mathlib.Core.Path.{◌≡◌, refl, ap, subst}
use mathlib.Core.Bool.{Bool, true, false, cond}
use mathlib.Core.List.{List}
use native.Mathlib.Omega.{arith}
use lib.Dec.{ltb}
use lib.IntN.{ℤ, pos, negsuc, nat_abs, sub_ℕ, ◌-ℤ◌}
use lib.ListN.{length, drop}
use lib.Signed.{mag}
use borrow.Author.Tests.{ltb-true}
use Rattle.laws.specs.Signed.{signed16}
use Rattle.laws.proofs.Signed.{signed16-size}
use Rattle.parse.specs.Reads.{inside, u16_at, read_i16, read_u32}
use Rattle.parse.specs.Use.{on_u32}
use Rattle.parse.proofs.Laws.{inside-over, u32_value}
use Rattle.tables.specs.Units.{lookup_by}
use Rattle.tables.specs.declared.units.Reading.{Reading}
use Rattle.anchors.specs.declared.Point.{Point}
use Rattle.anchors.specs.Anchors.{on_i16, on_found, on_points, points_of, point_at, point_of}

-- the difference of two numbers of 16 bits: at most 65,535 in size
size_less : (a b : ℕ) → nat_abs (sub_ℕ a b) ≤ a + b
size_less a b = go (ltb a b) refl
  where
    go : (t : Bool) → ltb a b ≡ t → nat_abs (cond t (negsuc (b - suc a)) (pos (a - b))) ≤ a + b
    go true e = omega (arith, ltb-true a b e)
    go false e = omega arith

size_above : (a b n : ℕ) → a ≤ n → b ≤ n → nat_abs (sub_ℕ a b) ≤ n
size_above a b n h k = go (ltb a b) refl
  where
    go : (t : Bool) → ltb a b ≡ t → nat_abs (cond t (negsuc (b - suc a)) (pos (a - b))) ≤ n
    go true e = omega (arith, ltb-true a b e)
    go false e = omega arith

pub size_difference : (a b : ℤ) → mag a < 32768 → mag b < 32768 → nat_abs (a -ℤ b) ≤ 65535
size_difference (pos a) (pos zero) h k = omega arith
size_difference (pos a) (pos (suc b)) h k = size_above a (suc b) 65535 (omega arith) (omega arith)
size_difference (pos a) (negsuc b) h k = omega arith
size_difference (negsuc a) (pos zero) h k = omega (arith, size_less 0 (suc a))
size_difference (negsuc a) (pos (suc b)) h k = omega arith
size_difference (negsuc a) (negsuc b) h k = size_above (suc b) (suc a) 65535 (omega arith) (omega arith)

-- a point does not lie in the table where its second number does not
module _ (ankr : List ℕ) (place : ℕ) where
  i16_short : (at : ℕ) → length ankr < at + 2 → read_i16 ankr at ≡ None
  unfolding read_i16
  i16_short at h = rw (inside-over ankr at 2 h)

  pub point_short : length ankr < place + 4 → None ≡ point_at ankr place
  unfolding point_at
  point_short h = rw (i16_short (place + 2) (omega arith)) (go (read_i16 ankr place))
    where
      go : (r : Option ℤ) → ◌≡◌ {A = Option Point} None (on_i16 r (λ x. None) None)
      go (Some x) = refl
      go None = refl

-- points begin within the table
module _ (ankr : List ℕ) (place : ℕ) where
  clash : None ≡ Some place → place ≤ length ankr
  clash e = absurd cc

  counted : (at : ℕ) (r : Option ℕ) → read_u32 ankr at ≡ r → on_u32 r (λ count. Some (at + 4)) None ≡ Some place → place ≤ length ankr
  counted at (Some count) h e = let q : at + 4 ≡ place = cc in omega (arith, (u32_value ankr at h).0)
  counted at None h e = clash e

  numbered : (found : Result ℕ Why) (base : ℕ)
      → on_found found (λ number. on_u32 (read_u32 ankr (number + base)) (λ count. Some (number + base + 4)) None) None ≡ Some place
      → place ≤ length ankr
  numbered (Ok number) base e = counted (number + base) (read_u32 ankr (number + base)) refl e
  numbered (Err why) base e = clash e

  told : (a b : Option ℕ) (look : ℕ → Result ℕ Why)
      → on_u32 a (λ lookup. on_u32 b (λ base. on_found (look lookup)
      (λ number. on_u32 (read_u32 ankr (number + base)) (λ count. Some (number + base + 4)) None) None) None) None ≡ Some place
      → place ≤ length ankr
  told (Some lookup) (Some base) look e = numbered (look lookup) base e
  told (Some lookup) None look e = clash e
  told None b look e = clash e

pub points_lie : (reading : Reading) (ankr : List ℕ) (glyph : ℕ) {place : ℕ} → points_of reading ankr glyph ≡ Some place → place ≤ length ankr
unfolding points_of
points_lie reading ankr glyph {place} e =
    told ankr place (read_u32 ankr 4) (read_u32 ankr 8) (λ lookup. lookup_by reading (drop lookup ankr) glyph) e

-- the numbers of a point have 16 bits
read_small : (table : List ℕ) (at : ℕ) (n : ℤ) → read_i16 table at ≡ Some n → mag n < 32768
unfolding read_i16
read_small table at n e = go (inside table at 2) refl
  where
    go : (t : Bool) → inside table at 2 ≡ t → mag n < 32768
    go true p = let q : signed16 (u16_at table at) ≡ n = cc in subst (λ (z : ℤ). mag z < 32768) q (signed16-size (u16_at table at))
    go false p = absurd cc

-- points that are the same have the same numbers
pub same_point : {p q : Point} → Some p ≡ Some q → (p.x ≡ q.x) × (p.y ≡ q.y)
same_point {p} {q} e = let f : p ≡ q = cc in (ap (λ (r : Point). r.x) f, ap (λ (r : Point). r.y) f)

module _ {x y : ℤ} where
  two-small : (r s : Option ℤ) → ((n : ℤ) → r ≡ Some n → mag n < 32768) → ((n : ℤ) → s ≡ Some n → mag n < 32768)
      → on_i16 {A = Option Point} r (λ a. on_i16 s (λ b. Some (record { x = a; y = b })) None) None ≡ Some (record { x = x; y = y }) → (mag x < 32768) × (mag y < 32768)
  two-small (Some a) (Some b) h k e =
      let (p, q) = same_point e in
      (subst (λ (z : ℤ). mag z < 32768) p (h a refl), subst (λ (z : ℤ). mag z < 32768) q (k b refl))
  two-small (Some a) None h k e = absurd cc
  two-small None s h k e = absurd cc

  from_small : (ankr : List ℕ) (number : ℕ) (r : Option ℕ) → on_points r (λ place. point_at ankr (place + number * 4)) None ≡ Some (record { x = x; y = y })
      → (mag x < 32768) × (mag y < 32768)
  unfolding point_at
  from_small ankr number (Some place) e =
      two-small (read_i16 ankr (place + number * 4)) (read_i16 ankr (place + number * 4 + 2)) (read_small ankr (place + number * 4))
      (read_small ankr (place + number * 4 + 2)) e
  from_small ankr number None e = absurd cc

  pub point_small : (reading : Reading) (ankr : List ℕ) (glyph number : ℕ) → point_of reading ankr glyph number ≡ Some (record { x = x; y = y })
      → (mag x < 32768) × (mag y < 32768)
  unfolding point_of
  point_small reading ankr glyph number e = from_small ankr number (points_of reading ankr glyph) e
