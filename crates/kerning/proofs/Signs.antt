-- Signed numbers: their sums and sizes.
use Prim.Native.Nat.{ℕ, suc, ◌+◌, ◌-◌, ◌<◌, ◌≤◌, ◌^◌}
use mathlib.Core.Path.{◌≡◌, refl, sym, ◌∙◌, ap₂, subst}
use mathlib.Core.Bool.{Bool, true, false, cond}
use native.Mathlib.Omega.{arith}
use lib.Dec.{ltb}
use lib.IntN.{ℤ, pos, negsuc, nat_abs, sub_ℕ, ◌+ℤ◌}
use lib.Signed.{mag}
use mir.Syntax.{w16, w64}
use mir.Val.{SFits, to_z, of_z}
use mir.Facts.{to_z-of_z}
use borrow.Author.Tests.{ltb-true}

-- the size of a sum is at most the sum of the sizes
size_difference : (a b : ℕ) → nat_abs (sub_ℕ a b) ≤ a + b
size_difference a b = go (ltb a b) refl
  where
    go : (t : Bool) → ltb a b ≡ t → nat_abs (cond t (negsuc (b - suc a)) (pos (a - b))) ≤ a + b
    go true e = omega (arith, ltb-true a b e)
    go false e = omega arith

pub size-sum : (a b : ℤ) → nat_abs (a +ℤ b) ≤ nat_abs a + nat_abs b
size-sum (pos a) (pos b) = omega arith
size-sum (pos a) (negsuc b) = size_difference a (suc b)
size-sum (negsuc a) (pos b) = omega (arith, size_difference b (suc a))
size-sum (negsuc a) (negsuc b) = omega arith

mag_size : (z : ℤ) → mag z ≤ nat_abs z
mag_size (pos n) = omega arith
mag_size (negsuc n) = omega arith

size_mag : (z : ℤ) → nat_abs z ≤ suc (mag z)
size_mag (pos n) = omega arith
size_mag (negsuc n) = omega arith

-- a number of 16 bits is at most 32,768 in size
pub size_16 : {z : ℤ} → SFits w16 z → nat_abs z ≤ 32768
size_16 {z} f = omega (arith, size_mag z, f.sfits)

pub fits_64 : {z : ℤ} → nat_abs z < 2 ^ 63 → SFits w64 z
fits_64 {z} h = record { sfits = omega (arith, mag_size z) }

module _ {a b : ℤ} (f : SFits w64 a) (g : SFits w64 b) (h : nat_abs a + nat_abs b < 2 ^ 63) where
  sum-plain : to_z w64 (of_z w64 a) +ℤ to_z w64 (of_z w64 b) ≡ a +ℤ b
  sum-plain = ap₂ (λ x y. x +ℤ y) (to_z-of_z f) (to_z-of_z g)

  pub sum_fits : SFits w64 (to_z w64 (of_z w64 a) +ℤ to_z w64 (of_z w64 b))
  sum_fits = subst (λ (z : ℤ). SFits w64 z) (sym sum-plain) (fits_64 (omega (arith, size-sum a b)))

  pub sum_is : to_z w64 (of_z w64 (to_z w64 (of_z w64 a) +ℤ to_z w64 (of_z w64 b))) ≡ a +ℤ b
  sum_is = to_z-of_z sum_fits ∙ sum-plain
