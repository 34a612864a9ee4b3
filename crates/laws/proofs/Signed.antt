-- Laws of signed numbers.
use Prim.Native.Nat.{ℕ, zero, suc, ◌-◌, ◌<◌, ◌≤◌}
use mathlib.Core.Path.{◌≡◌, refl, ◌∙◌, ap}
use mathlib.Core.Bool.{Bool, true, false, cond}
use native.Mathlib.Omega.{arith}
use lib.Dec.{ltb}
use lib.IntN.{ℤ, pos, negsuc, ◌-ℤ◌}
use mir.Syntax.{w16}
use mir.Val.{SFits, to_z, of_z}
use mir.Facts.{to_z-of_z}
use mir.ValLaws.{to_z_pos}
use native.Mathlib.Nat.{zero-add}
use lib.Signed.{mag}
use borrow.Author.Tests.{lt-ltb, le-ltb, ltb-true, ltb-false}
use Rattle.laws.specs.Signed.{signed16}

-- a 16-bit number is below 32,768 in size
pub signed16-size : (n : ℕ) → mag (signed16 n) < 32768
unfolding signed16
signed16-size n = go (ltb n 32768) refl
  where
    go : (t : Bool) → ltb n 32768 ≡ t → mag (cond t (pos n) (negsuc (65535 - n))) < 32768
    go true e = ltb-true n 32768 e
    go false e = omega (arith, ltb-false n 32768 e)

-- the code's way to it: below 32,768 the number itself, from there on -1 less what is missing to 65,535
pub signed16_low : {n : ℕ} → n < 32768 → to_z w16 n ≡ signed16 n
unfolding signed16
signed16_low {n} h = rw (lt-ltb n 32768 h)

minus_one_less : (k : ℕ) → negsuc 0 -ℤ pos k ≡ negsuc k
minus_one_less zero = refl
minus_one_less (suc k) = ap negsuc (ap suc (zero-add k))

less : {n : ℕ} → 32768 ≤ n → negsuc 0 -ℤ to_z w16 (65535 - n) ≡ negsuc (65535 - n)
less {n} h = rw (to_z_pos w16 (65535 - n) (omega arith)) (minus_one_less (65535 - n))

pub signed16-fits : {n : ℕ} → 32768 ≤ n → SFits w16 (negsuc 0 -ℤ to_z w16 (65535 - n))
signed16-fits {n} h = rw (less h) (record { sfits = omega arith })

pub signed16_high : {n : ℕ} → 32768 ≤ n → to_z w16 (of_z w16 (negsuc 0 -ℤ to_z w16 (65535 - n))) ≡ signed16 n
unfolding signed16
signed16_high {n} h = to_z-of_z (signed16-fits h) ∙ less h ∙ rw (le-ltb n 32768 h)

-- such a number comes back from its bits unchanged
pub signed16_round : {z : ℤ} (n : ℕ) → z ≡ signed16 n → to_z w16 (of_z w16 z) ≡ signed16 n
signed16_round n e = rw e (to_z-of_z {w = w16} (record { sfits = signed16-size n }))
