-- A test on all numbers below a bound, from the highest down, and the one on all adjustments.
use Prim.Native.Nat.{ℕ, zero, suc, ◌-◌, ◌<◌, ◌≤◌}
use mathlib.Core.Path.{◌≡◌, sym, ◌∙◌, ap}
use mathlib.Core.Bool.{Bool, true, false}
use native.Mathlib.Omega.{arith}
use lib.Dec.{leb}
use mathlib.Core.List.{List}
use lib.IntN.{ℤ, pos, nat_abs}
use lib.ListN.{length, get_or}
use borrow.Author.Tests.{leb-true, le-leb, lt-leb}
use Rattle.std.specs.Bool.{MatchBool}
use Rattle.std.specs.List.{AllWithin, HoldsAt}
use Rattle.laws.specs.Lists.{both, every}
use Rattle.laws.proofs.Lists.{every-at, every-none, every_more, every_fails}
use Rattle.kerning.specs.Bounds.{Within}
use Rattle.kerning.specs.Line.{bound, is_modest}

-- what is left to test says what the whole says
pub record Scanning (f : ℕ → Bool) (whole : Bool) (most left : ℕ) : Type 0 where
  pub within : left ≤ most
  pub same : whole ≡ every f left

module _ (f : ℕ → Bool) where
  every_down : (n : ℕ) → 0 < n → every f n ≡ both (f (n - 1)) (every f (n - 1))
  unfolding every
  every_down zero h = absurd (omega arith)
  every_down (suc n) h = let e : suc n - 1 ≡ n = omega arith in rw e

  module _ {whole : Bool} {most left : ℕ} (s : Scanning f whole most left) where
    pub scanning_next : 0 < left → f (left - 1) ≡ true → Scanning f whole most (left - 1)
    scanning_next h e = record { within = omega (arith, s.within); same = s.same ∙ every_down left h ∙ rw e }

    pub scanning_fails : 0 < left → f (left - 1) ≡ false → false ≡ whole
    scanning_fails h e = sym (s.same ∙ every_down left h ∙ rw e)

    pub scanning_done : left ≤ 0 → true ≡ whole
    unfolding every
    scanning_done h = sym (s.same ∙ ap (every f) (let z : left ≡ 0 = omega arith in z))

-- a test that holds at each number below a bound
every_all : (f : ℕ → Bool) (n : ℕ) → ((k : ℕ) → k < n → f k ≡ true) → every f n ≡ true
every_all f zero h = every-none f
every_all f (suc n) h = every_more f n (every_all f n (λ k l. h k (omega arith))) (h n (omega arith))

-- the adjustments, one after the other
abbrev pub small : List ℤ → ℕ → Bool
small along p = leb (nat_abs (get_or along p (pos 0))) bound

-- as `all` goes through them
pub modest_is : (along : List ℤ) {r : Bool}
    → MatchBool r (AllWithin (λ (z : ℤ). nat_abs z ≤ bound) along 0 (length along)) ((k : ℕ) × (k < length along) × HoldsAt (λ (z : ℤ). bound < nat_abs z) along k)
    → r ≡ is_modest along
unfolding is_modest
modest_is along {r = true} h = sym (every_all (small along) (length along) (λ k l. le-leb _ _ (h k (pos 0) (omega arith) l)))
modest_is along {r = false} (k, l, h) = sym (every_fails (small along) (length along) k (lt-leb _ _ (h (pos 0))) l)

-- and none of them is beyond the bound
pub modest-within : (along : List ℤ) → is_modest along ≡ true → Within bound along
unfolding is_modest
modest-within along e = record { each = λ p h. leb-true _ _ (every-at (small along) (length along) p e h) }
