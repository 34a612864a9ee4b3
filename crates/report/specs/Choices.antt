-- For the code alone; no entry and no promise rests on it, and nobody has to believe it. The larger and the smaller of two numbers are one of the two, and
-- either is looked for alike.
use mathlib.Core.Path.{◌≡◌, refl}
use mathlib.Core.Bool.{Bool, true, false, cond}
use mathlib.Core.Logic.{◌⊎◌, inl, inr}
use Prim.Native.Nat.{ℕ, zero, suc}
use mathlib.Core.List.{List}
use lib.IntN.{ℤ, pos}
use lib.Signed.{lt_z}
use Rattle.report.specs.Numbers.{larger, smaller, chosen_of}

one_of_two : (t : Bool) (a b : ℤ) → (cond t b a ≡ a) ⊎ (cond t b a ≡ b)
one_of_two true a b = inr refl
one_of_two false a b = inl refl

pub larger_one : (a b : ℤ) → (larger a b ≡ a) ⊎ (larger a b ≡ b)
larger_one a b = one_of_two (lt_z a b) a b

pub smaller_one : (a b : ℤ) → (smaller a b ≡ a) ⊎ (smaller a b ≡ b)
smaller_one a b = one_of_two (lt_z b a) a b

-- whichever is chosen, of the first n; 0 of none
unfoldable pub extreme_of : (ℤ → ℤ → ℤ) → List ℤ → (n : ℕ) → ℤ
extreme_of choose xs zero = pos 0
extreme_of choose xs (suc n) = chosen_of choose xs n
