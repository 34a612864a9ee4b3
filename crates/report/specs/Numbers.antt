-- What numbers come to: their sum, the largest and the smallest.
use Rattle.std.specs.Prelude.{ℕ, zero, suc, Bool, true, cond, List, eqb, ℤ, pos, ◌+ℤ◌, get_or}
use Rattle.std.specs.Int.Signed.{lt_z}

abbrev pub larger : ℤ → ℤ → ℤ
larger a b = cond (lt_z a b) b a

abbrev pub smaller : ℤ → ℤ → ℤ
smaller a b = cond (lt_z b a) b a

-- the sum of the first n
unfoldable pub sum_of : List ℤ → (n : ℕ) → ℤ
sum_of xs zero = pos 0
sum_of xs (suc n) = sum_of xs n +ℤ get_or xs n (pos 0)

-- the one that is chosen of the first and the n behind it
unfoldable pub chosen_of : (ℤ → ℤ → ℤ) → List ℤ → (n : ℕ) → ℤ
chosen_of choose xs zero = get_or xs 0 (pos 0)
chosen_of choose xs (suc n) = choose (chosen_of choose xs n) (get_or xs (suc n) (pos 0))

-- the largest and the smallest of the first n; 0 of none
unfoldable pub largest_of : List ℤ → (n : ℕ) → ℤ
largest_of xs zero = pos 0
largest_of xs (suc n) = chosen_of larger xs n

unfoldable pub smallest_of : List ℤ → (n : ℕ) → ℤ
smallest_of xs zero = pos 0
smallest_of xs (suc n) = chosen_of smaller xs n

-- lines one after the other: whether there has been a used place, and what is chosen of all used places so far
unfoldable pub has_some : (some : Bool) → (used : ℕ) → Bool
has_some some used = cond (eqb used 0) some true

unfoldable pub chosen_beside : (ℤ → ℤ → ℤ) → (some : Bool) → (all : ℤ) → (used : ℕ) → (line : ℤ) → ℤ
chosen_beside choose some all used line = cond (eqb used 0) all (cond some (choose all line) line)
