-- Slices that many lines share: the part of each lies behind those of the lines before it.
use Rattle.std.specs.Prelude.{ℕ, zero, suc, ◌+◌, Bool, List, [], ◌++◌, eqb, length, get_or, take, drop}

-- where part k begins: the sizes of those before it, added up
unfoldable pub place_of : (sizes : List ℕ) → (k : ℕ) → ℕ
place_of sizes zero = 0
place_of sizes (suc k) = place_of sizes k + get_or sizes k 0

-- all sizes added up
unfoldable pub total : (sizes : List ℕ) → ℕ
total sizes = place_of sizes (length sizes)

-- they add up to a length
unfoldable pub adds_up : (sizes : List ℕ) → (slice : ℕ) → Bool
adds_up sizes slice = eqb (total sizes) slice

-- part k of a slice
unfoldable pub part_of : {A : Type 0} → (sizes : List ℕ) → (k : ℕ) → List A → List A
part_of sizes k xs = take (get_or sizes k 0) (drop (place_of sizes k) xs)

-- the slice with another part k
unfoldable pub with_part : (sizes : List ℕ) → (k : ℕ) → (xs part : List ℕ) → List ℕ
with_part sizes k xs part = take (place_of sizes k) xs ++ (part ++ drop (get_or sizes k 0) (drop (place_of sizes k) xs))

-- the first n parts, one behind the other
unfoldable pub laid : (ℕ → List ℕ) → (n : ℕ) → List ℕ
laid part zero = []
laid part (suc n) = laid part n ++ part n
