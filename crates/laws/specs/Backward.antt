-- A list whose first part stands the other way round.
use Rattle.std.specs.Prelude.{ℕ, List, ◌++◌, reverse, take, drop}

-- the first n in the opposite order, and the rest as it was
unfoldable pub backward : {A : Type 0} → ℕ → List A → List A
backward n xs = reverse (take n xs) ++ drop n xs
