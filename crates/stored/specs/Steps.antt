-- For the code alone; no entry and no promise rests on it, and nobody has to believe it. New bytes written over others from a place on.
use Rattle.std.specs.Prelude.{ℕ, ◌+◌, List, ◌++◌, length, take, drop}

unfoldable pub put_at : (at : ℕ) → (new xs : List ℕ) → List ℕ
put_at at new xs = take at xs ++ new ++ drop (at + length new) xs
