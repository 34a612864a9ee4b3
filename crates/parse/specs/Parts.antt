-- For the code alone; no entry and no promise rests on it, and nobody has to believe it. A part of a table that is read by its place alone.
use Rattle.std.specs.Prelude.{ℕ, ◌+◌, cond, List, Option, Some, None}
use Rattle.parse.specs.Reads.{inside}

-- a list of `size` bytes, by the place where it ends
unfoldable pub read_part : List ℕ → ℕ → ℕ → Option ℕ
read_part table at size = cond (inside table at size) (Some (at + size)) None
