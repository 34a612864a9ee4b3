-- The bits of a number.
use Rattle.std.specs.Prelude.{ℕ, ◌/◌, ◌%◌, Bool, eqb}

-- whether a bit is set; masks are powers of two
abbrev pub is_set : ℕ → ℕ → Bool
is_set number mask = eqb (number / mask % 2) 1
