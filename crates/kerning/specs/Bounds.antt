-- For the code alone; no entry and no promise rests on it, and nobody has to believe it. How large adjustments are at most, with which the code shows
-- that it does not overflow.
use Rattle.std.specs.Prelude.{ℕ, ◌<◌, ◌≤◌, List, ℤ, pos, nat_abs, length, get_or}

-- every adjustment is at most b in size
pub record Within (b : ℕ) (along : List ℤ) : Type 0 where
  pub each : (p : ℕ) → p < length along → nat_abs (get_or along p (pos 0)) ≤ b
