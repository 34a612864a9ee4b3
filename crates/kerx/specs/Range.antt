-- What a run leaves in the three slices beside the adjustments lies in a range: x and y from -65,535 to 65,535, the distance below 255.
use Rattle.std.specs.Prelude.{ℕ, ◌<◌, ◌≤◌, pos, nat_abs, get_or}
use Rattle.kerx.specs.Anchored.{AnchoredRan}

pub record InRange (used : ℕ) (r : AnchoredRan) : Type 0 where
  pub x-small : (p : ℕ) → p < used → nat_abs (get_or r.x p (pos 0)) ≤ 65535
  pub y-small : (p : ℕ) → p < used → nat_abs (get_or r.y p (pos 0)) ≤ 65535
  pub near : (p : ℕ) → p < used → get_or r.back p 0 < 255
