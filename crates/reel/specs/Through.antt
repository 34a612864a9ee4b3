-- What one line of a reel sees: reels, calls on that line alone, and whatever is done to other lines, one after the other.
use Rattle.std.specs.Prelude.{ℕ, ◌<◌, ◌≡◌, List, [], ◌∷◌}
use Rattle.morx.specs.Sequence.{Call, leaves}
use Rattle.morx.specs.declared.Choices.{Choices}
use Rattle.reel.specs.Reel.{Reel, lines_of, Part, parts_of}
use Rattle.reel.specs.Runs.{Fills, with_line}
use Rattle.reel.specs.Morx.{table_leaves}

-- another line than k, with what is to stand in its part
pub record Another (r : Reel) (k j : ℕ) (p : Part) : Type 0 where
  pub line : j < lines_of r
  pub another : j ≡ k → ⊥
  pub fills : Fills r j p.line

-- in a reel that is lent as r is: a reel by any table; any call on line k; or any other line becomes anything, by calls on it or by who lends it
pub data Step (r : Reel) (k : ℕ) : Type 0 where
  reel : (table : List ℕ) → (start : ℕ) → Choices → (requests : List ℕ) → Step r k
  single : Call → Step r k
  other : (j : ℕ) → (p : Part) → Another r k j p → Step r k

module _ (r : Reel) (k : ℕ) where
  -- what each leaves; a call on a line alone has its own place for its answer and its heads
  unfoldable pub step_leaves : Step r k → Reel → Reel
  step_leaves (Step.reel table start choices requests) s = table_leaves table start choices requests s
  step_leaves (Step.single call) s =
      with_line s k (record { line = leaves call (parts_of s k).line; answer = (parts_of s k).answer; heads = (parts_of s k).heads })
  step_leaves (Step.other j p a) s = with_line s j p

  unfoldable pub steps_leave : List (Step r k) → Reel → Reel
  steps_leave [] s = s
  steps_leave (step ∷ steps) s = steps_leave steps (step_leaves step s)

  -- the calls that line k sees: a reel is the run of that line
  unfoldable pub calls_of : List (Step r k) → List Call
  calls_of [] = []
  calls_of (Step.reel table start choices requests ∷ steps) = Call.run table start choices requests ∷ calls_of steps
  calls_of (Step.single call ∷ steps) = call ∷ calls_of steps
  calls_of (Step.other j p a ∷ steps) = calls_of steps
