-- For the code alone; no entry and no promise rests on it, and nobody has to believe it. The steps of a verb in place: its groups are taken out, what
-- is between them slides, and they are put down at the other ends.
use Rattle.std.specs.Prelude.{ℕ, ◌+◌, ◌-◌, ◌<◌, ◌≤◌, ◌≡◌, List, length, get_or}
use Rattle.laws.specs.Choose.{if_eq}
use Rattle.verbs.specs.declared.Group.{Group}
use Rattle.verbs.specs.declared.Group.TheVariants.{Absent, One, Two, Flipped}
use Rattle.verbs.specs.declared.Held.{Held}

-- `after` is `before`, but that each place from `lo` up to below `hi` holds `f` of the place
pub record Filled (f : ℕ → ℕ) (lo hi : ℕ) (before after : List ℕ) : Type 0 where
  pub long : length after ≡ length before
  pub inside : (k : ℕ) → lo ≤ k → k < hi → get_or after k 0 ≡ f k
  pub below : (k : ℕ) → k < lo → get_or after k 0 ≡ get_or before k 0
  pub above : (k : ℕ) → hi ≤ k → get_or after k 0 ≡ get_or before k 0

-- the two that stand from a place on
abbrev pub pair_at : List ℕ → ℕ → Held
pair_at part at = (get_or part at 0, get_or part (at + 1) 0)

-- the two exchanged
abbrev pub flipped : Held → Held
flipped held = (held.1, held.0)

-- a group that stands from a place on, in the order in which the verb puts it down
abbrev pub lifted : List ℕ → ℕ → Group → Held
lifted part at Absent = (0, 0)
lifted part at One = (get_or part at 0, 0)
lifted part at Two = pair_at part at
lifted part at Flipped = flipped (pair_at part at)

-- what a group that is put down from `at` on leaves at a place of it
abbrev pub held_at : Held → ℕ → ℕ → ℕ
held_at held at place = if_eq place at held.0 held.1

-- what comes to a place where the places from `from` on slide to those from `to` on
abbrev pub slid_at : List ℕ → ℕ → ℕ → ℕ → ℕ
slid_at part from to place = get_or part (from + (place - to)) 0
