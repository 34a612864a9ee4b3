use Rattle.std.proofs.Common.{◌≡◌, ℕ, ◌<◌, ◌≤◌, get_or}
use Rattle.noncontextual.proofs.each.Given as goal

abbrev pub invariant-loop-place : goal.invariant-loop-place
invariant-loop-place g l =
    ((k : ℕ) → k < l.place → goal.F-post g l.becomes (get_or l.initial.glyphs k 0) (get_or l.glyphs k 0))
    × ((k : ℕ) → l.place ≤ k → get_or l.glyphs k 0 ≡ get_or l.initial.glyphs k 0)
