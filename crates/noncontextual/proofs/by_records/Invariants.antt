use Rattle.std.proofs.Common.{◌≡◌, ℕ, ◌<◌, ◌≤◌, get_or}
use Rattle.noncontextual.specs.Work.{becomes_by, Remembers}
use Rattle.noncontextual.proofs.by_records.Given as goal

abbrev pub invariant-loop-place : goal.invariant-loop-place
invariant-loop-place l =
    ((k : ℕ) → k < l.place → get_or l.glyphs k 0 ≡ becomes_by l.body (get_or l.initial.glyphs k 0))
    × ((k : ℕ) → l.place ≤ k → get_or l.glyphs k 0 ≡ get_or l.initial.glyphs k 0)
    × Remembers (becomes_by l.body) l.memo
