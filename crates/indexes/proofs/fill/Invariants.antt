use Rattle.std.proofs.Common.{◌≡◌, ℕ, ◌<◌, get_or}
use Rattle.state_tables.specs.Opened.{class_by}
use Rattle.indexes.proofs.fill.Given as goal

abbrev pub invariant-loop-glyph : goal.invariant-loop-glyph
invariant-loop-glyph l = (k : ℕ) → k < l.glyph → get_or l.index k 0 ≡ class_by l.bytes l.opened k
