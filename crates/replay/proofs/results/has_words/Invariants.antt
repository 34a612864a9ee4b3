use Rattle.std.proofs.Common.{◌-◌}
use Rattle.replay.proofs.Words.{Comparing}
use Rattle.replay.proofs.results.has_words.Given as goal

abbrev pub invariant-loop-place : goal.invariant-loop-place
invariant-loop-place l = Comparing l.numbers l.words l.count l.place

abbrev pub decreases-loop-place : goal.decreases-loop-place
decreases-loop-place l = l.count - l.place
