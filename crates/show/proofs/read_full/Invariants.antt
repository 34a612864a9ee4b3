use Rattle.std.proofs.Common.{length, ◌-◌, ◌≤◌}
use Rattle.show.proofs.read_full.Given as goal

abbrev pub invariant-loop-read : goal.invariant-loop-read
invariant-loop-read g l = l.read ≤ length l.room

abbrev pub decreases-loop-read : goal.decreases-loop-read
decreases-loop-read g l = length l.room - l.read
