use Rattle.std.proofs.Common.{◌+◌, ◌≤◌}
use Rattle.replay.proofs.replay_all.Given as goal

-- each case before this one was the same or differed
abbrev pub invariant-loop : goal.invariant-loop
invariant-loop g l = l.totals.same + l.totals.other ≤ l.counter
