use Rattle.std.proofs.Common.{◌-◌}
use Rattle.mending.proofs.length_of.Given as goal

abbrev pub decreases-loop-total : goal.decreases-loop-total
decreases-loop-total g l = 16777217 - l.total
