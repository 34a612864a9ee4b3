use Rattle.report.proofs.Sums.{Choosing}
use Rattle.report.proofs.extreme_of.Given as goal

abbrev pub invariant-loop-place : goal.invariant-loop-place
invariant-loop-place g l = Choosing g.C.Choice.chosen l.along l.used l.kept l.place
