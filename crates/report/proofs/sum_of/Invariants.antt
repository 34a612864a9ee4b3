use Rattle.report.proofs.Sums.{Adding}
use Rattle.report.proofs.sum_of.Given as goal

abbrev pub invariant-loop-place : goal.invariant-loop-place
invariant-loop-place l = Adding l.along l.used l.total l.place
