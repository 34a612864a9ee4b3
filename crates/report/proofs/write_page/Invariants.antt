use Rattle.report.proofs.Writing.{Filled}
use Rattle.report.proofs.write_page.Given as goal

abbrev pub invariant-loop-line : goal.invariant-loop-line
invariant-loop-line l =
    Filled l.rooms l.used l.along l.sums l.largest l.smallest l.some l.total l.most l.least l.at l.line
