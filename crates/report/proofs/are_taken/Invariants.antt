use Rattle.report.specs.Report.{lines_of}
use Rattle.report.proofs.Scanning.{Scanned}
use Rattle.report.proofs.are_taken.Given as goal

abbrev pub invariant-loop-i : goal.invariant-loop-i
invariant-loop-i l =
    Scanned (lines_of l.rooms l.characters l.used l.glyphs l.tags l.homes l.along) l.at l.from l.i
