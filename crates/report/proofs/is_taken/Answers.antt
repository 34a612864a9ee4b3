use Rattle.report.proofs.Scanning.{taken-there}
use Rattle.report.proofs.is_taken.Goals as goal

pub returns : goal.returns
returns c = taken-there _ _ _ _ _ _ c.takes.ensures
