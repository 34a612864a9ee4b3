use mathlib.Core.Path.{refl}
use Rattle.line.specs.Line.{line_of}
use Rattle.morx.proofs.Machines.{plain_left}
use Rattle.morx.proofs.work.Goals as goal

pub returns : goal.returns
returns c = plain_left _ _ _ (line_of _ _ _ _) _ _ _ _ refl c.work_by.ensures
