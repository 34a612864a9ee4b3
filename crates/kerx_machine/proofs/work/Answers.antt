use mathlib.Core.Path.{refl}
use Rattle.kerning_machine.proofs.Calls.{plain_works}
use Rattle.kerx_machine.specs.Machine.{worked, worked_indexed}
use Rattle.kerx_machine.proofs.work.Goals as goal

pub returns : goal.returns
unfolding worked worked_indexed
returns c =
    let e = plain_works _ refl _ _ _ _ _ c.work_by.ensures.answer c.work_by.ensures.along in
    record { answer = e.answers; along = e.leaves }
