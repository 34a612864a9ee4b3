use mathlib.Core.Path.{refl}
use Rattle.kerning_machine.proofs.Calls.{plain_works}
use Rattle.kerning_machine.proofs.work.Goals as goal

pub returns : goal.returns
returns c =
    let e = plain_works _ refl _ _ _ _ _ c.work_by.ensures.answer c.work_by.ensures.along in
    record { answer = e.answers; along = e.leaves }
