use mathlib.Core.Path.{ap}
use Rattle.kerning.specs.declared.choices.Choices.{Choices}
use Rattle.firmware.proofs.KernSteps.{answer_is, state_is, advance_is, kerx_is, kerx-added}
use Rattle.firmware.proofs.choices.aat_kerx_step_by.Goals as goal

pub returns : goal.returns
returns c =
    let r = ap (λ (x : Choices). x.reading) c.from-reading.ensures in
    let e = kerx_is _ _ _ _ _ _ _ _ c.kerning_from-given.ensures _ r c.step_by-step.ensures.step in
    record { answer = answer_is e c.put_step.ensures.answer; state = state_is e _ c.put_step.ensures.state; along = kerx-added _ _ _ _ _ _ _ _ c.kerning_from-given.ensures _ r c.step_by-step.ensures.along; advance = advance_is e _ c.put_step.ensures.advance }
