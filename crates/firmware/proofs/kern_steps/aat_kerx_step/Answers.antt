use mathlib.Core.Path.{refl}
use Rattle.kerning.specs.Choices.{unchosen}
use Rattle.firmware.proofs.KernSteps.{answer_is, state_is, advance_is, kerx_is, kerx-added}
use Rattle.firmware.proofs.kern_steps.aat_kerx_step.Goals as goal

pub returns : goal.returns
returns c =
    let e = kerx_is _ _ _ _ _ _ _ _ c.kerning_from-given.ensures unchosen refl c.step-step.ensures.step in
    record { answer = answer_is e c.put_step.ensures.answer; state = state_is e _ c.put_step.ensures.state; along = kerx-added _ _ _ _ _ _ _ _ c.kerning_from-given.ensures unchosen refl c.step-step.ensures.along; advance = advance_is e _ c.put_step.ensures.advance }
