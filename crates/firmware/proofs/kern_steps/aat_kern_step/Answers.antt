use Rattle.firmware.proofs.KernSteps.{answer_is, state_is, advance_is, kern_is, kern-added}
use Rattle.firmware.proofs.kern_steps.aat_kern_step.Goals as goal

pub returns : goal.returns
returns c =
    let e = kern_is _ _ _ _ _ _ _ _ c.kerning_from-given.ensures c.step-step.ensures.step in
    record { answer = answer_is e c.put_step.ensures.answer; state = state_is e _ c.put_step.ensures.state; along = kern-added _ _ _ _ _ _ _ _ c.kerning_from-given.ensures c.step-step.ensures.along; advance = advance_is e _ c.put_step.ensures.advance }
