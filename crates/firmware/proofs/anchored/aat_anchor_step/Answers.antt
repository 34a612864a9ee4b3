use mathlib.Core.Path.{refl, ap}
use Rattle.kerning.specs.declared.choices.Choices.{Choices}
use Rattle.anchor_machine.specs.Writes.{write_x, write_y, write_back}
use Rattle.firmware.proofs.Anchoring.{step_is, step-writes, answer_is, state_is, advance_is}
use Rattle.firmware.proofs.anchored.aat_anchor_step.Goals as goal

pub returns : goal.returns
returns c =
    let r = ap (λ (z : Choices). z.reading) c.from-reading.ensures in
    let e = step_is _ _ _ _ _ _ _ _ _ _ _ _ c.anchor_from-given.ensures _ r c.step_anchored-step.ensures.step in
    record { answer = answer_is e c.put_step.ensures.answer; state = state_is e _ c.put_step.ensures.state; along = refl; x = step-writes _ _ _ _ _ _ _ _ _ _ _ _ c.anchor_from-given.ensures _ r write_x c.step_anchored-step.ensures.x; y = step-writes _ _ _ _ _ _ _ _ _ _ _ _ c.anchor_from-given.ensures _ r write_y c.step_anchored-step.ensures.y; back = step-writes _ _ _ _ _ _ _ _ _ _ _ _ c.anchor_from-given.ensures _ r write_back c.step_anchored-step.ensures.back; advance = advance_is e _ c.put_step.ensures.advance }
