use Rattle.firmware.proofs.Stepping.{numbered, kept, put, contextual_is, contextual-left}
use Rattle.firmware.specs.Steps.{contextual_slots}
use Rattle.contextual.specs.declared.ContextualStep.{ContextualStep}
use Rattle.line.specs.Line.{line_of}
use mathlib.Core.Path.{◌≡◌, ◌∙◌, refl}
use mathlib.Core.Bool.{Bool, true, false}
use Prim.Native.Nat.{ℕ}
use mir.Val.{bool_byte}
use Rattle.firmware.specs.Steps.{flag_number}
use Rattle.firmware.proofs.steps.aat_contextual_step.Goals as goal

flag_is : (flag : Bool) → bool_byte flag ≡ flag_number flag
flag_is true = refl
flag_is false = refl

pub returns-then-is_refused : goal.returns-then-is_refused
returns-then-is_refused c =
    let e = contextual_is _ _ _ (line_of _ _ _ _) _ _ _ c.contextual_from-given.ensures c.step-step.ensures.step in
    record { answer = numbered (λ (s : ContextualStep). s.answer) e c.from.ensures; state = kept (λ (s : ContextualStep). s.answer) e c.is_refused.ensures (λ (s : ContextualStep). contextual_slots s.state) _ c.if-is_refused.true; glyphs = contextual-left _ _ _ (line_of _ _ _ _) _ _ _ c.contextual_from-given.ensures c.step-step.ensures.glyphs; advance = kept (λ (s : ContextualStep). s.answer) e c.is_refused.ensures (λ (s : ContextualStep). s.advance) _ c.if-is_refused.true }

pub returns : goal.returns
returns c =
    let e = contextual_is _ _ _ (line_of _ _ _ _) _ _ _ c.contextual_from-given.ensures c.step-step.ensures.step in
    record { answer = numbered (λ (s : ContextualStep). s.answer) e c.from-3.ensures; state = put (λ (s : ContextualStep). s.answer) e c.is_refused.ensures (λ (s : ContextualStep). contextual_slots s.state) _ c.if-is_refused.false (rw (c.from-2.ensures ∙ flag_is c.step-step.result.state.mark_set) refl); glyphs = contextual-left _ _ _ (line_of _ _ _ _) _ _ _ c.contextual_from-given.ensures c.step-step.ensures.glyphs; advance = put (λ (s : ContextualStep). s.answer) e c.is_refused.ensures (λ (s : ContextualStep). s.advance) _ c.if-is_refused.false refl }
