use Rattle.firmware.proofs.Stepping.{numbered, kept, put, ligature_is, ligature-left, kept-ligature, put_ligature}
use Rattle.firmware.proofs.Stepping.{numbered, kept, put, ligature_is, ligature-left}
use Rattle.ligature.specs.declared.LigatureStep.{LigatureStep}
use Rattle.line.specs.Line.{Line, line_of}
use mathlib.Core.Path.{refl}
use Rattle.firmware.proofs.steps.aat_ligature_step.Goals as goal

pub returns-then-is_refused : goal.returns-then-is_refused
returns-then-is_refused c =
    let e = ligature_is _ _ _ (line_of _ _ _ _) _ _ _ c.ligature_from-given.ensures c.step-step.ensures.step in
    record { answer = numbered (λ (s : LigatureStep). s.answer) e c.from.ensures; state = kept-ligature e c.is_refused.ensures _ c.if-is_refused.true; glyphs = ligature-left _ _ _ (line_of _ _ _ _) _ _ _ c.ligature_from-given.ensures (λ (l : Line). l.glyphs) c.step-step.ensures.glyphs; homes = ligature-left _ _ _ (line_of _ _ _ _) _ _ _ c.ligature_from-given.ensures (λ (l : Line). l.homes) c.step-step.ensures.homes; advance = kept (λ (s : LigatureStep). s.answer) e c.is_refused.ensures (λ (s : LigatureStep). s.advance) _ c.if-is_refused.true }

pub returns : goal.returns
returns c =
    let e = ligature_is _ _ _ (line_of _ _ _ _) _ _ _ c.ligature_from-given.ensures c.step-step.ensures.step in
    record { answer = numbered (λ (s : LigatureStep). s.answer) e c.from-2.ensures; state = put_ligature e c.is_refused.ensures _ c.if-is_refused.false c.put_ligature.ensures; glyphs = ligature-left _ _ _ (line_of _ _ _ _) _ _ _ c.ligature_from-given.ensures (λ (l : Line). l.glyphs) c.step-step.ensures.glyphs; homes = ligature-left _ _ _ (line_of _ _ _ _) _ _ _ c.ligature_from-given.ensures (λ (l : Line). l.homes) c.step-step.ensures.homes; advance = put (λ (s : LigatureStep). s.answer) e c.is_refused.ensures (λ (s : LigatureStep). s.advance) _ c.if-is_refused.false refl }
