use mathlib.Core.Path.{refl, ◌∙◌}
use Rattle.line.specs.Line.{Line}
use Rattle.indexes.proofs.Same.{plain-answer, plain-left}
use Rattle.rearrangement.specs.Calls.{rearrangement}
use Rattle.rearrangement.proofs.work.Goals as goal

pub returns : goal.returns
returns c =
    record { answer = c.work_by.ensures.answer ∙ plain-answer rearrangement _ refl _ _; glyphs = c.work_by.ensures.glyphs ∙ plain-left rearrangement _ refl _ _ (λ (l : Line). l.glyphs); tags = c.work_by.ensures.tags ∙ plain-left rearrangement _ refl _ _ (λ (l : Line). l.tags) }
