use mathlib.Core.Path.{refl, ◌∙◌}
use Rattle.line.specs.Line.{Line}
use Rattle.indexes.proofs.Same.{plain-answer, plain-left}
use Rattle.contextual.specs.Calls.{contextual}
use Rattle.contextual.proofs.work.Goals as goal

pub returns : goal.returns
returns c =
    record { answer = c.work_by.ensures.answer ∙ plain-answer contextual _ refl _ _; glyphs = c.work_by.ensures.glyphs ∙ plain-left contextual _ refl _ _ (λ (l : Line). l.glyphs) }
