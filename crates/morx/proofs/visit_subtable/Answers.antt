use Rattle.line.specs.Line.{line_of}
use Rattle.morx.proofs.Visits.{visit_over, visit_worked}
use Rattle.morx.proofs.visit_subtable.Goals as goal

pub returns-then-passes_over : goal.returns-then-passes_over
returns-then-passes_over c = visit_over _ _ _ _ (line_of _ _ _ _) c.from-bytes.ensures c.passes_over.ensures c.if-passes_over.true

pub returns : goal.returns
returns c =
    visit_worked _ _ _ _ (line_of _ _ _ _) c.from-bytes.ensures c.passes_over.ensures c.if-passes_over.false c.should_reverse-turned.ensures c.kind_of-kind.ensures
    c.turn_and_work-reply.ensures c.settle.ensures
