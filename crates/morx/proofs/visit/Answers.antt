use Rattle.line.specs.Line.{line_of}
use Rattle.morx.proofs.Visits.{visit_chain, visit_sub}
use Rattle.morx.proofs.visit.Goals as goal

pub returns-in-Chain : goal.returns-in-Chain
returns-in-Chain c = visit_chain _ _ _ (line_of _ _ _ _) _ c.in-Chain.is

pub returns-in-Subtable : goal.returns-in-Subtable
returns-in-Subtable c = visit_sub _ _ _ (line_of _ _ _ _) _ c.in-Subtable.is c.visit_subtable.ensures
