use Rattle.line.specs.Changes.{numbers_from}
use Rattle.line.proofs.Loops.{Pasting}
use Rattle.line.proofs.edits.number.Given as goal

abbrev pub invariant-loop-k : goal.invariant-loop-k
invariant-loop-k l = Pasting l.initial.part l.at (numbers_from l.first l.count) l.count l.part l.k
