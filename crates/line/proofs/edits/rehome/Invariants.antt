use lib.ListN.{length}
use Rattle.line.specs.Changes.{rehomed}
use Rattle.line.proofs.Loops.{Pasting}
use Rattle.line.proofs.edits.rehome.Given as goal

abbrev pub invariant-loop-home : goal.invariant-loop-home
invariant-loop-home l = Pasting l.initial.homes 0 (rehomed l.from l.to l.initial.homes) (length l.initial.homes) l.homes l.home-index
