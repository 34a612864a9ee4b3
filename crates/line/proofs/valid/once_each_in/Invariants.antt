use lib.ListN.{length}
use Rattle.line.proofs.Seen.{Marking}
use Rattle.line.proofs.valid.once_each_in.Given as goal

abbrev pub invariant-loop-tag : goal.invariant-loop-tag
invariant-loop-tag l = Marking (length l.initial.seen) l.tags (length l.tags) l.seen l.tag-index
