use Rattle.stored.specs.Reading.{tags_in}
use Rattle.line.proofs.Seen.{Marking}
use Rattle.line.proofs.Room.{words}
use Rattle.stored.proofs.reading.once_each.Given as goal

abbrev pub invariant-loop-p : goal.invariant-loop-p
invariant-loop-p l = Marking words (tags_in l.bytes l.used) l.used l.seen l.p
