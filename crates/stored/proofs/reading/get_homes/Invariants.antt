use Rattle.stored.specs.Reading.{homes_in}
use Rattle.line.proofs.Loops.{Pasting}
use Rattle.stored.proofs.reading.get_homes.Given as goal

abbrev pub invariant-loop-c : goal.invariant-loop-c
invariant-loop-c l = Pasting l.initial.homes 0 (homes_in l.bytes l.used l.characters) l.characters l.homes l.c
