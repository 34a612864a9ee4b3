use Rattle.stored.proofs.Written.{Filling}
use Rattle.stored.specs.Record.{home_bytes}
use lib.ListN.{length}
use Rattle.stored.proofs.writing.put_homes.Given as goal

abbrev pub invariant-loop-c : goal.invariant-loop-c
invariant-loop-c l = Filling l.initial.buffer l.at (home_bytes l.homes) (length l.homes) l.buffer l.c
