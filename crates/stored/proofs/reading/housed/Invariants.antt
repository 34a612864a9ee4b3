use Rattle.stored.proofs.Tests.{Housing}
use Rattle.stored.proofs.reading.housed.Given as goal

abbrev pub invariant-loop-c : goal.invariant-loop-c
invariant-loop-c l = Housing l.bytes l.used l.characters l.c
