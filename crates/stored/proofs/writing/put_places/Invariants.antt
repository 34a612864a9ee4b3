use Rattle.stored.proofs.Written.{Filling}
use Rattle.stored.specs.Record.{place_bytes}
use Rattle.stored.proofs.writing.put_places.Given as goal

abbrev pub invariant-loop-p : goal.invariant-loop-p
invariant-loop-p l = Filling l.initial.buffer 9 (place_bytes l.glyphs l.tags) l.used l.buffer l.p
