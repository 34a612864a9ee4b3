use Rattle.stored.specs.Reading.{glyphs_in, tags_in}
use Rattle.line.proofs.Loops.{Pasting}
use Rattle.stored.proofs.reading.get_places.Given as goal

abbrev pub invariant-loop-p : goal.invariant-loop-p
invariant-loop-p l = Pasting l.initial.glyphs 0 (glyphs_in l.bytes l.used) l.used l.glyphs l.p × Pasting l.initial.tags 0 (tags_in l.bytes l.used) l.used l.tags l.p
