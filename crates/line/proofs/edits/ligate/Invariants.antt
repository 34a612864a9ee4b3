use Rattle.line.proofs.Loops.{Joining}
use Rattle.line.proofs.edits.ligate.Given as goal

abbrev pub invariant-loop-part : goal.invariant-loop-part
invariant-loop-part l = Joining l.used l.at l.parts l.tags l.initial.glyphs l.initial.homes l.glyphs l.homes l.part-index
