use Rattle.line.specs.Line.{line_of}
use Rattle.ligature.proofs.Acting.{Acting}
use Rattle.ligature.proofs.act.Given as goal

abbrev pub invariant-loop-number : goal.invariant-loop-number
invariant-loop-number l =
    Acting l.bytes l.initial.stack l.first l.spent (line_of l.initial.glyphs l.tags l.initial.homes l.used) l.stack l.glyphs l.homes l.number l.at l.sum l.cycles
