use Rattle.line.specs.Line.{line_of}
use Rattle.morx.specs.Run.{ran}
use Rattle.morx.proofs.Runs.{Going}
use Rattle.morx.proofs.run_line.Given as goal

abbrev pub invariant-loop-heads : goal.invariant-loop-heads
invariant-loop-heads l =
    Going l.table l.choices l.requests (line_of l.initial.glyphs l.initial.tags l.initial.homes l.used) (ran l.table l.start l.choices (line_of l.initial.glyphs l.initial.tags l.initial.homes l.used) l.requests) l.glyphs l.tags l.homes l.walk l.flags l.heads l.length
