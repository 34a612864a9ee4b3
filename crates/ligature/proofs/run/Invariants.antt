use Prim.Native.Nat.{◌-◌}
use Rattle.line.specs.Line.{line_of}
use Rattle.ligature.specs.Work.{run}
use Rattle.ligature.proofs.Runs.{Going}
use Rattle.ligature.proofs.run.Given as goal

abbrev pub invariant-loop-place : goal.invariant-loop-place
invariant-loop-place l =
    Going l.lent l.bytes l.states l.end (line_of l.initial.glyphs l.tags l.initial.homes l.used)
    (run l.lent l.bytes l.states (l.end - l.index) l.begun l.initial.stack (line_of l.initial.glyphs l.tags l.initial.homes l.used) l.index l.first l.over)
    l.opened l.memo l.stack l.glyphs l.homes l.reached l.place l.glyph l.ends
