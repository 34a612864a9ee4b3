use Prim.Native.Nat.{◌-◌}
use Rattle.line.specs.Line.{line_of}
use Rattle.ligature.proofs.Running.{Running}
use Rattle.ligature.proofs.next.Given as goal

abbrev pub invariant-loop-entry : goal.invariant-loop-entry
invariant-loop-entry l =
    Running l.bytes l.states l.index l.glyph l.class l.state l.initial.stack (line_of l.initial.glyphs l.tags l.initial.homes l.used) l.stack l.glyphs l.homes l.at l.cycles

abbrev pub decreases-loop-entry : goal.decreases-loop-entry
decreases-loop-entry l = 18 - l.cycles
