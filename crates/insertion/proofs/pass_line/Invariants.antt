use Prim.Native.Nat.{◌+◌, ◌*◌, ◌-◌}
use lib.ListN.{length}
use Rattle.line.specs.Line.{line_of}
use Rattle.insertion.proofs.Passes.{Going}
use Rattle.insertion.proofs.pass_line.Given as goal

abbrev pub invariant-loop-entry : goal.invariant-loop-entry
invariant-loop-entry l =
    Going l.index l.bytes l.states (line_of l.initial.glyphs l.initial.tags l.homes l.used) l.opened l.memo l.glyphs l.tags l.homes l.end l.state l.place

abbrev pub decreases-loop-entry : goal.decreases-loop-entry
decreases-loop-entry l =
    (length l.glyphs - l.place) * 18 + (18 - l.state.cycles)
