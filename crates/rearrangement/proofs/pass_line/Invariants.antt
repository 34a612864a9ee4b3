use Prim.Native.Nat.{◌-◌}
use Rattle.line.specs.Line.{line_of}
use Rattle.rearrangement.proofs.Passes.{Going, Staying}
use Rattle.rearrangement.proofs.pass_line.Given as goal

abbrev pub invariant-steps : goal.invariant-steps
invariant-steps l =
    Staying l.index l.bytes l.states l.opened l.homes l.used l.place l.initial.memo l.initial.glyphs l.initial.tags l.initial.state l.memo l.glyphs l.tags l.state

abbrev pub decreases-steps : goal.decreases-steps
decreases-steps l = 18 - l.state.cycles

abbrev pub invariant-loop-place : goal.invariant-loop-place
invariant-loop-place l =
    Going l.index l.bytes l.states (line_of l.initial.glyphs l.initial.tags l.homes l.used) l.opened l.memo l.glyphs l.tags l.homes l.used l.state l.place
