use mathlib.Core.List.{[]}
use Prim.Native.Nat.{◌-◌}
use Rattle.state_tables.specs.Opened.{opened_classes, nothing_found}
use Rattle.line.specs.Line.{line_of}
use Rattle.rearrangement.proofs.Passes.{Going, Staying}
use Rattle.rearrangement.proofs.lent.pass.Given as goal

abbrev pub invariant-steps : goal.invariant-steps
invariant-steps l =
    Staying [] l.bytes l.states (opened_classes l.bytes l.states.edition) l.homes l.used l.place nothing_found l.initial.glyphs l.initial.tags l.initial.state nothing_found l.glyphs l.tags l.state

abbrev pub decreases-steps : goal.decreases-steps
decreases-steps l = 18 - l.state.cycles

abbrev pub invariant-loop-place : goal.invariant-loop-place
invariant-loop-place l =
    Going [] l.bytes l.states (line_of l.initial.glyphs l.initial.tags l.homes l.used) (opened_classes l.bytes l.states.edition) nothing_found l.glyphs l.tags l.homes l.used l.state l.place
