use Rattle.firmware.specs.Steps.{slots_from}
use Rattle.line.proofs.Loops.{Pasting}
use Prim.Native.Nat.{◌-◌}
use Rattle.firmware.proofs.steps.glyphs_from.Given as goal

abbrev pub invariant-loop-slot : goal.invariant-loop-slot
invariant-loop-slot l = Pasting l.initial.glyphs 0 (slots_from l.slots 34) 32 l.glyphs l.slot

abbrev pub decreases-loop-slot : goal.decreases-loop-slot
decreases-loop-slot l = 32 - l.slot
