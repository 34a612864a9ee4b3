use Rattle.firmware.specs.Steps.{slots_from}
use Rattle.line.proofs.Loops.{Pasting}
use Prim.Native.Nat.{◌-◌}
use Rattle.firmware.proofs.steps.places_from.Given as goal

abbrev pub invariant-loop-slot : goal.invariant-loop-slot
invariant-loop-slot l = Pasting l.initial.places 0 (slots_from l.slots 2) 32 l.places l.slot

abbrev pub decreases-loop-slot : goal.decreases-loop-slot
decreases-loop-slot l = 32 - l.slot
