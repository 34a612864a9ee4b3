use Rattle.firmware.proofs.Slots.{Fitting}
use Prim.Native.Nat.{◌-◌}
use Rattle.firmware.proofs.steps.are_glyphs.Given as goal

abbrev pub invariant-loop-slot : goal.invariant-loop-slot
invariant-loop-slot l = Fitting l.slots l.from l.slot

abbrev pub decreases-loop-slot : goal.decreases-loop-slot
decreases-loop-slot l = 32 - l.slot
