use Rattle.line.proofs.Loops.{Pasting}
use Prim.Native.Nat.{◌-◌}
use Rattle.firmware.proofs.steps.put_glyphs.Given as goal

abbrev pub invariant-loop-slot : goal.invariant-loop-slot
invariant-loop-slot l = Pasting l.initial.slots l.from l.glyphs 32 l.slots l.slot

abbrev pub decreases-loop-slot : goal.decreases-loop-slot
decreases-loop-slot l = 32 - l.slot
