use Rattle.firmware.proofs.Slots.{copied_more, copied}
use Rattle.line.proofs.Loops.{pasting_start}
use mathlib.Core.Path.{refl}
use Rattle.firmware.proofs.steps.places_from.Goals as goal

pub loop-slot-init : goal.loop-slot-init
loop-slot-init c = pasting_start _ _ _ _

pub loop-slot-preserved : goal.loop-slot-preserved
loop-slot-preserved c = copied_more _ _ refl c.loop-slot.invariant c.loop-slot-test.true

pub returns : goal.returns
returns c = copied _ _ refl c.loop-slot.invariant c.loop-slot-test.false
