use mathlib.Core.Path.{refl}
use Rattle.firmware.proofs.Slots.{put_more, put_done}
use Rattle.line.proofs.Loops.{pasting_start}
use native.Mathlib.Omega.{arith}
use Rattle.firmware.proofs.steps.put_places.Goals as goal

pub loop-slot-init : goal.loop-slot-init
loop-slot-init c = pasting_start _ _ _ _

pub overflow_add-slots : goal.overflow_add-slots
overflow_add-slots c = omega (arith, c.requires.0)

pub bounds-slots-from : goal.bounds-slots-from
bounds-slots-from c = omega (arith, c.loop-slot.invariant.long)

pub loop-slot-preserved : goal.loop-slot-preserved
loop-slot-preserved c = put_more _ _ _ c.requires.0 c.requires.1 c.loop-slot.invariant c.loop-slot-test.true refl

pub shape_of-slots : goal.shape_of-slots
shape_of-slots c = c.loop-slot.invariant.long

pub returns : goal.returns
returns c = put_done _ _ _ c.loop-slot.invariant c.loop-slot-test.false
