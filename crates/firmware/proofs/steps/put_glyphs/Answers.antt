use Rattle.firmware.proofs.Slots.{put_more, put_done}
use Rattle.line.proofs.Loops.{pasting_start}
use native.Mathlib.Omega.{arith}
use Rattle.firmware.proofs.steps.put_glyphs.Goals as goal

pub loop-slot-init : goal.loop-slot-init
loop-slot-init c = pasting_start _ _ _ _

pub bounds-slots-from : goal.bounds-slots-from
bounds-slots-from c = omega (arith, c.loop-slot.invariant.long)

pub loop-slot-preserved : goal.loop-slot-preserved
loop-slot-preserved c = search put_more

pub shape_of-slots : goal.shape_of-slots
shape_of-slots c = c.loop-slot.invariant.long

pub returns : goal.returns
returns c = put_done _ _ _ c.loop-slot.invariant c.loop-slot-test.false
