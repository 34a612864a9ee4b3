use Rattle.firmware.proofs.Slots.{fitting_start, fitting_more, fitting_fails, fitting_done}
use native.Mathlib.Omega.{arith}
use Rattle.firmware.proofs.steps.are_glyphs.Goals as goal

pub loop-slot-init : goal.loop-slot-init
loop-slot-init c = fitting_start _ _

pub overflow_add-from : goal.overflow_add-from
overflow_add-from c = omega (arith, c.loop-slot.invariant.within)

pub returns-then-slots-from-gt-WIDEST : goal.returns-then-slots-from-gt-WIDEST
returns-then-slots-from-gt-WIDEST c = fitting_fails _ _ _ c.loop-slot-test.true c.if-slots-from-gt-WIDEST.true

pub loop-slot-preserved : goal.loop-slot-preserved
loop-slot-preserved c = fitting_more _ _ c.loop-slot.invariant c.loop-slot-test.true c.if-slots-from-gt-WIDEST.false

pub returns : goal.returns
returns c = fitting_done _ _ c.loop-slot.invariant c.loop-slot-test.false
