use Rattle.firmware.proofs.Slots.{glyph-fits}
use Rattle.firmware.proofs.Slots.{copied_more, copied}
use Rattle.line.proofs.Loops.{pasting_start}
use native.Mathlib.Omega.{arith}
use mathlib.Core.Path.{refl}
use Rattle.firmware.proofs.steps.glyphs_from.Goals as goal

pub loop-slot-init : goal.loop-slot-init
loop-slot-init c = pasting_start _ _ _ _

pub overflow_cast-glyphs : goal.overflow_cast-glyphs
overflow_cast-glyphs c = omega (arith, glyph-fits _ _ _ c.requires c.loop-slot-test.true)

pub loop-slot-preserved : goal.loop-slot-preserved
loop-slot-preserved c = copied_more _ _ refl c.loop-slot.invariant c.loop-slot-test.true

pub returns : goal.returns
returns c = copied _ _ refl c.loop-slot.invariant c.loop-slot-test.false
