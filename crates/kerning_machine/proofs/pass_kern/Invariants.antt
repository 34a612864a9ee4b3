use Rattle.kerning_machine.proofs.Loops.{Rowed}
use Rattle.kerning_machine.specs.Machine.{rest}
use Rattle.kerning_machine.specs.Work.{standing, kern_of}
use Rattle.state_tables.specs.Opened.{byte_class_in}
use Prim.Native.Nat.{◌+◌}
use Rattle.kerning_machine.proofs.pass_kern.Given as goal

abbrev pub invariant-loop-place : goal.invariant-loop-place
invariant-loop-place l =
    Rowed (byte_class_in l.bytes l.base l.first l.count) l.bytes (kern_of l.states l.crossed) l.glyphs l.used l.fn.along l.along l.row l.stack l.depth l.cycles l.place 0

abbrev pub invariant-loop-advance : goal.invariant-loop-advance
invariant-loop-advance l =
    Rowed (byte_class_in l.bytes l.base l.first l.count) l.bytes (kern_of l.states l.crossed) l.glyphs l.used l.fn.along l.along l.row l.stack l.depth l.cycles l.place l.advance

abbrev pub decreases-loop-advance : goal.decreases-loop-advance
decreases-loop-advance l = rest l.used (standing 0 l.stack l.depth l.cycles) (l.place + l.advance)
