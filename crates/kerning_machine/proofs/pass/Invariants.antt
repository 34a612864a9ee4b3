use Rattle.kerning_machine.proofs.Passes.{Going}
use Rattle.kerning_machine.proofs.Loops.{Stepping}
use Rattle.kerning_machine.specs.Machine.{rest}
use Rattle.state_tables.specs.Opened.{class_by, Remembers}
use Rattle.indexes.specs.Index.{classes_by}
use Prim.Native.Nat.{◌+◌}
use Rattle.kerning_machine.proofs.pass.Given as goal

abbrev pub invariant-loop-place : goal.invariant-loop-place
invariant-loop-place g l =
    Going (classes_by l.index (class_by l.bytes l.table)) l.bytes l.kerning l.glyphs l.used l.fn.along l.along l.state l.place × Remembers (class_by l.bytes l.table) l.memo

abbrev pub invariant-loop-advance : goal.invariant-loop-advance
invariant-loop-advance g l =
    Stepping (classes_by l.index (class_by l.bytes l.table)) l.bytes l.kerning l.glyphs l.used l.fn.along l.along l.state l.place l.advance

abbrev pub decreases-loop-advance : goal.decreases-loop-advance
decreases-loop-advance g l = rest l.used l.state (l.place + l.advance)
