use Prim.Native.Nat.{◌+◌, ◌-◌}
use Rattle.state_tables.specs.Opened.{class_by}
use Rattle.indexes.specs.Index.{classes_by}
use Rattle.contextual.specs.Work.{ran_all}
use Rattle.contextual.proofs.Passes.{Going}
use Rattle.contextual.proofs.ContextualState.run.Given as goal

abbrev pub invariant-loop-place : goal.invariant-loop-place
invariant-loop-place l =
    Going (classes_by l.lent (class_by l.bytes l.table)) l.bytes l.states l.used l.initial.glyphs (ran_all (classes_by l.lent (class_by l.bytes l.table)) l.bytes l.states l.used l.steps l.initial.state l.initial.glyphs l.index l.initial.glyph l.initial.ends) (class_by l.bytes l.table) l.memo l.glyphs l.state l.place l.glyph l.ends (l.index + l.steps - l.place)
