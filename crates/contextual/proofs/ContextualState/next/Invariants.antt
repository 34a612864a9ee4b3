use Prim.Native.Nat.{◌-◌}
use mathlib.Core.List.{[]}
use Rattle.state_tables.specs.Opened.{class_by}
use Rattle.machine.specs.Entry.{class_here}
use Rattle.indexes.specs.Index.{classes_by}
use Rattle.contextual.specs.Contextual.{ran}
use Rattle.contextual.proofs.Runs.{Running}
use Rattle.contextual.proofs.ContextualState.next.Given as goal

abbrev pub invariant-loop-entry : goal.invariant-loop-entry
invariant-loop-entry l =
    Running (classes_by l.lent (class_by l.bytes l.table)) l.bytes l.states l.index l.used l.initial.glyphs (ran (classes_by l.lent (class_by l.bytes l.table)) l.bytes l.states l.index 18 l.initial.state (class_here (classes_by l.lent (class_by l.bytes l.table)) l.initial.current l.initial.over) l.initial.current []) (class_by l.bytes l.table) l.memo l.glyphs l.state l.current l.over (18 - l._entry)
