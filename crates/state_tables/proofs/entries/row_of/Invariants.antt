use Prim.Native.Nat.{◌/◌}
use mathlib.Core.Path.{◌≡◌}
use Rattle.state_tables.proofs.entries.row_of.Given as goal

abbrev pub invariant-loop-row : goal.invariant-loop-row
invariant-loop-row l = l.row / l.classes ≡ l.cell / l.classes

abbrev pub decreases-loop-row : goal.decreases-loop-row
decreases-loop-row l = l.row
