use Prim.Native.Nat.{ℕ, ◌-◌, ◌<◌, ◌≤◌}
use mathlib.Core.Path.{◌≡◌}
use Rattle.tables.specs.Search.{find}
use Rattle.tables.specs.declared.records.Side.{Side}
use Rattle.tables.proofs.Halving.{Going}
use Rattle.tables.proofs.records.halve.Given as goal

abbrev pub invariant-loop-lo : goal.invariant-loop-lo
invariant-loop-lo g l =
    (l.hi ≤ l.count)
    × ((sides : ℕ → Side) → ((i : ℕ) (s : Side) → i < l.count → goal.F-post g l.side i s → s ≡ sides i) → Going sides (find sides l.count 0 l.count) l.lo l.hi)

abbrev pub decreases-loop-lo : goal.decreases-loop-lo
decreases-loop-lo g l = l.hi - l.lo
