use Prim.Native.Nat.{◌-◌, ◌≤◌}
use Rattle.tables.specs.Search.{side_of, searched}
use Rattle.tables.specs.declared.records.Keys.TheVariants.{Pairs}
use Rattle.tables.proofs.Halving.{Going}
use Rattle.tables.proofs.records.search_inside.Given as goal

abbrev pub invariant-loop-lo : goal.invariant-loop-lo
invariant-loop-lo l =
    (l.hi ≤ l.count) × Going (side_of l.bytes l.base Pairs l.key) (searched l.bytes l.base Pairs l.count l.key) l.lo l.hi

abbrev pub decreases-loop-lo : goal.decreases-loop-lo
decreases-loop-lo l = l.hi - l.lo
