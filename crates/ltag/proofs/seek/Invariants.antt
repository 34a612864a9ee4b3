use Prim.Native.Nat.{◌-◌}
use mathlib.Core.Path.{◌≡◌}
use Rattle.ltag.specs.Ltag.{look_at, seek, sought}
use Rattle.ltag.proofs.seek.Given as goal

abbrev pub invariant-loop-index : goal.invariant-loop-index
invariant-loop-index l = seek (look_at l.bytes l.name) (l.count - l.index) l.index ≡ sought l.bytes l.name l.count
