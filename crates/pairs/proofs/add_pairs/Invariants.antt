use Prim.Native.Nat.{◌-◌}
use Rattle.pairs.specs.Pass.{counts}
use Rattle.pairs.specs.Pairs.{pair_number}
use Rattle.pairs.proofs.Passes.{Joining}
use Rattle.pairs.proofs.add_pairs.Given as goal

abbrev pub invariant-loop-from : goal.invariant-loop-from
invariant-loop-from l = Joining (counts l.rule l.glyphs) (pair_number l.bytes l.pairs) l.glyphs l.used l.initial.along l.along l.before l.from

abbrev pub decreases-loop-from : goal.decreases-loop-from
decreases-loop-from l = l.used - l.from
