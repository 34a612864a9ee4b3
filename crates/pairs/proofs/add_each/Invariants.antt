use Prim.Native.Nat.{◌^◌}
use Rattle.pairs.proofs.Passes.{Stretching}
use Rattle.pairs.proofs.add_each.Given as goal

abbrev pub invariant-loop-place : goal.invariant-loop-place
invariant-loop-place g l = Stretching (goal.F-post g l.number) l.glyphs l.before l.from l.stop (2 ^ 61) l.initial.along l.along l.left l.place
