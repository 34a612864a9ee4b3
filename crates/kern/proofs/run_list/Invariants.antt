use Prim.Native.Nat.{◌-◌}
use mathlib.Core.Bool.{false}
use Rattle.kerning_lists.specs.Walk.{heads_from as heads_of}
use Rattle.kerning_lists.proofs.Runs.{Running}
use Rattle.kerning_lists.specs.Family.{head_at, adds}
use Rattle.kern.specs.Kern.{kern}
use Rattle.kern.proofs.run_list.Given as goal

abbrev pub invariant-loop-heads : goal.invariant-loop-heads
invariant-loop-heads l = Running (adds kern l.bytes l.list.version l.used l.choices) l.glyphs l.used (head_at kern false l.bytes l.list.version) (heads_of (head_at kern false l.bytes l.list.version) l.list.count l.list.first) l.initial.along l.along l.heads (l.list.count - l.heads) l.at
