use Prim.Native.Nat.{◌-◌}
use Rattle.kerx.proofs.Marking.{GoingOn}
use Rattle.kerx.proofs.run_list.Given as goal

abbrev pub invariant-loop-heads : goal.invariant-loop-heads
invariant-loop-heads l =
    GoingOn l.ankr l.bytes l.list l.rtl l.initial.glyphs l.initial.tags l.used l.initial.along l.initial.x l.initial.y l.initial.back l.choices l.glyphs l.tags l.along l.x l.y l.back l.heads (l.list.count - l.heads) l.at
