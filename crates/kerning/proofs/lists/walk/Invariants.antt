use Rattle.kerning.specs.Lists.{walk}
use Rattle.kerning.proofs.Walking.{Walking}
use Rattle.kerning.proofs.lists.walk.Given as goal

abbrev pub invariant-loop-left : goal.invariant-loop-left
invariant-loop-left g l =
    Walking l.bytes (g.R.EndRule.rule l.rule) l.stride l.stack l.used (walk l.bytes (g.R.EndRule.rule l.rule) l.stride l.stack l.used l.depth l.place)
    l.initial.along l.along l.left l.next
