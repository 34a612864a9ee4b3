use mathlib.Core.Path.{◌≡◌}
use lib.Dec.{ltb}
use lib.ListN.{get_or}
use Rattle.laws.specs.Lists.{every}
use Rattle.line.proofs.valid.housed.Given as goal

abbrev pub invariant-loop-home : goal.invariant-loop-home
invariant-loop-home l = l.all ≡ every (λ i. ltb (get_or l.homes i 0) l.used) l.home-index
