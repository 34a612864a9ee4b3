use mathlib.Core.Path.{◌≡◌}
use Rattle.chains.specs.Features.{flags_behind}
use Rattle.chains.proofs.features.flags_behind.Given as goal

abbrev pub invariant-loop-feature : goal.invariant-loop-feature
invariant-loop-feature l = flags_behind l.table l.list l.switched l.requests ≡ flags_behind l.table l.initial.list l.initial.switched l.requests

abbrev pub decreases-loop-feature : goal.decreases-loop-feature
decreases-loop-feature l = l.list.left
