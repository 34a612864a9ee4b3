use mathlib.Core.Path.{◌≡◌}
use lib.ListN.{drop}
use Rattle.laws.specs.Lists.{either}
use Rattle.chains.specs.Features.{is_asked}
use Rattle.chains.proofs.features.is_asked.Given as goal

abbrev pub invariant-loop-request : goal.invariant-loop-request
invariant-loop-request l = either l.asked (is_asked (drop l.request-index l.requests) l.wanted) ≡ is_asked l.requests l.wanted
