use Prim.Native.Nat.{◌+◌}
use mathlib.Core.Path.{◌≡◌}
use Rattle.reel.specs.Parts.{place_of}
use Rattle.reel.proofs.adds_up.Given as goal

abbrev pub invariant-loop-size : goal.invariant-loop-size
invariant-loop-size l = place_of l.sizes l.size-index + l.left ≡ l.slice
