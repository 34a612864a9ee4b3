-- The scan for the next place that does not count.
use Prim.Native.Nat.{ℕ}
use mathlib.Core.Path.{◌≡◌}
use mathlib.Core.Bool.{false}
use mathlib.Core.List.{List}
use native.Mathlib.Omega.{arith}
use Rattle.kerning.specs.declared.choices.PairRule.{PairRule}
use Rattle.kerning.specs.declared.choices.PairRule.TheVariants.{Neighbours}
use Rattle.pairs.specs.Pass.{counts}
use Rattle.pairs.specs.Work.{FirstFrom}

-- by the neighbour rule no place is skipped
pub none_skipped : (glyphs : List ℕ) (from used : ℕ) {rule : PairRule} → rule ≡ Neighbours → FirstFrom (counts rule glyphs) false from used used
none_skipped glyphs from used e =
    record { within = omega arith; skipped = λ k a b. rw e; here = λ k. absurd (omega arith) }
