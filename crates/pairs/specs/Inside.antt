-- What it is that a pair pass has no read that fails.
use Rattle.std.specs.Prelude.{ℕ, ◌<◌, ◌≡◌, true, List, get_or, Result, Ok, Err}
use Rattle.tables.specs.declared.lookup.Why.TheVariants.{CutShort}
use Rattle.kerning.specs.declared.choices.PairRule.{PairRule}
use Rattle.pairs.specs.Pairs.{pair_number}
use Rattle.pairs.specs.Pass.{last_below, place, counts}
use Rattle.pairs.specs.declared.PairTable.{PairTable}
use Rattle.kerning.specs.declared.heads.Unready.{Unready}

-- the pairs can be opened, and the number of no two consecutive places that count is cut short
pub record PairsInside (bytes : List ℕ) (opened : Result PairTable Unready) (glyphs : List ℕ) (used : ℕ) (rule : PairRule) : Type 0 where
  pub pairs : PairTable
  pub opens : opened ≡ Ok pairs
  pub numbers : (p q : ℕ) → q < used → counts rule glyphs q ≡ true → last_below (counts rule glyphs) q ≡ place p
      → pair_number bytes pairs (get_or glyphs p 0) (get_or glyphs q 0) ≡ Err CutShort → ⊥
