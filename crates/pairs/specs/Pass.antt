-- The pair pass: each pair adds its number to the first of its two places.
use Rattle.tables.specs.declared.lookup.Why.{Why}
use Rattle.std.specs.Prelude.{ℕ, zero, suc, Bool, true, cond, List, [], ◌∷◌, ◌++◌, ltb, get_or, Result, Ok, Err, ℤ}
use Rattle.answers.specs.declared.Answer.TheVariants as Answer'
use Rattle.kerning.specs.Heads.{refusal}
use Rattle.kerning.specs.declared.heads.Unready.{Unready}
use Rattle.kerning.specs.Additions.{Addition, Kerned, nothing_added}
use Rattle.kerning.specs.declared.choices.PairRule.{PairRule}
use Rattle.kerning.specs.declared.choices.PairRule.TheVariants.{Neighbours, Joined}
use Rattle.pairs.specs.Pairs.{pair_number}
use Rattle.pairs.specs.declared.PairTable.{PairTable}

-- what a pair adds to the place of its left glyph; a pair that is not found adds nothing
abbrev pub addition_of : (place : ℕ) → Result ℤ Why → List Addition
addition_of place (Ok number) = record { place = place; number = number } ∷ []
addition_of place (Err why) = []

-- a place, or none
pub data Before : Type 0 where
  none : Before
  place : ℕ → Before

module _ (counts : ℕ → Bool) where
  -- the last place below n that counts
  unfoldable pub last_below : ℕ → Before
  last_below zero = none
  last_below (suc n) = cond (counts n) (place n) (last_below n)

  module _ (number : (left right : ℕ) → Result ℤ Why) (glyphs : List ℕ) where
    -- what the glyph at a place adds with the one at the place before
    abbrev pub with_before : Before → ℕ → List Addition
    with_before none q = []
    with_before (place p) q = addition_of p (number (get_or glyphs p 0) (get_or glyphs q 0))

    -- what the pairs among the first n places add: pairs are consecutive places that count
    unfoldable pub pairs_below : ℕ → List Addition
    pairs_below zero = []
    pairs_below (suc n) = pairs_below n ++ cond (counts n) (with_before (last_below n) n) []

-- every place counts, a deleted glyph's like any other
abbrev pub every_place : ℕ → Bool
every_place p = true

-- whether a place counts, by its glyph: for neighbours every place does; for joined pairs where the glyph is below 0xFFFF
abbrev pub is_counted : PairRule → (glyph : ℕ) → Bool
is_counted Neighbours glyph = true
is_counted Joined glyph = ltb glyph 0xFFFF

-- the places of a line that count
abbrev pub counts : PairRule → (glyphs : List ℕ) → ℕ → Bool
counts rule glyphs p = is_counted rule (get_or glyphs p 0)

-- the pass over the first `used` glyphs, by a subtable's pairs; HEAD where they can't be opened, TUPLES where these are refused
unfoldable pub worked_by : List ℕ → Result PairTable Unready → (glyphs : List ℕ) → (used : ℕ) → PairRule → Kerned
worked_by bytes (Ok pairs) glyphs used rule =
    record { answer = Answer'.Done; additions = pairs_below (counts rule glyphs) (pair_number bytes pairs) glyphs used }
worked_by bytes (Err why) glyphs used rule = nothing_added (Answer'.Refused (refusal why))
