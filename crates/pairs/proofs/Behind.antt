-- More bytes behind a subtable change nothing for pairs whose numbers are not cut short without them.
use Rattle.std.specs.Prelude.{Option, Some, None, Result, Ok, Err, ℤ}
use Rattle.tables.specs.declared.lookup.Why.{Why}
use Prim.Native.Nat.{ℕ, zero, suc, ◌+◌, ◌<◌}
use mathlib.Core.Path.{◌≡◌, refl, ◌∙◌, ap, ap₂}
use mathlib.Core.Bool.{Bool, true, false, cond}
use mathlib.Core.List.{List, [], ◌++◌}
use native.Mathlib.Omega.{arith}
use lib.ListN.{get_or}
use Rattle.parse.specs.Reads.{read_i16}
use Rattle.parse.proofs.Behind.{Begins, Stays, begins_from, read_i16_stays, on_u32_stays}
use Rattle.tables.specs.Records.{pair_place}
use Rattle.tables.specs.declared.records.Keys.TheVariants as Keys'
use Rattle.tables.specs.declared.records.Spot.{Spot}
use Rattle.tables.specs.declared.records.Spot.TheVariants as Spot'
use Rattle.tables.specs.declared.units.Reading.{Reading}
use Rattle.tables.specs.declared.lookup.Why.TheVariants.{NotCovered, CutShort, UnknownFormat}
use Rattle.tables.proofs.Behind.{search_stays, lookup_stays}
use Rattle.answers.specs.declared.Answer.TheVariants as Answer'
use Rattle.kerning.specs.Additions.{Addition}
use Rattle.kerning.specs.declared.choices.PairRule.{PairRule}
use Rattle.pairs.specs.Inside.{PairsInside}
use Rattle.pairs.specs.Pairs.{ordered_kerx, classes_kerx, number_read, number_at, key_of, number_in, ordered_number, on_class, number_in_row, class_number, pair_number}
use Rattle.pairs.specs.Pass.{addition_of, Before, none, place, last_below, with_before, pairs_below, counts, worked_by}
use Rattle.pairs.specs.declared.PairTable.{PairTable}
use Rattle.pairs.specs.declared.PairTable.TheVariants.{Ordered, Classes}
use Rattle.kerning.specs.declared.heads.Unready.{Unready}
use Rattle.kerning.specs.declared.heads.Unready.TheVariants.{Short}

abbrev Numbers : (own whole : Result ℤ Why) → Type 0
Numbers own whole = Stays (Err CutShort) own whole

-- what is made of a class
class-used : (found found' : Result ℕ Why) → Stays (Err CutShort) found found' → (f g : ℕ → Result ℤ Why) → ((class : ℕ) → Numbers (f class) (g class))
    → Numbers (on_class found f) (on_class found' g)
class-used (Ok class) found' e f g same not = rw (e (λ p. let z : ◌≡◌ {A = ℕ} 0 1 = cc in omega arith)) (same class not)
class-used (Err NotCovered) found' e f g same not = rw (e (λ p. let z : ◌≡◌ {A = ℕ} 0 1 = cc in omega arith))
class-used (Err UnknownFormat) found' e f g same not = rw (e (λ p. let z : ◌≡◌ {A = ℕ} 0 1 = cc in omega arith))
class-used (Err CutShort) found' e f g same not = absurd (not refl)

module _ {own whole : List ℕ} (b : Begins own whole) where
  number_stays : (at : ℕ) → Numbers (number_at own at) (number_at whole at)
  unfolding number_at
  number_stays at = go (read_i16 own at) (read_i16_stays b at)
    where
      go : (r : Option ℤ) → Stays None r (read_i16 whole at) → Numbers (number_read r) (number_read (read_i16 whole at))
      go (Some n) e not = rw (e (λ p. let z : ◌≡◌ {A = ℕ} 0 1 = cc in omega arith))
      go None e not = absurd (not refl)

  -- ordered pairs
  spot_stays : (first : ℕ) (spot spot' : Spot) → Stays Spot'.Cut spot spot' → Numbers (number_in own first spot) (number_in whole first spot')
  unfolding number_in
  spot_stays first (Spot'.At i) spot' e not = rw (e (λ p. let z : ◌≡◌ {A = ℕ} 0 1 = cc in omega arith)) (number_stays (pair_place first i + 4) not)
  spot_stays first Spot'.Absent spot' e not = rw (e (λ p. let z : ◌≡◌ {A = ℕ} 0 1 = cc in omega arith))
  spot_stays first Spot'.Cut spot' e not = absurd (not refl)

  ordered_stays : (first count left right : ℕ) → Numbers (ordered_number own first count left right) (ordered_number whole first count left right)
  unfolding ordered_number
  ordered_stays first count left right = spot_stays first _ _ (search_stays b first Keys'.Pairs count (key_of left right))

  -- class pairs
  row_stays : (columns : ℕ) (reading : Reading) (row right : ℕ) → Numbers (number_in_row own columns reading row right) (number_in_row whole columns reading row right)
  unfolding number_in_row
  row_stays columns reading row right =
      class-used _ _ (lookup_stays (begins_from columns b) reading right) _ _ (λ column. number_stays (row + column))

  class_stays : (rows columns array : ℕ) (reading : Reading) (left right : ℕ)
      → Numbers (class_number own rows columns array reading left right) (class_number whole rows columns array reading left right)
  unfolding class_number
  class_stays rows columns array reading left right =
      class-used _ _ (lookup_stays (begins_from rows b) reading left) _ _ (λ row. row_stays columns reading (array + row) right)

  pub pair_stays : (pairs : PairTable) (left right : ℕ) → Stays (Err CutShort) (pair_number own pairs left right) (pair_number whole pairs left right)
  unfolding pair_number
  pair_stays (Ordered first count) left right = ordered_stays first count left right
  pair_stays (Classes rows columns array reading) left right = class_stays rows columns array reading left right

  -- the openings
  pub ordered-opens : Stays (Err Short) (ordered_kerx own) (ordered_kerx whole)
  unfolding ordered_kerx
  ordered-opens = on_u32_stays b 12 _ _ (λ count not. refl)

  pub classes_open : (reading : Reading) → Stays (Err Short) (classes_kerx own reading) (classes_kerx whole reading)
  unfolding classes_kerx
  classes_open reading = on_u32_stays b 16 _ _ (λ rows. on_u32_stays b 20 _ _ (λ columns. on_u32_stays b 24 _ _ (λ array not. refl)))

-- the pairs of a line, by numbers that are the same for each
module _ (counted : ℕ → Bool) (number number' : (left right : ℕ) → Result ℤ Why) (glyphs : List ℕ) where
  abbrev SameBelow : ℕ → Type 0
  SameBelow n =
      (p q : ℕ) → q < n → counted q ≡ true → last_below counted q ≡ place p → number' (get_or glyphs p 0) (get_or glyphs q 0) ≡ number (get_or glyphs p 0) (get_or glyphs q 0)

  here-same : (n : ℕ) → SameBelow (suc n)
      → cond (counted n) (with_before counted number' glyphs (last_below counted n) n) [] ≡ cond (counted n) (with_before counted number glyphs (last_below counted n) n) []
  here-same n same = go (counted n) (last_below counted n) refl refl
    where
      go : (t : Bool) (before : Before) → counted n ≡ t → last_below counted n ≡ before
          → cond t (with_before counted number' glyphs before n) [] ≡ cond t (with_before counted number glyphs before n) []
      go false before e f = refl
      go true none e f = refl
      go true (place p) e f = ap (addition_of p) (same p n (omega arith) e f)

  pairs-same : (n : ℕ) → SameBelow n → pairs_below counted number' glyphs n ≡ pairs_below counted number glyphs n
  unfolding pairs_below
  pairs-same zero same = refl
  pairs-same (suc n) same = ap₂ (λ (xs ys : List Addition). xs ++ ys) (pairs-same n (λ p q h e f. same p q (omega arith) e f)) (here-same n same)

-- the pass: what is opened from the own bytes is what is opened from the whole, and each pair has its number
pub pass_stays : {own whole : List ℕ} → Begins own whole → (opened opened' : Result PairTable Unready) → Stays (Err Short) opened opened' → (glyphs : List ℕ) (used : ℕ) (rule : PairRule)
    → PairsInside own opened glyphs used rule → worked_by whole opened' glyphs used rule ≡ worked_by own opened glyphs used rule
unfolding worked_by
pass_stays {own} {whole} b opened opened' stays glyphs used rule inside =
    let f = inside.opens in
    let e : opened' ≡ Ok inside.pairs = stays (λ p. let z : ◌≡◌ {A = ℕ} 0 1 = cc in omega arith) ∙ f in
    rw (e, f)
    (ap (λ (xs : List Addition). record { answer = Answer'.Done; additions = xs })
    (pairs-same (counts rule glyphs) (pair_number own inside.pairs) (pair_number whole inside.pairs) glyphs used
    (λ p q h c l. pair_stays b inside.pairs (get_or glyphs p 0) (get_or glyphs q 0) (inside.numbers p q h c l))))
