-- On pairs in rising order, and by classes where the lookups read as the manual says, the crate's number is the manual's.
use Rattle.std.specs.Prelude.{Result, Ok, Err}
use Prim.Native.Nat.{ℕ, ◌+◌, ◌<◌, ◌≤◌}
use mathlib.Core.Path.{◌≡◌, refl, sym, ◌∙◌, ap, subst}
use mathlib.Core.Bool.{Bool, true, false}
use mathlib.Core.List.{List}
use native.Mathlib.Omega.{arith}
use lib.IntN.{ℤ}
use lib.ListN.{length, drop}
use borrow.Author.Tests.{eq-eqb}
use Rattle.laws.specs.Signed.{signed16}
use Rattle.parse.specs.Reads.{inside, u16_at, read_i16}
use Rattle.parse.proofs.Laws.{inside_yes, inside-fits}
use Rattle.tables.specs.Records.{pair_place}
use Rattle.tables.specs.Search.{searched}
use Rattle.tables.specs.Order.{Holds, TheOne}
use Rattle.tables.specs.ManualLookup as Lookup'
use Rattle.tables.specs.ManualLookup.{Layout}
use Rattle.tables.specs.declared.records.Keys.TheVariants as Keys'
use Rattle.tables.specs.declared.records.Spot.{Spot}
use Rattle.tables.specs.declared.records.Spot.TheVariants.{At, Absent, Cut}
use Rattle.tables.specs.Lookup.{lookup_at}
use Rattle.tables.specs.declared.units.Reading.TheVariants.{Crate}
use Rattle.tables.proofs.Sizes.{in_crate}
use Rattle.tables.specs.declared.lookup.Why.{Why}
use Rattle.tables.specs.declared.lookup.Why.TheVariants.{NotCovered, CutShort}
use Rattle.tables.proofs.Finding.{search_finds_pair}
use Rattle.tables.proofs.ManualLookup.{lookup_as_manual}
use Rattle.pairs.specs.Pairs.{key_of, number_at, number_in, ordered_number, number_in_row, class_number, pair_number}
use Rattle.pairs.specs.Reply.{number_reply, reply_of}
use Rattle.pairs.specs.Manual.{pair_key, IsPair, pair_value, Rising, OrderedValue, ClassValue, Legible, Covered, AsManual}
use Rattle.pairs.specs.declared.PairTable.TheVariants.{Ordered, Classes}

number-inside : (bytes : List ℕ) (place : ℕ) → place + 2 ≤ length bytes → number_at bytes place ≡ Ok (signed16 (u16_at bytes place))
unfolding number_at read_i16
number-inside bytes place h = rw (inside_yes bytes place 2 (omega arith) (omega arith))

-- a number is there or it is not
not_both : {A : Type 0} {value : ℤ} (n : Result ℤ Why) (why : Why) → n ≡ Ok value → n ≡ Err why → A
not_both n why e f = let z : ◌≡◌ {A = ℕ} 0 1 = cc in absurd (omega arith)

number-found : (bytes : List ℕ) (place : ℕ) (value : ℤ) → number_at bytes place ≡ Ok value
    → (place + 2 ≤ length bytes) × (value ≡ signed16 (u16_at bytes place))
unfolding number_at read_i16
number-found bytes place value e = go (inside bytes place 2) refl
  where
    go : (t : Bool) → inside bytes place 2 ≡ t → (place + 2 ≤ length bytes) × (value ≡ signed16 (u16_at bytes place))
    go true f =
        let v : Ok (signed16 (u16_at bytes place)) ≡ Ok value = sym (rw (f, number_at)) ∙ e in
        (inside-fits bytes place 2 f, cc)
    go false f = not_both (number_at bytes place) CutShort e (rw (f, number_at))

number_cut : (bytes : List ℕ) (place : ℕ) (why : Why) → number_at bytes place ≡ Err why → why ≡ CutShort
unfolding number_at read_i16
number_cut bytes place why e = go (inside bytes place 2) refl
  where
    go : (t : Bool) → inside bytes place 2 ≡ t → why ≡ CutShort
    go true f = not_both {value = signed16 (u16_at bytes place)} (number_at bytes place) why (rw (f, number_at)) e
    go false f = let n : Err CutShort ≡ Err why = sym (rw (f, number_at)) ∙ e in cc

-- what finds just the values that are there is NOTHING exactly when there is none; the reason is the only one that it can have
joined : (n : Result ℤ Why) (Value : ℤ → Type 0) (reason : Why) → ((value : ℤ) → n ≡ Ok value → Value value) → ((value : ℤ) → Value value → n ≡ Ok value)
    → ((why : Why) → n ≡ Err why → why ≡ reason) → AsManual (number_reply n) Value reason
joined (Ok number) Value reason found there only =
    record {
      found = λ value e. found value (let same : number ≡ value = cc in ap Ok same);
      there = λ value v. ap number_reply (there value v);
      nothing = λ why e value v. let z : ◌≡◌ {A = ℕ} 0 1 = cc in absurd (omega arith);
      none = λ never. absurd (never number (found number refl));
    }
joined (Err why) Value reason found there only =
    record {
      found = λ value e. let z : ◌≡◌ {A = ℕ} 0 1 = cc in absurd (omega arith);
      there = λ value v. ap number_reply (there value v);
      nothing = λ any e value v. not_both (Err why) why (there value v) refl;
      none = λ never. ap (λ (w : Why). Ok (Err w)) (only why refl);
    }

-- the one value that is there, or none
one_value : (n : Result ℤ Why) (Value : ℤ → Type 0) (reason : Why) (number : ℤ) → n ≡ Ok number → Value number
    → ((value : ℤ) → Value value → value ≡ number) → AsManual (number_reply n) Value reason
one_value n Value reason number e v only =
    joined n Value reason (λ value f. let same : Ok number ≡ Ok value = sym e ∙ f in subst Value (let s : number ≡ value = cc in s) v)
    (λ value w. e ∙ ap Ok (sym (only value w)))
    (λ why f. not_both n why e f)

no_value : (n : Result ℤ Why) (Value : ℤ → Type 0) (reason : Why) → n ≡ Err reason → ((value : ℤ) → Value value → ⊥) → AsManual (number_reply n) Value reason
no_value n Value reason e never =
    joined n Value reason (λ value f. not_both n reason f e) (λ value v. absurd (never value v))
    (λ why f. let same : Err reason ≡ Err why = sym e ∙ f in cc)

module _ (bytes : List ℕ) (tuples first count left right : ℕ) (none : tuples ≡ 0) (rising : Rising bytes first count) where
  the_one : TheOne (pair_key bytes first) (pair_key bytes first) count (key_of left right) (searched bytes first Keys'.Pairs count (key_of left right))
  the_one = search_finds_pair bytes first count (key_of left right) (λ i h. omega (arith, rising.whole i h)) rising.upward

  value-is : (i : ℕ) → i < count → number_in bytes first (At i) ≡ Ok (pair_value bytes tuples first i)
  unfolding number_in
  value-is i h =
      number-inside bytes (pair_place first i + 4) (omega (arith, rising.whole i h))
      ∙ ap Ok (sym (rw (eq-eqb tuples 0 none)))

  pub ordered_as_manual : AsManual (reply_of bytes (Ok (Ordered first count)) left right) (OrderedValue bytes tuples first count left right) NotCovered
  unfolding reply_of pair_number ordered_number number_in
  ordered_as_manual = go (searched bytes first Keys'.Pairs count (key_of left right)) refl
    where
      right_one : (s : Spot) → searched bytes first Keys'.Pairs count (key_of left right) ≡ s
          → TheOne (pair_key bytes first) (pair_key bytes first) count (key_of left right) s
      right_one s e = subst (TheOne (pair_key bytes first) (pair_key bytes first) count (key_of left right)) e the_one

      is : (s : Spot) → searched bytes first Keys'.Pairs count (key_of left right) ≡ s → ordered_number bytes first count left right ≡ number_in bytes first s
      is s e = ap (number_in bytes first) e

      held : (i : ℕ) → IsPair bytes first count left right i → Holds (pair_key bytes first) (pair_key bytes first) count (key_of left right) i
      held i p = record { counted = p.counted; above = omega (arith, p.glyphs); below = omega (arith, p.glyphs) }

      go : (s : Spot) → searched bytes first Keys'.Pairs count (key_of left right) ≡ s
          → AsManual (number_reply (ordered_number bytes first count left right)) (OrderedValue bytes tuples first count left right) NotCovered
      go (At j) e =
          let one = right_one (At j) e in
          one_value (ordered_number bytes first count left right) (OrderedValue bytes tuples first count left right) NotCovered
          (pair_value bytes tuples first j)
          (is (At j) e ∙ value-is j one.0.counted)
          (j, record { counted = one.0.counted; glyphs = omega (arith, one.0.above, one.0.below) }, refl)
          (λ value v. v.2 ∙ ap (λ (k : ℕ). pair_value bytes tuples first k) (one.1 v.0 (held v.0 v.1)))
      go Absent e =
          no_value (ordered_number bytes first count left right) (OrderedValue bytes tuples first count left right) NotCovered (is Absent e)
          (λ value v. right_one Absent e v.0 (held v.0 v.1))
      go Cut e = absurd (right_one Cut e)

-- by classes
module _ (bytes : List ℕ) (glyphs rows columns array left right : ℕ) (left_layout right_layout : Layout) (l : Legible (drop rows bytes) glyphs left left_layout) (r : Legible (drop columns bytes) glyphs right right_layout) where
  abbrev Value : ℤ → Type 0
  Value = ClassValue bytes glyphs rows columns array left right left_layout right_layout

  row-found : Lookup'.AsManual (drop rows bytes) glyphs left left_layout
  row-found = lookup_as_manual left_layout (drop rows bytes) glyphs left l.0 l.1

  column-found : Lookup'.AsManual (drop columns bytes) glyphs right right_layout
  column-found = lookup_as_manual right_layout (drop columns bytes) glyphs right r.0 r.1

  class-there : (value : ℤ) → Value value → class_number bytes rows columns array Crate left right ≡ Ok value
  unfolding class_number number_in_row
  class-there value v =
      let p = v.1 in
      rw (in_crate (drop rows bytes) left ∙ row-found.there p.row p.row_lies p.row_inside, in_crate (drop columns bytes) right ∙ column-found.there p.column p.column_lies p.column_inside, ← p.sum)
      (number-inside bytes v.0 p.inside ∙ ap Ok (sym v.2))

  class-found : (value : ℤ) → class_number bytes rows columns array Crate left right ≡ Ok value → Value value
  unfolding class_number number_in_row
  class-found value e = go (lookup_at (drop rows bytes) left) (lookup_at (drop columns bytes) right) refl refl
    where
      go : (a b : Result ℕ Why) → lookup_at (drop rows bytes) left ≡ a → lookup_at (drop columns bytes) right ≡ b → Value value
      go (Ok a) (Ok b) f g =
          let (row, row_lies, row_inside, a-is) = row-found.found a f in
          let (column, column_lies, column_inside, b-is) = column-found.found b g in
          let n : number_at bytes (array + a + b) ≡ Ok value = sym (rw (in_crate (drop rows bytes) left ∙ f, in_crate (drop columns bytes) right ∙ g, class_number)) ∙ e in
          let (inside, value-is) = number-found bytes (array + a + b) value n in (
            array + a + b,
            record {
              row = row;
              row_lies = row_lies;
              row_inside = row_inside;
              column = column;
              column_lies = column_lies;
              column_inside = column_inside;
              sum = omega (arith, a-is, b-is);
              inside = inside;
            },
            value-is,
          )
      go (Ok a) (Err why) f g = not_both (class_number bytes rows columns array Crate left right) why e (rw (in_crate (drop rows bytes) left ∙ f, in_crate (drop columns bytes) right ∙ g, class_number))
      go (Err why) b f g = not_both (class_number bytes rows columns array Crate left right) why e (rw (in_crate (drop rows bytes) left ∙ f, class_number))

  -- of glyphs that both lookups cover, only the number can be cut short
  class-cut : Covered (drop rows bytes) glyphs left left_layout → Covered (drop columns bytes) glyphs right right_layout → (why : Why)
      → class_number bytes rows columns array Crate left right ≡ Err why → why ≡ CutShort
  unfolding class_number number_in_row
  class-cut (row, row_lies, row_inside) (column, column_lies, column_inside) why e =
      let a = row-found.there row row_lies row_inside in
      let b = column-found.there column column_lies column_inside in
      number_cut bytes (array + u16_at (drop rows bytes) row + u16_at (drop columns bytes) column) why (sym (rw (in_crate (drop rows bytes) left ∙ a, in_crate (drop columns bytes) right ∙ b, class_number)) ∙ e)

  pub class_as_manual : Covered (drop rows bytes) glyphs left left_layout → Covered (drop columns bytes) glyphs right right_layout
      → AsManual (reply_of bytes (Ok (Classes rows columns array Crate)) left right) Value CutShort
  unfolding reply_of pair_number
  class_as_manual lefts rights = joined (class_number bytes rows columns array Crate left right) Value CutShort class-found class-there (class-cut lefts rights)
