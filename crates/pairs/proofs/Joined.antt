-- Joined pairs: the loop's additions are those of the pairs that the sentence describes, and on a line without deleted glyphs those of neighbours.
use Rattle.std.specs.Prelude.{Result, Ok, Err, ℤ}
use Rattle.tables.specs.declared.lookup.Why.{Why}
use Prim.Native.Nat.{ℕ, zero, suc, ◌+◌, ◌-◌, ◌<◌, ◌≤◌}
use mathlib.Core.Path.{◌≡◌, refl, sym, ◌∙◌, ap, ap₂, subst}
use mathlib.Core.Bool.{Bool, true, false, cond}
use mathlib.Core.List.{List, [], ◌∷◌, ◌++◌, append-nil}
use mathlib.Core.Logic.{◌⊎◌, inl, inr}
use native.Mathlib.Omega.{arith}
use lib.Dec.{eqb}
use lib.ListN.{get_or}
use borrow.Author.Tests.{eq-eqb, ne_eqb, lt-ltb, le-ltb, ltb-true, ltb-false}
use Rattle.laws.proofs.Numbers.{lt-or-ge, eq-or-ne}
use Rattle.kerning.specs.Additions.{Addition}
use Rattle.kerning.specs.declared.choices.PairRule.TheVariants.{Neighbours, Joined}
use Rattle.pairs.specs.Pairs.{pair_number}
use Rattle.pairs.specs.Pass.{addition_of, Before, none, place as placed, last_below, with_before, pairs_below, every_place, counts, worked_by}
use Rattle.pairs.specs.Joined.{JoinedPair, to_place, AddedBy}
use Rattle.pairs.specs.declared.PairTable.{PairTable}
use Rattle.kerning.specs.declared.heads.Unready.{Unready}
use Rattle.pairs.proofs.Passes.{last-counted, last-skipped, last-over, below_next}

-- the additions to a place
to_append : (p : ℕ) (xs ys : List Addition) → to_place p (xs ++ ys) ≡ to_place p xs ++ to_place p ys
unfolding to_place
to_append p [] ys = refl
to_append p (a ∷ xs) ys = go (eqb a.place p) (to_append p xs ys)
  where
    go : (t : Bool) → to_place p (xs ++ ys) ≡ to_place p xs ++ to_place p ys
        → cond t (a ∷ to_place p (xs ++ ys)) (to_place p (xs ++ ys)) ≡ cond t (a ∷ to_place p xs) (to_place p xs) ++ to_place p ys
    go true e = ap (λ (x : List Addition). a ∷ x) e
    go false e = e

to_same : (p : ℕ) (n : Result ℤ Why) → to_place p (addition_of p n) ≡ addition_of p n
unfolding to_place
to_same p (Ok z) = rw (eq-eqb p p refl)
to_same p (Err why) = refl

to_other : (p q : ℕ) (n : Result ℤ Why) → (q ≡ p → ⊥) → to_place p (addition_of q n) ≡ []
unfolding to_place
to_other p q (Ok z) h = rw (ne_eqb q p h)
to_other p q (Err why) h = refl

abbrev place_of : Before → ℕ
place_of none = 0
place_of (placed p) = p

abbrev is_place : Before → ℕ
is_place none = 0
is_place (placed p) = 1

module _ (counts : ℕ → Bool) where
  -- a pair, whatever counts
  record Pair (p q : ℕ) : Type 0 where
    before : p < q
    first : counts p ≡ true
    second : counts q ≡ true
    between : (k : ℕ) → p < k → k < q → counts k ≡ false

  -- the last place that counts, as a property
  record Last (n p : ℕ) : Type 0 where
    before : p < n
    counted : counts p ≡ true
    behind : (k : ℕ) → p < k → k < n → counts k ≡ false

  last_is : (n p : ℕ) → last_below counts n ≡ placed p → Last n p
  unfolding last_below
  last_is zero p e = let z : ◌≡◌ {A = ℕ} 0 1 = ap is_place e in absurd (omega arith)
  last_is (suc n) p e = go (counts n) refl (last_is n p)
    where
      go : (t : Bool) → counts n ≡ t → (last_below counts n ≡ placed p → Last n p) → Last (suc n) p
      go true c rest =
          let here : n ≡ p = ap place_of (sym (last-counted counts n c) ∙ e) in
          record { before = omega arith; counted = subst (λ (k : ℕ). counts k ≡ true) here c; behind = λ k a b. absurd (omega arith) }
      go false c rest =
          let l : Last n p = rest (sym (last-skipped counts n c) ∙ e) in
          record { before = omega (arith, l.before); counted = l.counted; behind = λ k a b. further k a b (lt-or-ge k n) l }
        where
          further : (k : ℕ) → p < k → k < suc n → (k < n) ⊎ (n ≤ k) → Last n p → counts k ≡ false
          further k a b (inl h) l = l.behind k a h
          further k a b (inr h) l = let here : n ≡ k = omega arith in subst (λ (i : ℕ). counts i ≡ false) here c

  last_of : (p q : ℕ) → Pair p q → last_below counts q ≡ placed p
  last_of p q h =
      let n : ℕ = q - suc p in
      let e : n + suc p ≡ q = omega (arith, h.before) in
      ap (last_below counts) (sym e) ∙ last-over counts (suc p) n (λ k a b. h.between k (omega arith) (omega arith)) ∙ last-counted counts p h.first

  both_ways : {k : ℕ} → counts k ≡ true → counts k ≡ false → ⊥
  both_ways a b = let z : ◌≡◌ {A = ℕ} 0 1 = cc in absurd (omega arith)

  module _ (number : (left right : ℕ) → Result ℤ Why) (glyphs : List ℕ) where
    abbrev below : ℕ → List Addition
    below = pairs_below counts number glyphs

    -- a place that is not the second of a pair with p adds nothing to p
    step : (p n : ℕ) → (counts n ≡ true → last_below counts n ≡ placed p → ⊥) → to_place p (below (suc n)) ≡ to_place p (below n)
    unfolding pairs_below to_place
    step p n never =
        to_append p (below n) (cond (counts n) (with_before counts number glyphs (last_below counts n) n) [])
        ∙ ap (λ (x : List Addition). to_place p (below n) ++ x) (go (counts n) refl (last_below counts n) refl)
        ∙ append-nil (to_place p (below n))
      where
        go : (t : Bool) → counts n ≡ t → (b : Before) → last_below counts n ≡ b → to_place p (cond t (with_before counts number glyphs b n) []) ≡ []
        go false c b l = refl
        go true c none l = refl
        go true c (placed q) l = other (eq-or-ne q p)
          where
            other : (q ≡ p) ⊎ (q ≡ p → ⊥) → to_place p (addition_of q (number (get_or glyphs q 0) (get_or glyphs n 0))) ≡ []
            other (inl e) = absurd (never c (l ∙ ap placed e))
            other (inr h) = to_other p q (number (get_or glyphs q 0) (get_or glyphs n 0)) h

    none_to : (p n : ℕ) → ((q : ℕ) → q < n → Pair p q → ⊥) → to_place p (below n) ≡ []
    unfolding pairs_below to_place
    none_to p zero never = refl
    none_to p (suc n) never =
        step p n (λ c l. let h : Last n p = last_is n p l in never n (omega arith) (record { before = h.before; first = h.counted; second = c; between = h.behind }))
        ∙ none_to p n (λ q h. never q (omega arith))

    one_to : (p q : ℕ) → Pair p q → to_place p (below (suc q)) ≡ addition_of p (number (get_or glyphs p 0) (get_or glyphs q 0))
    one_to p q h =
        let n : (Result ℤ Why) = number (get_or glyphs p 0) (get_or glyphs q 0) in
        ap (to_place p) (below_next counts number glyphs q p h.second (last_of p q h)) ∙ to_append p (below q) (addition_of p n)
        ∙ ap₂ (λ (x y : List Addition). x ++ y)
        (none_to p q (λ r k g. both_ways g.second (h.between r g.before k)))
        (to_same p n)

    later_to : (p q d : ℕ) → Pair p q → to_place p (below (d + suc q)) ≡ to_place p (below (suc q))
    later_to p q zero h = ap (λ (n : ℕ). to_place p (below n)) (omega arith)
    later_to p q (suc d) h =
        ap (λ (n : ℕ). to_place p (below n)) (omega arith)
        ∙ step p (d + suc q) (λ c l. both_ways h.second ((last_is (d + suc q) p l).behind q h.before (omega arith)))
        ∙ later_to p q d h

module _ (number : (left right : ℕ) → Result ℤ Why) (glyphs : List ℕ) (used : ℕ) (sixteen : (k : ℕ) → k < used → get_or glyphs k 0 ≤ 0xFFFF) where
  joined : ℕ → Bool
  joined = counts Joined glyphs

  -- the sentence's pair is a pair of places that count
  pair_counts : (p q : ℕ) → JoinedPair glyphs used p q → Pair joined p q
  unfolding joined
  pair_counts p q h =
      record {
        before = h.before;
        first = lt-ltb (get_or glyphs p 0) 0xFFFF h.first;
        second = lt-ltb (get_or glyphs q 0) 0xFFFF h.second;
        between = λ k a b. le-ltb (get_or glyphs k 0) 0xFFFF (omega (arith, h.between k a b));
      }

  counts_pair : (p q : ℕ) → q < used → Pair joined p q → JoinedPair glyphs used p q
  unfolding joined
  counts_pair p q w h =
      record {
        before = h.before;
        within = w;
        first = ltb-true (get_or glyphs p 0) 0xFFFF h.first;
        second = ltb-true (get_or glyphs q 0) 0xFFFF h.second;
        between = λ k a b. omega (arith, ltb-false (get_or glyphs k 0) 0xFFFF (h.between k a b), sixteen k (omega arith));
      }

  added_by_joined : AddedBy (JoinedPair glyphs used) number glyphs (pairs_below (counts Joined glyphs) number glyphs used)
  unfolding joined
  added_by_joined =
      record {
        to_first = λ p q h.
            let n : ℕ = used - suc q in
            let e : used ≡ n + suc q = omega (arith, h.within) in
            ap (λ (m : ℕ). to_place p (pairs_below joined number glyphs m)) e ∙ later_to joined number glyphs p q n (pair_counts p q h)
            ∙ one_to joined number glyphs p q (pair_counts p q h);
        to_others = λ p never. none_to joined number glyphs p used (λ q w h. never q (counts_pair p q w h));
      }

pub joined-pairs : (bytes : List ℕ) (pairs : PairTable) (glyphs : List ℕ) (used : ℕ) → ((k : ℕ) → k < used → get_or glyphs k 0 ≤ 0xFFFF)
    → AddedBy (JoinedPair glyphs used) (pair_number bytes pairs) glyphs (worked_by bytes (Ok pairs) glyphs used Joined).additions
unfolding worked_by
joined-pairs bytes pairs glyphs used sixteen = added_by_joined (pair_number bytes pairs) glyphs used sixteen

-- by the neighbour rule every place counts
pub neighbours_all : (bytes : List ℕ) (pairs : PairTable) (glyphs : List ℕ) (used : ℕ)
    → (worked_by bytes (Ok pairs) glyphs used Neighbours).additions ≡ pairs_below every_place (pair_number bytes pairs) glyphs used
unfolding worked_by
neighbours_all bytes pairs glyphs used = refl

-- which places count below n decides
module _ (f g : ℕ → Bool) where
  last-same : (n : ℕ) → ((k : ℕ) → k < n → f k ≡ g k) → last_below f n ≡ last_below g n
  unfolding last_below
  last-same zero h = refl
  last-same (suc n) h =
      ap₂ (λ (t : Bool) (b : Before). cond t (placed n) b) (h n (omega arith)) (last-same n (λ k l. h k (omega arith)))

  below-same : (number : (left right : ℕ) → Result ℤ Why) (glyphs : List ℕ) (n : ℕ) → ((k : ℕ) → k < n → f k ≡ g k)
      → pairs_below f number glyphs n ≡ pairs_below g number glyphs n
  unfolding pairs_below
  below-same number glyphs zero h = refl
  below-same number glyphs (suc n) h =
      ap₂ (λ (xs ys : List Addition). xs ++ ys) (below-same number glyphs n (λ k l. h k (omega arith)))
      (ap₂ (λ (t : Bool) (b : Before). cond t (with_before f number glyphs b n) []) (h n (omega arith)) (last-same n (λ k l. h k (omega arith))))

-- without a deleted glyph both rules add the same
pub joined_without_deleted : (bytes : List ℕ) (opened : Result PairTable Unready) (glyphs : List ℕ) (used : ℕ) → ((k : ℕ) → k < used → get_or glyphs k 0 < 0xFFFF)
    → worked_by bytes opened glyphs used Joined ≡ worked_by bytes opened glyphs used Neighbours
unfolding worked_by
joined_without_deleted bytes (Ok pairs) glyphs used all =
    rw (below-same (counts Joined glyphs) (counts Neighbours glyphs) (pair_number bytes pairs) glyphs used (λ k h. lt-ltb (get_or glyphs k 0) 0xFFFF (all k h)))
joined_without_deleted bytes (Err why) glyphs used all = refl
