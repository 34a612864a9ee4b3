-- Sums and the largest and smallest of numbers: what fits 64 bits, and the loops over them.
use Prim.Native.Nat.{ℕ, zero, suc, ◌+◌, ◌*◌, ◌<◌, ◌≤◌, ◌^◌}
use mathlib.Core.Path.{◌≡◌, refl, ◌∙◌, sym, ap, ap₂, subst}
use mathlib.Core.Bool.{Bool, true, false, not, cond}
use mathlib.Core.List.{List}
use mathlib.Core.Logic.{◌⊎◌, inl, inr, ⊎_elim}
use native.Mathlib.Numerals.{add-one}
use native.Mathlib.Omega.{arith}
use lib.Dec.{leb}
use lib.IntN.{ℤ, pos, nat_abs, ◌+ℤ◌}
use lib.ListN.{length, get_or}
use lib.Signed.{lt_z}
use mir.Syntax.{w64}
use mir.Val.{SFits, to_z, of_z}
use mir.Facts.{to_z-of_z}
use borrow.Author.Tests.{leb-true, eq-eqb, ne_eqb, not-true, not-false}
use Rattle.laws.proofs.Lists.{every-at}
use Rattle.kerning.specs.Line.{bound, is_modest}
use Rattle.kerning.proofs.Signs.{size-sum, fits_64}
use Rattle.report.specs.Numbers.{larger, smaller, sum_of, chosen_of, largest_of, smallest_of, has_some, chosen_beside}
use Rattle.report.specs.Choices.{extreme_of}

-- a number of 64 bits comes back from them
pub back : {z : ℤ} → SFits w64 z → to_z w64 (of_z w64 z) ≡ z
back f = to_z-of_z f

-- and so does one of modest size
pub back-small : {z : ℤ} {n : ℕ} → nat_abs z ≤ n → n < 2 ^ 63 → to_z w64 (of_z w64 z) ≡ z
back-small {z} {n} h k = to_z-of_z (fits_64 {z = z} (omega (arith, h, k)))

-- a result of the code that is a number of 64 bits
pub back_result : {r z : ℤ} → r ≡ z → SFits w64 z → to_z w64 (of_z w64 r) ≡ z
back_result e f = ap (λ (x : ℤ). to_z w64 (of_z w64 x)) e ∙ to_z-of_z f

-- the larger of two numbers of 64 bits is one
larger-fits : {a b : ℤ} → SFits w64 a → SFits w64 b → SFits w64 (larger a b)
larger-fits {a} {b} f g = go (lt_z a b)
  where
    go : (t : Bool) → SFits w64 (cond t b a)
    go true = g
    go false = f

smaller-fits : {a b : ℤ} → SFits w64 a → SFits w64 b → SFits w64 (smaller a b)
smaller-fits {a} {b} f g = go (lt_z b a)
  where
    go : (t : Bool) → SFits w64 (cond t b a)
    go true = g
    go false = f

-- of two numbers of 64 bits, chosen by code that is lent both
module _ {a b : ℤ} (f : SFits w64 a) (g : SFits w64 b) where
  pub larger-back : {r : ℤ} → r ≡ larger (to_z w64 (of_z w64 a)) (to_z w64 (of_z w64 b)) → to_z w64 (of_z w64 r) ≡ larger a b
  larger-back e = back_result (e ∙ ap₂ (λ x y. larger x y) (to_z-of_z f) (to_z-of_z g)) (larger-fits f g)

  pub smaller-back : {r : ℤ} → r ≡ smaller (to_z w64 (of_z w64 a)) (to_z w64 (of_z w64 b)) → to_z w64 (of_z w64 r) ≡ smaller a b
  smaller-back e = back_result (e ∙ ap₂ (λ x y. smaller x y) (to_z-of_z f) (to_z-of_z g)) (smaller-fits f g)

-- of two numbers, compared by their bits
module _ {a b : ℤ} (f : SFits w64 a) (g : SFits w64 b) where
  plain : lt_z (to_z w64 (of_z w64 a)) (to_z w64 (of_z w64 b)) ≡ lt_z a b
  plain = ap₂ (λ x y. lt_z x y) (to_z-of_z f) (to_z-of_z g)

  pub less-second : lt_z (to_z w64 (of_z w64 a)) (to_z w64 (of_z w64 b)) ≡ true → to_z w64 (of_z w64 b) ≡ larger a b
  less-second e = to_z-of_z g ∙ sym (ap (λ (s : Bool). cond s b a) (sym plain ∙ e))

  pub less-first : lt_z (to_z w64 (of_z w64 a)) (to_z w64 (of_z w64 b)) ≡ false → to_z w64 (of_z w64 a) ≡ larger a b
  less-first e = to_z-of_z f ∙ sym (ap (λ (s : Bool). cond s b a) (sym plain ∙ e))

  pub more-second : lt_z (to_z w64 (of_z w64 b)) (to_z w64 (of_z w64 a)) ≡ true → to_z w64 (of_z w64 b) ≡ smaller a b
  more-second e = to_z-of_z g ∙ sym (ap (λ (s : Bool). cond s b a) (sym (ap₂ (λ x y. lt_z x y) (to_z-of_z g) (to_z-of_z f)) ∙ e))

  pub more-first : lt_z (to_z w64 (of_z w64 b)) (to_z w64 (of_z w64 a)) ≡ false → to_z w64 (of_z w64 a) ≡ smaller a b
  more-first e = to_z-of_z f ∙ sym (ap (λ (s : Bool). cond s b a) (sym (ap₂ (λ x y. lt_z x y) (to_z-of_z g) (to_z-of_z f)) ∙ e))

-- lines beside each other
pub some-before : (some : Bool) (used : ℕ) → used ≡ 0 → some ≡ has_some some used
unfolding has_some
some-before some used e = rw (eq-eqb _ _ e)

pub some-here : (some : Bool) (used : ℕ) → (used ≡ 0 → ⊥) → true ≡ has_some some used
unfolding has_some
some-here some used n = rw (ne_eqb _ _ n)

module _ (choose : ℤ → ℤ → ℤ) (some : Bool) (all : ℤ) (used : ℕ) (line : ℤ) where
  pub none_beside : {r : ℤ} → used ≡ 0 → r ≡ all → r ≡ chosen_beside choose some all used line
  unfolding chosen_beside
  none_beside e h = rw (eq-eqb _ _ e) h

  module _ (n : used ≡ 0 → ⊥) where
    pub first_beside : {r : ℤ} → not some ≡ true → r ≡ line → r ≡ chosen_beside choose some all used line
    unfolding chosen_beside
    first_beside e h = rw (ne_eqb _ _ n, not-true some e) h

    pub more_beside : {r : ℤ} → not some ≡ false → r ≡ choose all line → r ≡ chosen_beside choose some all used line
    unfolding chosen_beside
    more_beside e h = rw (ne_eqb _ _ n, not-false some e) h

-- every number of modest ones is at most 2^40 in size
pub modest-at : (xs : List ℤ) → is_modest xs ≡ true → (p : ℕ) → p < length xs → nat_abs (get_or xs p (pos 0)) ≤ 1099511627776
unfolding is_modest
modest-at xs e p h = leb-true _ _ (every-at (λ p. leb (nat_abs (get_or xs p (pos 0))) bound) (length xs) p e h)

-- the sum so far
pub record Adding (xs : List ℤ) (used : ℕ) (total : ℤ) (place : ℕ) : Type 0 where
  pub within : place ≤ used
  pub is : total ≡ sum_of xs place
  pub small : nat_abs total ≤ place * 1099511627776

module _ (xs : List ℤ) (used : ℕ) where
  pub adding-start : Adding xs used (pos 0) 0
  unfolding sum_of
  adding-start = record { within = omega arith; is = refl; small = omega arith }

  module _ (modest : is_modest xs ≡ true) (long : used ≤ length xs) where
    number : (place : ℕ) → place < used → nat_abs (get_or xs place (pos 0)) ≤ 1099511627776
    number place h = modest-at xs modest place (omega (arith, h, long))

    pub adding-fits : (few : used ≤ 32768) {total : ℤ} {place : ℕ} → Adding xs used total place → place < used
        → nat_abs total + nat_abs (to_z w64 (of_z w64 (get_or xs place (pos 0)))) < 2 ^ 63
    adding-fits few {total} {place} a h =
        let plainly : to_z w64 (of_z w64 (get_or xs place (pos 0))) ≡ get_or xs place (pos 0) = back-small {n = 1099511627776} (number place h) (omega arith) in
        let same : nat_abs (to_z w64 (of_z w64 (get_or xs place (pos 0)))) ≡ nat_abs (get_or xs place (pos 0)) = ap nat_abs plainly in
        omega (arith, same, number place h, a.small, few, h)

    pub adding-next : (few : used ≤ 32768) {total : ℤ} {place : ℕ} {result : ℤ} → Adding xs used total place → place < used
        → result ≡ total +ℤ to_z w64 (of_z w64 (get_or xs place (pos 0))) → Adding xs used (to_z w64 (of_z w64 result)) (place + 1)
    unfolding sum_of
    adding-next few {total} {place} {result} a h e =
        record {
          within = omega arith;
          is = same ∙ ap (λ (z : ℤ). z +ℤ get_or xs place (pos 0)) a.is ∙ sym (ap (sum_of xs) (add-one place));
          small = subst (λ (z : ℤ). nat_abs z ≤ (place + 1) * 1099511627776) (sym same) size;
        }
      where
        size : nat_abs (total +ℤ get_or xs place (pos 0)) ≤ (place + 1) * 1099511627776
        size = omega (arith, size-sum total (get_or xs place (pos 0)), number place h, a.small)

        plainly : result ≡ total +ℤ get_or xs place (pos 0)
        plainly = e ∙ ap (λ (z : ℤ). total +ℤ z) (back-small (number place h) (omega arith))

        same : to_z w64 (of_z w64 result) ≡ total +ℤ get_or xs place (pos 0)
        same = back_result plainly (fits_64 (omega (arith, size, few, h)))

  pub adding-done : {total : ℤ} {place : ℕ} → Adding xs used total place → used ≤ place → total ≡ sum_of xs used
  adding-done {total} {place} a h = a.is ∙ ap (sum_of xs) ended
    where
      ended : place ≡ used
      ended = omega (arith, a.within, h)

-- the one chosen so far
pub record Choosing (choose : ℤ → ℤ → ℤ) (xs : List ℤ) (used : ℕ) (z : ℤ) (place : ℕ) : Type 0 where
  pub before : ℕ
  pub at : place ≡ suc before
  pub within : place ≤ used
  pub is : z ≡ chosen_of choose xs before
  pub small : nat_abs z ≤ 1099511627776

module _ (choose : ℤ → ℤ → ℤ) (one : (a b : ℤ) → (choose a b ≡ a) ⊎ (choose a b ≡ b)) (xs : List ℤ) (used : ℕ) where
  pub choosing-next : (z next : ℤ) (place : ℕ) → Choosing choose xs used z place → place < used → nat_abs (get_or xs place (pos 0)) ≤ 1099511627776
      → next ≡ choose z (get_or xs place (pos 0)) → Choosing choose xs used next (place + 1)
  unfolding chosen_of
  choosing-next z next place c h n e =
      record {
        before = suc c.before;
        at = add-one place ∙ ap suc c.at;
        within = omega arith;
        is = e ∙ ap (λ (y : ℤ). choose y (get_or xs place (pos 0))) c.is ∙ ap (λ (k : ℕ). choose (chosen_of choose xs c.before) (get_or xs k (pos 0))) c.at;
        small =
            ⊎_elim
            (λ (i : choose z (get_or xs place (pos 0)) ≡ z). subst (λ (y : ℤ). nat_abs y ≤ 1099511627776) (sym (e ∙ i)) c.small)
            (λ (i : choose z (get_or xs place (pos 0)) ≡ get_or xs place (pos 0)). subst (λ (y : ℤ). nat_abs y ≤ 1099511627776) (sym (e ∙ i)) n)
            (one z (get_or xs place (pos 0)));
      }

  module _ (modest : is_modest xs ≡ true) (long : used ≤ length xs) where
    number' : (place : ℕ) → place < used → nat_abs (get_or xs place (pos 0)) ≤ 1099511627776
    number' place h = modest-at xs modest place (omega (arith, h, long))

    pub choosing-start : (used ≡ 0 → ⊥) → Choosing choose xs used (to_z w64 (of_z w64 (get_or xs 0 (pos 0)))) 1
    unfolding chosen_of
    choosing-start n =
        let some : 0 < used = omega (arith, n) in
        let same = back-small (number' 0 some) (omega arith) in
        record {
          before = 0;
          at = refl;
          within = omega arith;
          is = same;
          small = subst (λ (y : ℤ). nat_abs y ≤ 1099511627776) (sym same) (number' 0 some);
        }

    pub choosing-goes : {z result : ℤ} {place : ℕ} → Choosing choose xs used z place → place < used
        → result ≡ choose z (to_z w64 (of_z w64 (get_or xs place (pos 0)))) → Choosing choose xs used (to_z w64 (of_z w64 result)) (place + 1)
    choosing-goes {z} {result} {place} c h e = choosing-next z (to_z w64 (of_z w64 result)) place c h (number' place h) same
      where
        plainly : result ≡ choose z (get_or xs place (pos 0))
        plainly = e ∙ ap (choose z) (back-small (number' place h) (omega arith))

        size : nat_abs (choose z (get_or xs place (pos 0))) ≤ 1099511627776
        size =
            ⊎_elim
            (λ (i : choose z (get_or xs place (pos 0)) ≡ z). subst (λ (y : ℤ). nat_abs y ≤ 1099511627776) (sym i) c.small)
            (λ (i : choose z (get_or xs place (pos 0)) ≡ get_or xs place (pos 0)). subst (λ (y : ℤ). nat_abs y ≤ 1099511627776) (sym i) (number' place h))
            (one z (get_or xs place (pos 0)))

        same : to_z w64 (of_z w64 result) ≡ choose z (get_or xs place (pos 0))
        same = back_result plainly (fits_64 (omega (arith, size)))

pub extreme_none : (choose : ℤ → ℤ → ℤ) (xs : List ℤ) (used : ℕ) → used ≡ 0 → pos 0 ≡ extreme_of choose xs used
unfolding extreme_of
extreme_none choose xs used e = sym (ap (extreme_of choose xs) e)

pub extreme_done : (choose : ℤ → ℤ → ℤ) (xs : List ℤ) (used : ℕ) (z : ℤ) (place : ℕ) → Choosing choose xs used z place → used ≤ place → z ≡ extreme_of choose xs used
unfolding extreme_of
extreme_done choose xs used z place c h = c.is ∙ sym (ap (extreme_of choose xs) ended)
  where
    ended : used ≡ suc c.before
    ended = omega (arith, c.at, c.within, h)

pub extreme_largest : (xs : List ℤ) (n : ℕ) → extreme_of larger xs n ≡ largest_of xs n
unfolding extreme_of largest_of
extreme_largest xs zero = refl
extreme_largest xs (suc n) = refl

pub extreme_smallest : (xs : List ℤ) (n : ℕ) → extreme_of smaller xs n ≡ smallest_of xs n
unfolding extreme_of smallest_of
extreme_smallest xs zero = refl
extreme_smallest xs (suc n) = refl

-- a sum is at most as many times 2^40 in size
pub sum-small : (xs : List ℤ) → is_modest xs ≡ true → (n : ℕ) → n ≤ length xs → nat_abs (sum_of xs n) ≤ n * 1099511627776
unfolding sum_of
sum-small xs modest zero h = omega arith
sum-small xs modest (suc n) h =
    omega (arith, size-sum (sum_of xs n) (get_or xs n (pos 0)), sum-small xs modest n (omega arith), modest-at xs modest n (omega arith))
