-- The tests of the LINE test, in the order of the code: the first that fails decides, and the last decides the rest.
use Prim.Native.Nat.{ℕ, zero, suc, ◌+◌, ◌<◌, ◌≤◌}
use mathlib.Core.Path.{◌≡◌, refl, ◌∙◌, ap, ap₂}
use mathlib.Core.Bool.{Bool, true, false, not, ◌&&◌}
use mathlib.Core.List.{List}
use native.Mathlib.Numerals.{add-one}
use native.Mathlib.Omega.{arith}
use lib.Dec.{ltb, eqb}
use lib.ListN.{length, get_or, take}
use lib.Seq.{get_or-take, length-take-le}
use borrow.Author.Tests.{lt-ltb, ne_eqb, eqb-true}
use Rattle.laws.specs.Lists.{both, every}
use Rattle.laws.proofs.Lists.{every-at, every-none, every_more}
use Rattle.line.specs.Test.{is_new, is_once_each}
use Rattle.line.specs.Seen.{are_in_order}

-- a test that has held so far, and one number more
pub every_next : (f : ℕ → Bool) (n : ℕ) {all : Bool} → all ≡ every f n → (all && f n) ≡ every f (n + 1)
unfolding every
every_next f n {all} a = rw (add-one n) (turned all (f n) ∙ ap (both (f n)) a)
  where
    turned : (a b : Bool) → (a && b) ≡ both b a
    turned true true = refl
    turned true false = refl
    turned false true = refl
    turned false false = refl

-- a test that holds for each number below n
all_hold : (f : ℕ → Bool) (n : ℕ) → ((k : ℕ) → k < n → f k ≡ true) → every f n ≡ true
all_hold f zero holds = every-none f
all_hold f (suc n) holds = every_more f n (all_hold f n (λ k h. holds k (omega arith))) (holds n (omega arith))

-- tags that count up stand once each
pub once_in_order : (tags : List ℕ) (n : ℕ) → are_in_order tags n ≡ true → is_once_each tags n ≡ true
unfolding are_in_order is_once_each is_new
once_in_order tags n e =
    let own : (k : ℕ) → k < n → get_or tags k 0 ≡ k = λ k h. eqb-true _ _ (every-at (λ i. eqb (get_or tags i 0) i) n k e h) in
    all_hold _ n
    (λ p h.
    rw (lt-ltb (get_or tags p 0) n (omega (arith, own p h)))
    (all_hold _ p (λ q k. rw (ne_eqb (get_or tags q 0) (get_or tags p 0) (λ same. omega (arith, same, own p h, own q (omega arith)))))))

-- a test on the first n numbers alone
every_same : (f g : ℕ → Bool) (n : ℕ) → ((k : ℕ) → k < n → f k ≡ g k) → every f n ≡ every g n
unfolding every
every_same f g zero same = refl
every_same f g (suc n) same = ap₂ both (same n (omega arith)) (every_same f g n (λ k h. same k (omega arith)))

-- the used tags, cut from the rest
module _ (tags : List ℕ) (used : ℕ) (fits : used ≤ length tags) where
  tag_taken : (p : ℕ) → p < used → get_or (take used tags) p 0 ≡ get_or tags p 0
  tag_taken p h = get_or-take used tags p 0 h

  pub order_taken : are_in_order (take used tags) (length (take used tags)) ≡ are_in_order tags used
  unfolding are_in_order
  order_taken = rw (length-take-le used tags fits) (every_same _ _ used (λ p h. ap (λ (t : ℕ). eqb t p) (tag_taken p h)))

  pub once_taken : is_once_each (take used tags) (length (take used tags)) ≡ is_once_each tags used
  unfolding is_once_each is_new
  once_taken =
      rw (length-take-le used tags fits)
      (every_same _ _ used
      (λ p h.
      rw (tag_taken p h)
      (ap (both (ltb (get_or tags p 0) used))
      (every_same _ _ p (λ q k. ap (λ (t : ℕ). not (eqb t (get_or tags p 0))) (tag_taken q (omega arith)))))))
