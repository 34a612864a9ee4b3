-- The loop that compares words with numbers.
use Prim.Native.Nat.{ℕ, ◌+◌, ◌*◌, ◌<◌, ◌≤◌}
use mathlib.Core.Path.{◌≡◌, refl, sym, ◌∙◌}
use mathlib.Core.Bool.{true, false}
use mathlib.Core.List.{List}
use native.Mathlib.Numerals.{add-one}
use native.Mathlib.Omega.{arith}
use lib.Dec.{eqb}
use lib.ListN.{length, get_or}
use borrow.Author.Tests.{lt-ltb, le-ltb, eq-eqb, ne_eqb}
use Rattle.laws.specs.Lists.{every}
use Rattle.laws.proofs.Lists.{every-none, every_more, every_fails}
use Rattle.replay.specs.Results.{word_at, has_words}

-- the words before a place are the numbers
pub record Comparing (numbers words : List ℕ) (count place : ℕ) : Type 0 where
  pub there : count ≤ length words
  pub within : place ≤ count
  pub same : every (λ k. eqb (get_or words k 0) (word_at numbers (k * 2))) place ≡ true

pub too_few : (numbers words : List ℕ) (count : ℕ) → length words < count → false ≡ has_words numbers words count
unfolding has_words
too_few numbers words count h = rw (lt-ltb (length words) count h) refl

pub comparing_start : (numbers words : List ℕ) (count : ℕ) → count ≤ length words → Comparing numbers words count 0
comparing_start numbers words count h = record { there = h; within = omega arith; same = every-none _ }

module _ {numbers words : List ℕ} {count place : ℕ} (s : Comparing numbers words count place) where
  has_all : has_words numbers words count ≡ every (λ k. eqb (get_or words k 0) (word_at numbers (k * 2))) count
  unfolding has_words
  has_all = rw (le-ltb (length words) count s.there) refl

  module _ {n : ℕ} (h : place < count) (e : n ≡ word_at numbers (place * 2)) where
    pub comparing_next : get_or words place 0 ≡ n → Comparing numbers words count (place + 1)
    comparing_next p =
        record {
          there = s.there;
          within = omega arith;
          same = rw (add-one place) (every_more _ place s.same (eq-eqb (get_or words place 0) (word_at numbers (place * 2)) (p ∙ e)));
        }

    pub comparing_differs : (get_or words place 0 ≡ n → ⊥) → false ≡ has_words numbers words count
    comparing_differs p =
        sym (has_all ∙ every_fails _ count place (ne_eqb (get_or words place 0) (word_at numbers (place * 2)) (λ q. p (q ∙ sym e))) h)

  pub comparing_done : count ≤ place → true ≡ has_words numbers words count
  comparing_done h =
      let done : place ≡ count = omega (arith, s.within) in
      sym (has_all ∙ (rw done at s.same))
