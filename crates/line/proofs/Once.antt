-- Tags that stand once each: no two places share one, and they stay so when places are shuffled or spliced in.
use Prim.Native.Nat.{ℕ, ◌+◌, ◌-◌, ◌<◌, ◌≤◌}
use mathlib.Core.Path.{◌≡◌, ◌∙◌, sym, ap}
use mathlib.Core.List.{List}
use mathlib.Core.Logic.{⊎_elim}
use native.Mathlib.Nat.{add-sub_cancel_left}
use native.Mathlib.Omega.{arith}
use lib.ListN.{length, get_or}
use Rattle.laws.specs.Choose.{if_lt}
use Rattle.laws.proofs.Choices.{if_lt_yes, if_lt_no}
use Rattle.laws.proofs.Lists.{length-tab, get_d_tab}
use Rattle.laws.proofs.Numbers.{lt-or-ge}
use Rattle.line.specs.Line.{OnceEach}
use Rattle.line.specs.Changes.{spliced, numbers_from}
use Rattle.line.proofs.Slices.{spliced-before, spliced-new, spliced-moved}

pub same_place : {tags : List ℕ} {n p q : ℕ} → OnceEach tags n → p < n → q < n → get_or tags p 0 ≡ get_or tags q 0 → p ≡ q
same_place {p = p} {q = q} o hp hq e = sym (o.back p hp) ∙ ap o.place e ∙ o.back q hq

-- two maps of the first n places, each undoing the other
pub record Shuffle (n : ℕ) (to from : ℕ → ℕ) : Type 0 where
  pub to_below : (p : ℕ) → p < n → to p < n
  pub from_below : (p : ℕ) → p < n → from p < n
  pub from_to : (p : ℕ) → p < n → from (to p) ≡ p
  pub to_from : (p : ℕ) → p < n → to (from p) ≡ p

module _ {n : ℕ} {to from : ℕ → ℕ} (s : Shuffle n to from) (before after : List ℕ)
    (is : (p : ℕ) → p < n → get_or after p 0 ≡ get_or before (from p) 0) where
  -- what stood at a place stands where the shuffle takes it
  pub shuffled_there : (p : ℕ) → p < n → get_or after (to p) 0 ≡ get_or before p 0
  shuffled_there p h = is (to p) (s.to_below p h) ∙ ap (λ (q : ℕ). get_or before q 0) (s.from_to p h)

  pub shuffled_once : OnceEach before n → OnceEach after n
  shuffled_once o =
      record {
        place = λ t. to (o.place t);
        below = λ p h. rw (is p h) (o.below (from p) (s.from_below p h));
        back = λ p h. rw (is p h) (ap to (o.back (from p) (s.from_below p h)) ∙ s.to_from p h);
        inside = λ t h. s.to_below (o.place t) (o.inside t h);
        there = λ t h. shuffled_there (o.place t) (o.inside t h) ∙ o.there t h;
      }

pub length-numbers_from : (used count : ℕ) → length (numbers_from used count) ≡ count
unfolding numbers_from
length-numbers_from used count = length-tab (λ k. used + k) count

pub get_d_numbers_from : (used count k : ℕ) → k < count → get_or (numbers_from used count) k 0 ≡ used + k
unfolding numbers_from
get_d_numbers_from used count k h = get_d_tab (λ i. used + i) count k 0 h

-- an insertion at a place of n used ones; so many new tags, from n up
module _ (at n count : ℕ) (tags : List ℕ) (inside : at ≤ n) (fits : n + count ≤ length tags) where
  abbrev after : List ℕ
  after = spliced at n (numbers_from n count) tags

  -- where a place goes
  abbrev up : ℕ → ℕ
  up p = if_lt p at p (p + count)

  fits' : n + length (numbers_from n count) ≤ length tags
  fits' = rw (length-numbers_from n count) fits

  new-there : (k : ℕ) → k < count → get_or after (at + k) 0 ≡ n + k
  new-there k h =
      spliced-new at n (numbers_from n count) tags inside fits' (at + k) (omega arith) (rw (length-numbers_from n count) (omega arith))
      ∙ rw (add-sub_cancel_left at k) (get_d_numbers_from n count k h)

  -- what stood at a place stands where the insertion takes it
  pub spliced-there : (p : ℕ) → p < n → get_or after (up p) 0 ≡ get_or tags p 0
  spliced-there p h =
      ⊎_elim
      (λ (k : p < at).
      rw (if_lt_yes p (p + count) k) (spliced-before at n (numbers_from n count) tags inside fits' p k))
      (λ (k : at ≤ p).
      rw (if_lt_no p (p + count) k)
      (spliced-moved at n (numbers_from n count) tags inside fits' (p + count) (rw (length-numbers_from n count) (omega arith))
      (rw (length-numbers_from n count) (omega arith))
      ∙ ap (λ (q : ℕ). get_or tags q 0) (rw (length-numbers_from n count) (omega arith))))
      (lt-or-ge p at)

  pub spliced-below : (p : ℕ) → p < n → up p < n + count
  spliced-below p h =
      ⊎_elim
      (λ (k : p < at). rw (if_lt_yes p (p + count) k) (omega arith))
      (λ (k : at ≤ p). rw (if_lt_no p (p + count) k) (omega arith))
      (lt-or-ge p at)

  -- a place afterwards is an old one, or one of the new
  by_part : (G : ℕ → Type 0) → ((p : ℕ) → p < n → G (up p)) → ((k : ℕ) → k < count → G (at + k)) → (p : ℕ) → p < n + count → G p
  by_part G old new p h =
      ⊎_elim
      (λ (k : p < at). rw (if_lt_yes p (p + count) k) at (old p (omega arith)))
      (λ (k : at ≤ p).
      ⊎_elim
      (λ (j : p < at + count).
      let e : at + (p - at) ≡ p = omega arith in
      rw e at (new (p - at) (omega arith)))
      (λ (j : at + count ≤ p).
      let e : p - count + count ≡ p = omega arith in
      let i : at ≤ p - count = omega arith in
      rw (if_lt_no (p - count) (p - count + count) i, e) at (old (p - count) (omega arith)))
      (lt-or-ge p (at + count)))
      (lt-or-ge p at)

  module _ (o : OnceEach tags n) where
    -- the place of a tag afterwards
    abbrev place : ℕ → ℕ
    place t = if_lt t n (up (o.place t)) (at + (t - n))

    place-old : (t : ℕ) → t < n → place t ≡ up (o.place t)
    place-old t h = if_lt_yes (up (o.place t)) (at + (t - n)) h

    place-new : (t : ℕ) → n ≤ t → place t ≡ at + (t - n)
    place-new t h = if_lt_no (up (o.place t)) (at + (t - n)) h

    -- a tag afterwards is an old one, or one of the new
    by_tag : (G : ℕ → ℕ → Type 0) → ((t : ℕ) → t < n → G t (up (o.place t))) → ((k : ℕ) → k < count → G (n + k) (at + k)) → (t : ℕ)
        → t < n + count → G t (place t)
    by_tag G old new t h =
        ⊎_elim
        (λ (k : t < n). rw (place-old t k) (old t k))
        (λ (k : n ≤ t).
        let e : n + (t - n) ≡ t = omega arith in
        rw (place-new t k) (rw e at (new (t - n) (omega arith))))
        (lt-or-ge t n)

    pub spliced-once : OnceEach after (n + count)
    spliced-once =
        record {
          place = place;
          below =
              by_part (λ p. get_or after p 0 < n + count)
              (λ p h. rw (spliced-there p h) (omega (arith, o.below p h)))
              (λ k h. rw (new-there k h) (omega arith));
          back =
              by_part (λ p. place (get_or after p 0) ≡ p)
              (λ p h. rw (spliced-there p h) (place-old (get_or tags p 0) (o.below p h) ∙ ap up (o.back p h)))
              (λ k h. rw (new-there k h) (place-new (n + k) (omega arith) ∙ omega arith));
          inside = by_tag (λ _ p. p < n + count) (λ t h. spliced-below (o.place t) (o.inside t h)) (λ k h. omega arith);
          there =
              by_tag (λ t p. get_or after p 0 ≡ t) (λ t h. spliced-there (o.place t) (o.inside t h) ∙ o.there t h) new-there;
        }
