-- The bits of the tags that were met: setting one changes no other, and so the loop over the tags decides whether they stand once each.
use Prim.Native.Nat.{ℕ, suc, ◌+◌, ◌-◌, ◌*◌, ◌/◌, ◌%◌, ◌^◌, ◌<◌, ◌≤◌}
use mathlib.Core.Path.{◌≡◌, ◌∙◌, sym, ap}
use mathlib.Core.Bool.{Bool, true, false, not}
use mathlib.Core.List.{List}
use mathlib.Core.Logic.{⊎_elim}
use native.Mathlib.Nat.{one-mul, div-eq_of_lt}
use native.Mathlib.Numerals.{add-one}
use native.Mathlib.Omega.{arith}
use lib.Bits.{bit_or, or_shr, or_mod, or_zero_l, or_zero_r, shifted_even}
use lib.Dec.{ltb, eqb}
use lib.ListN.{length, get_or, replicate, length-set, length-replicate, get_or-replicate}
use lib.Pow.{shl_exact, shl-shr, pow-add, pow-lt, pow_pos}
use lib.Seq.{get_or-set_same, get_or-set_other}
use borrow.Author.Tests.{lt-ltb, le-ltb, eq-eqb, ne_eqb, not-true, not-false}
use Rattle.laws.specs.Lists.{both, every}
use Rattle.laws.proofs.Lists.{every-none, every_more, every_fails}
use Rattle.laws.proofs.Numbers.{lt-or-ge, eq-or-ne}
use Rattle.line.specs.Seen.{has_seen, with_tag}
use Rattle.line.specs.Test.{is_new, is_once_each}

-- a 1 shifted within a word
pub one_shifted : (k : ℕ) → k < 64 → 1 * 2 ^ k % 2 ^ 64 ≡ 2 ^ k
one_shifted k h = shl_exact {a = 1} 1 k 64 (omega arith) (omega arith) ∙ one-mul (2 ^ k)

-- bit j of a word in which bit k is set
or_bit : (w k j : ℕ) → bit_or w (2 ^ k) / 2 ^ j % 2 ≡ bit_or (w / 2 ^ j % 2) (2 ^ k / 2 ^ j % 2)
or_bit w k j = ap (λ (n : ℕ). n % 2) (or_shr w (2 ^ k) j) ∙ or_mod (w / 2 ^ j) (2 ^ k / 2 ^ j) 1

one_bit : (k : ℕ) → 2 ^ k / 2 ^ k % 2 ≡ 1
one_bit k = ap (λ (n : ℕ). n % 2) (ap (λ (n : ℕ). n / 2 ^ k) (sym (one-mul (2 ^ k))) ∙ shl-shr 1 k)

other_bit : (k j : ℕ) → (j ≡ k → ⊥) → 2 ^ k / 2 ^ j % 2 ≡ 0
other_bit k j ne =
    ⊎_elim
    (λ (h : j < k).
    let m : ℕ = k - suc j in
    let e : k ≡ suc m + j = omega arith in
    ap (λ (n : ℕ). 2 ^ n / 2 ^ j % 2) e
    ∙ ap (λ (n : ℕ). n / 2 ^ j % 2) (pow-add 2 (suc m) j)
    ∙ ap (λ (n : ℕ). n % 2) (shl-shr (2 ^ suc m) j ∙ sym (one-mul (2 ^ suc m)))
    ∙ shifted_even 1 m)
    (λ (h : k ≤ j). ap (λ (n : ℕ). n % 2) (div-eq_of_lt (pow-lt (omega (arith, ne)))))
    (lt-or-ge j k)

set_bit : (w k : ℕ) → bit_or w (2 ^ k) / 2 ^ k % 2 ≡ 1
set_bit w k = or_bit w k k ∙ ap (bit_or (w / 2 ^ k % 2)) (one_bit k) ∙ with_one (w / 2 ^ k % 2) (omega arith)
  where
    with_one : (x : ℕ) → x < 2 → bit_or x 1 ≡ 1
    with_one x h =
        ⊎_elim
        (λ (e : x ≡ 0). ap (λ (n : ℕ). bit_or n 1) e ∙ or_zero_l 1)
        (λ (ne : x ≡ 0 → ⊥). let e : x ≡ 1 = omega (arith, ne) in ap (λ (n : ℕ). bit_or n 1) e)
        (eq-or-ne x 0)

kept_bit : (w k j : ℕ) → (j ≡ k → ⊥) → bit_or w (2 ^ k) / 2 ^ j % 2 ≡ w / 2 ^ j % 2
kept_bit w k j ne = or_bit w k j ∙ ap (bit_or (w / 2 ^ j % 2)) (other_bit k j ne) ∙ or_zero_r (w / 2 ^ j % 2)

module _ (words : List ℕ) (tag : ℕ) where
  pub seen_same : tag / 64 < length words → has_seen (with_tag words tag) tag ≡ true
  unfolding has_seen with_tag
  seen_same h =
      rw (get_or-set_same words (tag / 64) (bit_or (get_or words (tag / 64) 0) (2 ^ (tag % 64))) 0 h)
      (eq-eqb _ _ (set_bit (get_or words (tag / 64) 0) (tag % 64)))

  pub seen_other : tag / 64 < length words → (other : ℕ) → (other ≡ tag → ⊥) → has_seen (with_tag words tag) other ≡ has_seen words other
  unfolding has_seen with_tag
  seen_other h other ne =
      ⊎_elim
      (λ (e : other / 64 ≡ tag / 64).
      rw (e, get_or-set_same words (tag / 64) (bit_or (get_or words (tag / 64) 0) (2 ^ (tag % 64))) 0 h)
      (ap (λ (n : ℕ). eqb n 1)
      (kept_bit (get_or words (tag / 64) 0) (tag % 64) (other % 64) (λ (i : other % 64 ≡ tag % 64). ne (omega arith)))))
      (λ (d : other / 64 ≡ tag / 64 → ⊥).
      rw (get_or-set_other words (tag / 64) (other / 64) (bit_or (get_or words (tag / 64) 0) (2 ^ (tag % 64))) 0 d))
      (eq-or-ne (other / 64) (tag / 64))

pub seen_none : (count tag : ℕ) → tag / 64 < count → has_seen (replicate count 0) tag ≡ false
unfolding has_seen
seen_none count tag h = rw (get_or-replicate {A = ℕ} count (tag / 64) 0 0 h) (zero_bit (tag % 64))
  where
    zero_bit : (k : ℕ) → eqb (0 / 2 ^ k % 2) 1 ≡ false
    zero_bit k = ap (λ (n : ℕ). eqb (n % 2) 1) (div-eq_of_lt (pow_pos k))

-- The loop over the tags: each of the first p is below the used length and stands once, and the bits are theirs.
pub record Marking (words : ℕ) (tags : List ℕ) (used : ℕ) (seen : List ℕ) (p : ℕ) : Type 0 where
  pub within : p ≤ used
  pub long : length seen ≡ words
  pub enough : used ≤ words * 64
  pub so_far : every (λ q. both (ltb (get_or tags q 0) used) (is_new tags q (get_or tags q 0))) p ≡ true
  pub bits : (t : ℕ) → t < used → has_seen seen t ≡ not (is_new tags p t)

pub marking_start : (words : ℕ) (tags : List ℕ) (used : ℕ) (seen : List ℕ) → seen ≡ replicate words 0 → used ≤ words * 64 → Marking words tags used seen 0
unfolding is_new
marking_start words tags used seen clear enough =
    record {
      within = omega arith;
      long = ap length clear ∙ length-replicate {A = ℕ} words 0;
      enough = enough;
      so_far = every-none _;
      bits = λ t h.
          ap (λ (s : List ℕ). has_seen s t) clear
          ∙ seen_none words t (omega arith)
          ∙ ap not (sym (every-none (λ q. not (eqb (get_or tags q 0) t))));
    }

module _ (words : ℕ) (tags : List ℕ) (used : ℕ) (seen : List ℕ) (p : ℕ) (m : Marking words tags used seen p) (more : p < used) {tag : ℕ}
    (is : tag ≡ get_or tags p 0) where
  -- a tag of the line has its word
  pub marking_word : tag < used → tag / 64 < length seen
  marking_word h = omega (arith, m.enough, m.long)

  -- a tag that is too large, or that was met before
  pub marking_large : used ≤ tag → false ≡ is_once_each tags used
  unfolding is_once_each
  marking_large h = sym (every_fails _ used p (rw (← is, le-ltb tag used h)) more)

  pub marking_again : {met : Bool} → tag < used → met ≡ has_seen seen tag → met ≡ true → false ≡ is_once_each tags used
  unfolding is_once_each
  marking_again h e i =
      let old : is_new tags p tag ≡ false = not-true _ (sym (m.bits tag h) ∙ sym e ∙ i) in
      sym (every_fails _ used p (rw (← is, lt-ltb tag used h) old) more)

  pub marking_next : {met : Bool} {after : List ℕ} → tag < used → met ≡ has_seen seen tag → met ≡ false → after ≡ with_tag seen tag
      → Marking words tags used after (p + 1)
  unfolding is_new with_tag every
  marking_next h e i a =
      let new : is_new tags p tag ≡ true = not-false _ (sym (m.bits tag h) ∙ sym e ∙ i) in
      let wide : tag / 64 < length seen = marking_word h in
      rw a
      (record {
        within = omega arith;
        long = length-set seen (tag / 64) _ ∙ m.long;
        enough = m.enough;
        so_far = rw (add-one p) (every_more _ p m.so_far (rw (← is, lt-ltb tag used h) new));
        bits = λ t i.
            rw (add-one p, ← is)
            (⊎_elim
            (λ (j : tag ≡ t). ap (has_seen (with_tag seen tag)) (sym j) ∙ seen_same seen tag wide ∙ rw (eq-eqb tag t j))
            (λ (j : tag ≡ t → ⊥).
            seen_other seen tag wide t (λ (q : t ≡ tag). j (sym q)) ∙ m.bits t i ∙ rw (ne_eqb tag t j))
            (eq-or-ne tag t));
      })

pub marking_done : (words : ℕ) (tags : List ℕ) (used : ℕ) (seen : List ℕ) (p : ℕ) → Marking words tags used seen p → used ≤ p → true ≡ is_once_each tags used
unfolding is_once_each
marking_done words tags used seen p m h =
    let e : p ≡ used = omega (arith, m.within) in
    sym (rw e at m.so_far)
