-- As many different numbers below n as there are numbers below n are all of them.
use Prim.Native.Nat.{ℕ, zero, suc, ◌<◌}
use mathlib.Core.Path.{◌≡◌, ◌∙◌, sym}
use mathlib.Core.Logic.{⊎_elim}
use native.Mathlib.Nat.{not-suc-le-zero, le_refl}
use native.Mathlib.Omega.{arith}
use Rattle.laws.specs.Choose.{if_eq}
use Rattle.laws.proofs.Choices.{if_eq_yes, if_eq_no}
use Rattle.laws.proofs.Numbers.{eq-or-ne}

module _ (f : ℕ → ℕ) (n : ℕ) (below : (p : ℕ) → p < suc n → f p < suc n)
    (apart : (p q : ℕ) → p < suc n → q < suc n → f p ≡ f q → p ≡ q) where
  -- the same without the last: whoever has the number n takes the last one's
  abbrev swapped : ℕ → ℕ
  swapped p = if_eq (f p) n (f n) (f p)

  last-below : (p : ℕ) → p < n → f p ≡ n → f n < n
  last-below p h e =
      let k : f n ≡ n → ⊥ = λ (i : f n ≡ n). let z : p ≡ n = apart p n (omega arith) (omega arith) (e ∙ sym i) in omega arith in
      omega (arith, below n (le_refl (suc n)), k)

  swapped_below : (p : ℕ) → p < n → swapped p < n
  swapped_below p h =
      ⊎_elim
      (λ (e : f p ≡ n). rw (if_eq_yes (f n) (f p) e) (last-below p h e))
      (λ (e : f p ≡ n → ⊥). rw (if_eq_no (f n) (f p) e) (omega (arith, below p (omega arith), e)))
      (eq-or-ne (f p) n)

  swapped_apart : (p q : ℕ) → p < n → q < n → swapped p ≡ swapped q → p ≡ q
  swapped_apart p q hp hq =
      ⊎_elim
      (λ (i : f p ≡ n).
      rw (if_eq_yes (f n) (f p) i)
      (⊎_elim
      (λ (j : f q ≡ n). λ _. apart p q (omega arith) (omega arith) (i ∙ sym j))
      (λ (j : f q ≡ n → ⊥). rw (if_eq_no (f n) (f q) j) (λ e. absurd (last_else q hq (sym e))))
      (eq-or-ne (f q) n)))
      (λ (i : f p ≡ n → ⊥).
      rw (if_eq_no (f n) (f p) i)
      (⊎_elim
      (λ (j : f q ≡ n). rw (if_eq_yes (f n) (f q) j) (λ e. absurd (last_else p hp e)))
      (λ (j : f q ≡ n → ⊥). rw (if_eq_no (f n) (f q) j) (λ e. apart p q (omega arith) (omega arith) e))
      (eq-or-ne (f q) n)))
      (eq-or-ne (f p) n)
    where
      last_else : (r : ℕ) → r < n → f r ≡ f n → ⊥
      last_else r h e = let z : r ≡ n = apart r n (omega arith) (omega arith) e in omega arith

  -- what the rest has, with the last, is all
  with_last : ((t : ℕ) → t < n → (p : ℕ) × (p < n) × (swapped p ≡ t)) → (t : ℕ) → t < suc n → (p : ℕ) × (p < suc n) × (f p ≡ t)
  with_last rest t h =
      ⊎_elim
      (λ (e : f n ≡ t). (n, le_refl (suc n), e))
      (λ (e : f n ≡ t → ⊥).
      ⊎_elim
      (λ (i : t ≡ n). from_last (rest (f n) (omega (arith, below n (le_refl (suc n)), e))) i e)
      (λ (i : t ≡ n → ⊥). from_rest (rest t (omega (arith, i))) e)
      (eq-or-ne t n))
      (eq-or-ne (f n) t)
    where
      from_last : (p : ℕ) × (p < n) × (swapped p ≡ f n) → t ≡ n → (f n ≡ t → ⊥) → (p : ℕ) × (p < suc n) × (f p ≡ t)
      from_last s i e =
          ⊎_elim
          (λ (k : f s.0 ≡ n). (s.0, omega (arith, s.1), k ∙ sym i))
          (λ (k : f s.0 ≡ n → ⊥).
          let z : s.0 ≡ n = apart s.0 n (omega (arith, s.1)) (omega arith) (sym (if_eq_no (f n) (f s.0) k) ∙ s.2) in
          absurd (omega (arith, s.1)))
          (eq-or-ne (f s.0) n)

      from_rest : (p : ℕ) × (p < n) × (swapped p ≡ t) → (f n ≡ t → ⊥) → (p : ℕ) × (p < suc n) × (f p ≡ t)
      from_rest s e =
          ⊎_elim
          (λ (k : f s.0 ≡ n). absurd (e (sym (if_eq_yes (f n) (f s.0) k) ∙ s.2)))
          (λ (k : f s.0 ≡ n → ⊥). (s.0, omega (arith, s.1), sym (if_eq_no (f n) (f s.0) k) ∙ s.2))
          (eq-or-ne (f s.0) n)

pub pigeonhole : (n : ℕ) (f : ℕ → ℕ) → ((p : ℕ) → p < n → f p < n) → ((p q : ℕ) → p < n → q < n → f p ≡ f q → p ≡ q) → (t : ℕ)
    → t < n → (p : ℕ) × (p < n) × (f p ≡ t)
pigeonhole zero f below apart t h = absurd (not-suc-le-zero h)
pigeonhole (suc n) f below apart t h =
    with_last f n below apart (pigeonhole n (swapped f n below apart) (swapped_below f n below apart) (swapped_apart f n below apart)) t h
