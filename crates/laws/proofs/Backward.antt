-- Laws of `backward`: what stands where.
use Prim.Native.Nat.{ℕ, suc, ◌-◌, ◌<◌, ◌≤◌}
use mathlib.Core.Path.{◌≡◌, refl, ◌∙◌, sym, ap}
use mathlib.Core.List.{List, [], ◌∷◌, reverse, reverse-cons}
use mathlib.Core.Logic.{⊎_elim}
use native.Mathlib.Nat.{not-suc-le-zero}
use native.Mathlib.Omega.{arith}
use lib.ListN.{length, get_or, take, drop, length-append, length-drop, length-reverse}
use lib.Seq.{get_or_at, get_or-take, get_or-drop, length-take-le}
use Rattle.laws.specs.Backward.{backward}
use Rattle.laws.proofs.Lists.{get_d_first, get_d_behind}
use Rattle.laws.proofs.Numbers.{lt-or-ge}

module _ {A : Type 0} (d : A) where
  pub get_d_reverse : (xs : List A) (i : ℕ) → i < length xs → get_or (reverse xs) i d ≡ get_or xs (length xs - suc i) d
  get_d_reverse [] i h = absurd (not-suc-le-zero h)
  get_d_reverse (x ∷ xs) i h =
      rw (reverse-cons x xs)
      (⊎_elim
      (λ (k : i < length xs).
      let e : suc (length xs) - suc i ≡ suc (length xs - suc i) = omega arith in
      get_d_first (reverse xs) (x ∷ []) d i (rw (length-reverse xs) k) ∙ get_d_reverse xs i k ∙ ap (λ (n : ℕ). get_or (x ∷ xs) n d) (sym e))
      (λ (k : length xs ≤ i).
      let e : i ≡ length xs = omega arith in
      let z : suc (length xs) - suc i ≡ 0 = omega arith in
      get_or_at (reverse xs) x [] d i (length-reverse xs ∙ sym e) ∙ ap (λ (n : ℕ). get_or (x ∷ xs) n d) (sym z))
      (lt-or-ge i (length xs)))

  module _ (n : ℕ) (xs : List A) (fits : n ≤ length xs) where
    front : length (reverse (take n xs)) ≡ n
    front = length-reverse (take n xs) ∙ length-take-le n xs fits

    pub length-backward : length (backward n xs) ≡ length xs
    unfolding backward
    length-backward = length-append (reverse (take n xs)) (drop n xs) ∙ rw (front, length-drop n xs) (omega arith)

    pub backward-inside : (i : ℕ) → i < n → get_or (backward n xs) i d ≡ get_or xs (n - suc i) d
    unfolding backward
    backward-inside i h =
        get_d_first (reverse (take n xs)) (drop n xs) d i (rw front h)
        ∙ get_d_reverse (take n xs) i (rw (length-take-le n xs fits) h)
        ∙ rw (length-take-le n xs fits) (get_or-take n xs (n - suc i) d (omega arith))

    pub backward_outside : (i : ℕ) → n ≤ i → get_or (backward n xs) i d ≡ get_or xs i d
    unfolding backward
    backward_outside i h =
        get_d_behind (reverse (take n xs)) (drop n xs) d i (rw front h)
        ∙ rw front (get_or-drop n xs (i - n) d ∙ ap (λ (k : ℕ). get_or xs k d) (omega arith))

-- none of them to turn
pub backward_none : {A : Type 0} (n : ℕ) (xs : List A) → n ≡ 0 → xs ≡ backward n xs
unfolding backward
backward_none n xs e = rw e refl
