-- Laws of the parts of a slice: each lies behind those before it, one put in leaves the others, and laid together they are the slice.
use Prim.Native.Nat.{ℕ, zero, suc, ◌+◌, ◌-◌, ◌<◌, ◌≤◌}
use mathlib.Core.Path.{◌≡◌, refl, ◌∙◌, sym, ap, subst}
use mathlib.Core.List.{List, [], ◌∷◌, ◌++◌, append_assoc}
use mathlib.Core.Logic.{⊎_elim}
use native.Mathlib.Nat.{not-suc-le-zero, le_refl}
use native.Mathlib.Numerals.{add-one}
use native.Mathlib.Omega.{arith}
use lib.ListN.{length, get_or, take, drop, length-append, length-drop, take-append-drop}
use lib.Seq.{length-take-le, take_all, take_at, drop_at, take-append-le, drop-append-le, drop-append-add, drop-drop, take-add, ext_get_or}
use Rattle.laws.specs.Lists.{tab}
use Rattle.laws.proofs.Lists.{length-tab, get_d_tab}
use Rattle.laws.proofs.Numbers.{eq-or-ne, lt-or-ge}
use Rattle.reel.specs.Parts.{place_of, total, part_of, with_part, laid}

-- a part ends where the next begins, or before any later one
pub place-behind : (sizes : List ℕ) (i k : ℕ) → i < k → place_of sizes i + get_or sizes i 0 ≤ place_of sizes k
unfolding place_of
place-behind sizes i zero h = absurd (not-suc-le-zero h)
place-behind sizes i (suc k) h =
    ⊎_elim
    (λ (e : i ≡ k). subst (λ (j : ℕ). place_of sizes i + get_or sizes i 0 ≤ place_of sizes j + get_or sizes j 0) e (le_refl _))
    (λ (ne : i ≡ k → ⊥). omega (arith, place-behind sizes i k (omega (arith, ne))))
    (eq-or-ne i k)

-- where the next one begins
pub place_next : (sizes : List ℕ) (k : ℕ) → place_of sizes k + get_or sizes k 0 ≡ place_of sizes (k + 1)
unfolding place_of
place_next sizes k = sym (ap (place_of sizes) (add-one k))

pub place_first : (sizes : List ℕ) → place_of sizes 0 ≡ 0
unfolding place_of
place_first sizes = refl

-- each ends within all of them
pub part_inside : (sizes : List ℕ) (k : ℕ) → k < length sizes → place_of sizes k + get_or sizes k 0 ≤ total sizes
unfolding total
part_inside sizes k h = place-behind sizes k (length sizes) h

module _ (sizes : List ℕ) (k : ℕ) (xs : List ℕ) (fits : place_of sizes k + get_or sizes k 0 ≤ length xs) where
  before : length (take (place_of sizes k) xs) ≡ place_of sizes k
  before = length-take-le (place_of sizes k) xs (omega (arith, fits))

  pub length_part : length (part_of sizes k xs) ≡ get_or sizes k 0
  unfolding part_of
  length_part = length-take-le (get_or sizes k 0) (drop (place_of sizes k) xs) (omega (arith, fits, length-drop (place_of sizes k) xs))

  module _ (part : List ℕ) (long : length part ≡ get_or sizes k 0) where
    pub length_with : length (with_part sizes k xs part) ≡ length xs
    unfolding with_part
    length_with =
        omega (
          arith,
          fits,
          before,
          long,
          length-append (take (place_of sizes k) xs) (part ++ drop (get_or sizes k 0) (drop (place_of sizes k) xs)),
          length-append part (drop (get_or sizes k 0) (drop (place_of sizes k) xs)),
          length-drop (get_or sizes k 0) (drop (place_of sizes k) xs),
          length-drop (place_of sizes k) xs,
        )

    -- the part that was put in is there
    pub part_same : part_of sizes k (with_part sizes k xs part) ≡ part
    unfolding part_of with_part
    part_same =
        ap (take (get_or sizes k 0)) (drop_at (take (place_of sizes k) xs) (part ++ drop (get_or sizes k 0) (drop (place_of sizes k) xs)) (place_of sizes k) before)
        ∙ take_at part (drop (get_or sizes k 0) (drop (place_of sizes k) xs)) (get_or sizes k 0) long

    -- what lies before it is as it was
    before_same : (at size : ℕ) → at + size ≤ place_of sizes k → take size (drop at (with_part sizes k xs part)) ≡ take size (drop at xs)
    unfolding with_part
    before_same at size h =
        inside (part ++ drop (get_or sizes k 0) (drop (place_of sizes k) xs))
        ∙ sym (inside (drop (place_of sizes k) xs))
        ∙ ap (λ (z : List ℕ). take size (drop at z)) (take-append-drop (place_of sizes k) xs)
      where
        inside : (behind : List ℕ) → take size (drop at (take (place_of sizes k) xs ++ behind)) ≡ take size (drop at (take (place_of sizes k) xs))
        inside behind =
            ap (take size) (drop-append-le at (take (place_of sizes k) xs) behind (omega (arith, h, before)))
            ∙ take-append-le size (drop at (take (place_of sizes k) xs)) behind (omega (arith, h, before, length-drop at (take (place_of sizes k) xs)))

    -- and so is what lies behind it
    behind-same : (at : ℕ) → place_of sizes k + get_or sizes k 0 ≤ at → drop at (with_part sizes k xs part) ≡ drop at xs
    unfolding with_part
    behind-same at h =
        ap (drop at) (sym (append_assoc (take (place_of sizes k) xs) part (drop (get_or sizes k 0) (drop (place_of sizes k) xs))))
        ∙ ap (λ (n : ℕ). drop n (take (place_of sizes k) xs ++ part ++ drop (get_or sizes k 0) (drop (place_of sizes k) xs))) reached
        ∙ drop-append-add (take (place_of sizes k) xs ++ part) (drop (get_or sizes k 0) (drop (place_of sizes k) xs)) (at - (place_of sizes k + get_or sizes k 0))
        ∙ drop-drop (at - (place_of sizes k + get_or sizes k 0)) (get_or sizes k 0) (drop (place_of sizes k) xs)
        ∙ drop-drop (get_or sizes k 0 + (at - (place_of sizes k + get_or sizes k 0))) (place_of sizes k) xs
        ∙ ap (λ (n : ℕ). drop n xs) again
      where
        reached : at ≡ length (take (place_of sizes k) xs ++ part) + (at - (place_of sizes k + get_or sizes k 0))
        reached = omega (arith, h, long, before, length-append (take (place_of sizes k) xs) part)

        again : place_of sizes k + (get_or sizes k 0 + (at - (place_of sizes k + get_or sizes k 0))) ≡ at
        again = omega (arith, h)

    -- so every other part is
    pub part_other : (j : ℕ) → (j ≡ k → ⊥) → part_of sizes j (with_part sizes k xs part) ≡ part_of sizes j xs
    unfolding part_of
    part_other j ne =
        ⊎_elim
        (λ (h : j < k). before_same (place_of sizes j) (get_or sizes j 0) (place-behind sizes j k h))
        (λ (h : k ≤ j). ap (take (get_or sizes j 0)) (behind-same (place_of sizes j) (place-behind sizes k j (omega (arith, h, ne)))))
        (lt-or-ge j k)

-- parts laid one behind the other
pub laid-parts : (sizes xs : List ℕ) (n : ℕ) → laid (λ k. part_of sizes k xs) n ≡ take (place_of sizes n) xs
unfolding laid place_of part_of
laid-parts sizes xs zero = refl
laid-parts sizes xs (suc n) =
    ap (λ (z : List ℕ). z ++ take (get_or sizes n 0) (drop (place_of sizes n) xs)) (laid-parts sizes xs n)
    ∙ sym (take-add (place_of sizes n) (get_or sizes n 0) xs)

-- are the slice
pub laid-whole : (sizes xs : List ℕ) → total sizes ≡ length xs → laid (λ k. part_of sizes k xs) (length sizes) ≡ xs
unfolding total
laid-whole sizes xs e = laid-parts sizes xs (length sizes) ∙ take_all (place_of sizes (length sizes)) xs (omega (arith, e))

-- and equal ones are laid equally
pub laid_alike : (f g : ℕ → List ℕ) (n : ℕ) → ((k : ℕ) → k < n → f k ≡ g k) → laid f n ≡ laid g n
unfolding laid
laid_alike f g zero same = refl
laid_alike f g (suc n) same =
    ap (λ (z : List ℕ). z ++ f n) (laid_alike f g n (λ k h. same k (omega (arith, h)))) ∙ ap (λ (z : List ℕ). laid g n ++ z) (same n (omega arith))

-- numbers, one for each
pub tab-whole : (xs : List ℕ) (n : ℕ) → length xs ≡ n → tab (λ k. get_or xs k 0) n ≡ xs
tab-whole xs n e =
    ext_get_or 0 (tab (λ k. get_or xs k 0) n) xs (length-tab (λ k. get_or xs k 0) n ∙ sym e)
    (λ i h. get_d_tab (λ k. get_or xs k 0) n i 0 (rw (length-tab (λ k. get_or xs k 0) n) at h))

pub tab_alike : (f g : ℕ → ℕ) (n : ℕ) → ((k : ℕ) → k < n → f k ≡ g k) → tab f n ≡ tab g n
unfolding tab
tab_alike f g zero same = refl
tab_alike f g (suc n) same =
    ap (λ (z : List ℕ). z ++ (f n ∷ [])) (tab_alike f g n (λ k h. same k (omega (arith, h)))) ∙ ap (λ (x : ℕ). tab g n ++ (x ∷ [])) (same n (omega arith))
