-- Laws of `tab`, `both` and `every`.
use Prim.Native.Nat.{ℕ, zero, suc, ◌-◌, ◌<◌, ◌≤◌}
use mathlib.Core.Path.{◌≡◌, refl, ◌∙◌, sym, subst}
use mathlib.Core.Bool.{Bool, true, false}
use mathlib.Core.List.{List, [], ◌∷◌, ◌++◌}
use mathlib.Core.Logic.{⊎_elim}
use native.Mathlib.Numerals.{add-one}
use native.Mathlib.Nat.{not-suc-le-zero}
use native.Mathlib.Omega.{arith}
use lib.ListN.{length, get_or, length-append, get_or-append}
use lib.Seq.{get_or_at, get_or-append-add}
use Rattle.laws.specs.Lists.{tab, both, every}
use Rattle.laws.proofs.Numbers.{eq-or-ne}

module _ {A : Type 0} (f : ℕ → A) where
  pub length-tab : (n : ℕ) → length (tab f n) ≡ n
  unfolding tab
  length-tab zero = refl
  length-tab (suc n) = length-append (tab f n) (f n ∷ []) ∙ rw (length-tab n) (add-one n)

  pub get_d_tab : (n i : ℕ) (d : A) → i < n → get_or (tab f n) i d ≡ f i
  unfolding tab
  get_d_tab zero i d h = absurd (not-suc-le-zero h)
  get_d_tab (suc n) i d h =
      ⊎_elim
      (λ (e : i ≡ n). subst (λ (k : ℕ). get_or (tab f n ++ (f n ∷ [])) k d ≡ f k) (sym e) (get_or_at (tab f n) (f n) [] d n (length-tab n)))
      (λ (ne : i ≡ n → ⊥).
      let below : i < n = omega (arith, ne) in
      get_or-append (tab f n) (f n ∷ []) d i (rw (length-tab n) below) ∙ get_d_tab n i d below)
      (eq-or-ne i n)

pub both_left : (a b : Bool) → both a b ≡ true → a ≡ true
both_left true b e = refl
both_left false b e = e

pub both_right : (a b : Bool) → both a b ≡ true → b ≡ true
both_right true b e = e
both_right false b e = absurd (no e)
  where
    no : false ≡ true → ⊥
    no p = let z : ◌≡◌ {A = ℕ} 0 1 = cc in omega arith

-- the test holds at each number below n
pub every-at : (f : ℕ → Bool) (n k : ℕ) → every f n ≡ true → k < n → f k ≡ true
unfolding every
every-at f zero k e h = absurd (not-suc-le-zero h)
every-at f (suc n) k e h =
    ⊎_elim
    (λ (p : k ≡ n). subst (λ (i : ℕ). f i ≡ true) (sym p) (both_left (f n) (every f n) e))
    (λ (ne : k ≡ n → ⊥). every-at f n k (both_right (f n) (every f n) e) (omega (arith, ne)))
    (eq-or-ne k n)

-- it holds for none
pub every-none : (f : ℕ → Bool) → every f 0 ≡ true
unfolding every
every-none f = refl

-- it holds for one more
pub every_more : (f : ℕ → Bool) (n : ℕ) → every f n ≡ true → f n ≡ true → every f (suc n) ≡ true
unfolding every
every_more f n e h = rw (h, e)

-- one number at which it fails is enough
pub every_fails : (f : ℕ → Bool) (n k : ℕ) → f k ≡ false → k < n → every f n ≡ false
every_fails f n k e h = go (every f n) refl
  where
    go : (t : Bool) → every f n ≡ t → t ≡ false
    go false p = refl
    go true p = sym (every-at f n k p h) ∙ e

-- Joined lists, read at an index: in the first of them, or behind it.
module _ {A : Type 0} (xs ys : List A) (d : A) (i : ℕ) where
  pub get_d_first : i < length xs → get_or (xs ++ ys) i d ≡ get_or xs i d
  get_d_first h = get_or-append xs ys d i h

  pub get_d_behind : length xs ≤ i → get_or (xs ++ ys) i d ≡ get_or ys (i - length xs) d
  get_d_behind h =
      subst (λ (k : ℕ). get_or (xs ++ ys) k d ≡ get_or ys (i - length xs) d) (omega arith)
      (get_or-append-add xs ys (i - length xs) d)
