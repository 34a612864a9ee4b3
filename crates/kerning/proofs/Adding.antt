-- Laws of additions: what they leave, and how large it gets.
use Prim.Native.Nat.{ℕ, ◌+◌, ◌*◌, ◌<◌, ◌≤◌}
use mathlib.Core.Path.{◌≡◌, refl, sym, ◌∙◌, ap, subst, subst⁻¹}
use mathlib.Core.Bool.{Bool, true, false, cond}
use mathlib.Core.Logic.{⊎_elim}
use mathlib.Core.List.{List, [], ◌∷◌, ◌++◌}
use native.Mathlib.Omega.{arith}
use lib.Dec.{ltb}
use lib.IntN.{ℤ, pos, nat_abs, ◌+ℤ◌, +ℤ_idr, +ℤ_assoc}
use lib.ListN.{length, get_or, length-set}
use lib.Seq.{get_or-set_same, get_or-set_other}
use borrow.Author.Tests.{lt-ltb, le-ltb, eq-eqb, ne_eqb}
use Rattle.laws.specs.Choose.{if_eq}
use Rattle.laws.proofs.Numbers.{eq-or-ne}
use Rattle.kerning.specs.Additions.{Addition, add_at, add_all, additions_at}
use Rattle.kerning.specs.Bounds.{Within}
use Rattle.kerning.proofs.Signs.{size-sum}

pub length-add_at : (p : ℕ) (z : ℤ) (along : List ℤ) → length (add_at p z along) ≡ length along
unfolding add_at
length-add_at p z along = length-set along p _

pub length-add_all : (xs : List Addition) (along : List ℤ) → length (add_all xs along) ≡ length along
unfolding add_all
length-add_all [] along = refl
length-add_all (a ∷ xs) along = length-add_all xs _ ∙ length-add_at a.place a.number along

pub add_all-none : (along : List ℤ) → add_all [] along ≡ along
unfolding add_all
add_all-none along = refl

pub add_all-one : (p : ℕ) (z : ℤ) (along : List ℤ) → add_all (record { place = p; number = z } ∷ []) along ≡ add_at p z along
unfolding add_all
add_all-one p z along = refl

pub add_all-append : (xs ys : List Addition) (along : List ℤ) → add_all (xs ++ ys) along ≡ add_all ys (add_all xs along)
unfolding add_all
add_all-append [] ys along = refl
add_all-append (a ∷ xs) ys along = add_all-append xs ys (add_at a.place a.number along)

-- what the additions at a place add to it in sum
pub added_at : List Addition → ℕ → ℤ
added_at [] p = pos 0
added_at (a ∷ later) p = if_eq a.place p a.number (pos 0) +ℤ added_at later p

-- what stands at a place afterwards: what stood there, and the sum of what is added there
pub add_at-there : (p : ℕ) (z : ℤ) (along : List ℤ) → p < length along → get_or (add_at p z along) p (pos 0) ≡ get_or along p (pos 0) +ℤ z
unfolding add_at
add_at-there p z along h = get_or-set_same along p _ (pos 0) h

pub add_at_elsewhere : (p q : ℕ) (z : ℤ) (along : List ℤ) → (q ≡ p → ⊥) → get_or (add_at p z along) q (pos 0) ≡ get_or along q (pos 0)
unfolding add_at
add_at_elsewhere p q z along h = get_or-set_other along p q _ (pos 0) h

one-added : (a : Addition) (along : List ℤ) (q : ℕ) → q < length along
    → get_or (add_at a.place a.number along) q (pos 0) ≡ get_or along q (pos 0) +ℤ added_at (a ∷ []) q
unfolding added_at
one-added a along q h =
    ⊎_elim
    (λ (e : a.place ≡ q).
    subst (λ (p : ℕ). get_or (add_at p a.number along) q (pos 0) ≡ get_or along q (pos 0) +ℤ a.number) (sym e) (add_at-there q a.number along h)
    ∙ ap (λ (z : ℤ). get_or along q (pos 0) +ℤ z) (sym (rw (eq-eqb a.place q e) (+ℤ_idr a.number))))
    (λ (e : a.place ≡ q → ⊥).
    add_at_elsewhere a.place q a.number along (λ (f : q ≡ a.place). e (sym f))
    ∙ sym (rw (ne_eqb a.place q e) (+ℤ_idr (get_or along q (pos 0)))))
    (eq-or-ne a.place q)

added-first : (a : Addition) (xs : List Addition) (q : ℕ) → added_at (a ∷ xs) q ≡ added_at (a ∷ []) q +ℤ added_at xs q
unfolding added_at
added-first a xs q = ap (λ (z : ℤ). z +ℤ added_at xs q) (sym (+ℤ_idr (if_eq a.place q a.number (pos 0))))

added_none : (along : List ℤ) (q : ℕ) → get_or along q (pos 0) ≡ get_or along q (pos 0) +ℤ added_at [] q
unfolding added_at
added_none along q = sym (+ℤ_idr _)

pub added : (xs : List Addition) (along : List ℤ) (q : ℕ) → q < length along
    → get_or (add_all xs along) q (pos 0) ≡ get_or along q (pos 0) +ℤ added_at xs q
unfolding add_all
added [] along q h = added_none along q
added (a ∷ xs) along q h =
    added xs (add_at a.place a.number along) q (rw (length-add_at a.place a.number along) h)
    ∙ ap (λ (z : ℤ). z +ℤ added_at xs q) (one-added a along q h)
    ∙ +ℤ_assoc (get_or along q (pos 0)) (added_at (a ∷ []) q) (added_at xs q)
    ∙ ap (λ (z : ℤ). get_or along q (pos 0) +ℤ z) (sym (added-first a xs q))

-- every number is at most 32,768 in size
pub data Small : List Addition → Type 0 where
  small-none : Small []
  small-first : {a : Addition} {xs : List Addition} → nat_abs a.number ≤ 32768 → Small xs → Small (a ∷ xs)

pub small_one : {p : ℕ} {z : ℤ} → nat_abs z ≤ 32768 → Small (record { place = p; number = z } ∷ [])
small_one h = small-first h small-none

pub small-append : {xs ys : List Addition} → Small xs → Small ys → Small (xs ++ ys)
small-append small-none q = q
small-append (small-first h p) q = small-first h (small-append p q)

pub within_more : {b b' : ℕ} {along : List ℤ} → b ≤ b' → Within b along → Within b' along
within_more h w = record { each = λ p k. omega (arith, w.each p k) }

module _ {b : ℕ} (p : ℕ) (z : ℤ) (along : List ℤ) (w : Within b along) (s : nat_abs z ≤ 32768) where
  more-there : (q : ℕ) → q < length (add_at p z along) → nat_abs (get_or (add_at p z along) q (pos 0)) ≤ b + 32768
  more-there q h =
      ⊎_elim
      (λ (e : q ≡ p).
      let k : p < length along = omega (arith, length-add_at p z along, e) in
      subst⁻¹ (λ (i : ℕ). nat_abs (get_or (add_at p z along) i (pos 0)) ≤ b + 32768) e
      (rw (add_at-there p z along k) (omega (arith, size-sum (get_or along p (pos 0)) z, w.each p k))))
      (λ (e : q ≡ p → ⊥). rw (add_at_elsewhere p q z along e) (omega (arith, w.each q (omega (arith, length-add_at p z along)))))
      (eq-or-ne q p)

  pub within-add_at : Within (b + 32768) (add_at p z along)
  within-add_at = record { each = more-there }

pub within-add_all : {b : ℕ} {xs : List Addition} (along : List ℤ) → Small xs → Within b along → Within (b + length xs * 32768) (add_all xs along)
unfolding add_all
within-add_all {b} along small-none w = within_more (omega arith) w
within-add_all {b} along (small-first {a} {xs} h s) w =
    within_more (omega arith) (within-add_all {b = b + 32768} (add_at a.place a.number along) s (within-add_at a.place a.number along w h))

-- a number for a place of the line
module _ (used place : ℕ) (z : ℤ) where
  pub additions_in : place < used → additions_at used place z ≡ record { place = place; number = z } ∷ []
  unfolding additions_at
  additions_in h = rw (lt-ltb place used h)

  pub additions_out : used ≤ place → additions_at used place z ≡ []
  unfolding additions_at
  additions_out h = rw (le-ltb place used h)

  pub small-additions : nat_abs z ≤ 32768 → Small (additions_at used place z)
  unfolding additions_at
  small-additions h = go (ltb place used)
    where
      go : (t : Bool) → Small (cond t (record { place = place; number = z } ∷ []) [])
      go true = small_one h
      go false = small-none

  pub few-additions : length (additions_at used place z) ≤ 1
  unfolding additions_at
  few-additions = go (ltb place used)
    where
      go : (t : Bool) → length (cond {A = List Addition} t (record { place = place; number = z } ∷ []) []) ≤ 1
      go true = omega arith
      go false = omega arith
