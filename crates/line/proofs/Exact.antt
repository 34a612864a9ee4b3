-- The LINE test is exact: it passes the valid lines and no others.
use Prim.Native.Nat.{ℕ, zero, suc, ◌<◌, ◌≤◌}
use mathlib.Core.Path.{◌≡◌, refl, ◌∙◌, sym, ap}
use mathlib.Core.Bool.{Bool, true, false, not}
use mathlib.Core.List.{List}
use mathlib.Core.Logic.{⊎_elim}
use native.Mathlib.Nat.{not-suc-le-zero, le_refl}
use native.Mathlib.Omega.{arith}
use lib.Dec.{ltb, leb, eqb}
use lib.ListN.{length, get_or}
use borrow.Author.Tests.{ltb-true, leb-true, eqb-true, eqb-false, lt-ltb, le-leb, eq-eqb, ne_eqb, not-true}
use Rattle.answers.specs.Limits.{room_limit}
use Rattle.laws.specs.Lists.{both, every}
use Rattle.laws.proofs.Choices.{if_eq_yes, if_eq_no}
use Rattle.laws.proofs.Lists.{both_left, both_right, every-at, every-none, every_more}
use Rattle.laws.proofs.Numbers.{lt-or-ge, eq-or-ne}
use Rattle.line.specs.Line.{Line, OnceEach, Legal, Valid}
use Rattle.line.specs.Test.{Decides, is_new, is_once_each, are_housed, is_legal, is_valid}
use Rattle.line.specs.History.{place_of_tag}
use Rattle.line.proofs.Once.{same_place}
use Rattle.line.proofs.Pigeonhole.{pigeonhole}

both_true : {a b : Bool} → a ≡ true → b ≡ true → both a b ≡ true
both_true h k = rw (h, k)

every_true : (f : ℕ → Bool) (n : ℕ) → ((k : ℕ) → k < n → f k ≡ true) → every f n ≡ true
every_true f zero h = every-none f
every_true f (suc n) h = every_more f n (every_true f n (λ k i. h k (omega arith))) (h n (le_refl (suc n)))

decides : {P : Type 0} (b : Bool) → (b ≡ true → P) → (P → b ≡ true) → Decides P b
decides true to from = to refl
decides false to from = λ p. let e : false ≡ true = from p in let z : ◌≡◌ {A = ℕ} 0 1 = cc in omega arith

-- a tag that stands somewhere among the first n is found there
module _ (tags : List ℕ) (tag : ℕ) where
  pub found : (n p : ℕ) → p < n → get_or tags p 0 ≡ tag → (place_of_tag tags n tag < n) × (get_or tags (place_of_tag tags n tag) 0 ≡ tag)
  unfolding place_of_tag
  found zero p h e = absurd (not-suc-le-zero h)
  found (suc n) p h e =
      ⊎_elim
      (λ (i : get_or tags n 0 ≡ tag). rw (if_eq_yes n (place_of_tag tags n tag) i) (le_refl (suc n), i))
      (λ (i : get_or tags n 0 ≡ tag → ⊥).
      let k : p ≡ n → ⊥ = λ (j : p ≡ n). i (ap (λ (q : ℕ). get_or tags q 0) (sym j) ∙ e) in
      let r : (place_of_tag tags n tag < n) × (get_or tags (place_of_tag tags n tag) 0 ≡ tag) = found n p (omega (arith, k)) e in
      rw (if_eq_no n (place_of_tag tags n tag) i) (omega (arith, r.0), r.1))
      (eq-or-ne (get_or tags n 0) tag)

module _ (tags : List ℕ) (n : ℕ) where
  -- what the test says of each place
  is_below : is_once_each tags n ≡ true → (p : ℕ) → p < n → get_or tags p 0 < n
  unfolding is_once_each
  is_below e p h = ltb-true _ _ (both_left _ (is_new tags p (get_or tags p 0)) (every-at _ n p e h))

  is_new_lem : is_once_each tags n ≡ true → (p q : ℕ) → p < n → q < p → get_or tags q 0 ≡ get_or tags p 0 → ⊥
  unfolding is_once_each is_new
  is_new_lem e p q h k =
      eqb-false _ _ (not-true _ (every-at _ p q (both_right (ltb (get_or tags p 0) n) _ (every-at _ n p e h)) k))

  is_apart : is_once_each tags n ≡ true → (p q : ℕ) → p < n → q < n → get_or tags p 0 ≡ get_or tags q 0 → p ≡ q
  is_apart e p q hp hq i =
      ⊎_elim
      (λ (k : p < q). absurd (is_new_lem e q p hq k i))
      (λ (k : q ≤ p).
      ⊎_elim (λ (j : q < p). absurd (is_new_lem e p q hp j (sym i))) (λ (j : p ≤ q). omega arith) (lt-or-ge q p))
      (lt-or-ge p q)

  pub once_of : is_once_each tags n ≡ true → OnceEach tags n
  once_of e =
      record {
        place = place_of_tag tags n;
        below = is_below e;
        back = λ p h.
            let f = found tags (get_or tags p 0) n p h refl in
            is_apart e (place_of_tag tags n (get_or tags p 0)) p f.0 h f.1;
        inside = λ t h. let s = somewhere e t h in (found tags t n s.0 s.1 s.2).0;
        there = λ t h. let s = somewhere e t h in (found tags t n s.0 s.1 s.2).1;
      }
    where
      somewhere : is_once_each tags n ≡ true → (t : ℕ) → t < n → (p : ℕ) × (p < n) × (get_or tags p 0 ≡ t)
      somewhere i = pigeonhole n (λ p. get_or tags p 0) (is_below i) (is_apart i)

  pub of_once : OnceEach tags n → is_once_each tags n ≡ true
  unfolding is_once_each is_new
  of_once o =
      every_true _ n
      (λ p h.
      both_true (lt-ltb _ _ (o.below p h))
      (every_true _ p (λ q k. ap not (ne_eqb _ _ (λ (e : get_or tags q 0 ≡ get_or tags p 0). apart p q h k e)))))
    where
      apart : (p q : ℕ) → p < n → q < p → get_or tags q 0 ≡ get_or tags p 0 → ⊥
      apart p q h k e = let z : q ≡ p = same_place o (omega arith) h e in omega arith

module _ (tags homes : List ℕ) (used : ℕ) where
  pub legal_of : is_legal tags homes used ≡ true → Legal tags homes used
  unfolding is_legal are_housed
  legal_of e =
      let rest = both_right (leb (length homes) used) _ e in
      record {
        once = once_of tags used (both_right (are_housed homes used) _ rest);
        housed = λ c h. ltb-true _ _ (every-at _ (length homes) c (both_left _ (is_once_each tags used) rest) h);
        enough = leb-true _ _ (both_left (leb (length homes) used) _ e);
      }

  pub of_legal : Legal tags homes used → is_legal tags homes used ≡ true
  unfolding is_legal are_housed
  of_legal l =
      both_true (le-leb _ _ l.enough)
      (both_true (every_true _ (length homes) (λ c h. lt-ltb _ _ (l.housed c h))) (of_once tags used l.once))

  pub legal-exact : Decides (Legal tags homes used) (is_legal tags homes used)
  legal-exact = decides (is_legal tags homes used) legal_of of_legal

module _ (l : Line) where
  pub valid_of : is_valid l ≡ true → Valid l
  unfolding is_valid
  valid_of e =
      let a = both_right (eqb (length l.tags) (length l.glyphs)) _ e in
      let b = both_right (leb (length l.glyphs) room_limit) _ a in
      let c = both_right (leb l.used (length l.glyphs)) _ b in
      record {
        paired = eqb-true _ _ (both_left (eqb (length l.tags) (length l.glyphs)) _ e);
        limited = leb-true _ _ (both_left (leb (length l.glyphs) room_limit) _ a);
        within = leb-true _ _ (both_left (leb l.used (length l.glyphs)) _ b);
        legal = legal_of l.tags l.homes l.used c;
      }

  pub of_valid : Valid l → is_valid l ≡ true
  unfolding is_valid
  of_valid v =
      both_true (eq-eqb _ _ v.paired)
      (both_true (le-leb _ _ v.limited)
      (both_true (le-leb _ _ v.within) (of_legal l.tags l.homes l.used v.legal)))

  -- LINE is given exactly when the line is not valid
  pub valid-exact : Decides (Valid l) (is_valid l)
  valid-exact = decides (is_valid l) valid_of of_valid
