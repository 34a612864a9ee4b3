-- Adjustments zeroed and turned round: the loops, and what a turn does to additions.
use Prim.Native.Nat.{ℕ, suc, ◌-◌, ◌<◌, ◌≤◌}
use mathlib.Core.Path.{◌≡◌, refl, sym, ◌∙◌, ap}
use mathlib.Core.List.{List, [], ◌∷◌, append-nil}
use mathlib.Core.Logic.{⊎_elim}
use native.Mathlib.Omega.{arith}
use lib.IntN.{ℤ, pos, ◌+ℤ◌}
use lib.ListN.{length, get_or}
use lib.Seq.{take-length, drop-length, ext_get_or}
use Rattle.laws.specs.Backward.{backward}
use Rattle.laws.proofs.Backward.{length-backward, backward-inside, backward_outside}
use Rattle.laws.proofs.Choices.{if_lt_yes, if_lt_no}
use Rattle.laws.proofs.Lists.{length-tab, get_d_tab}
use Rattle.laws.proofs.Numbers.{lt-or-ge, eq-or-ne}
use Rattle.laws.specs.Lists.{tab}
use Rattle.std.specs.Prelude.{reverse}
use Rattle.std.proofs.Math.ListN.{replicate, length-replicate}
use Rattle.std.proofs.lemmas.List.{get_or-replicate}
use Rattle.kerning.specs.Additions.{Addition, add_at, add_all}
use Rattle.kerning.specs.Bounds.{Within}
use Rattle.kerning.proofs.Adding.{length-add_at, length-add_all, add_at-there, add_at_elsewhere}
use Rattle.kerning_lists.specs.Run.{zeros, mirrored, turned_back}

pub length-zeros : (n : ℕ) → length (zeros n) ≡ n
unfolding zeros
length-zeros n = length-tab (λ p. pos 0) n

-- the same value everywhere
pub tab_same : {A : Type 0} (a : A) (n : ℕ) → tab (λ p. a) n ≡ replicate n a
tab_same a n =
    ext_get_or a (tab (λ p. a) n) (replicate n a) (length-tab (λ p. a) n ∙ sym (length-replicate n a))
    (λ k h. let i : k < n = omega (arith, length-tab (λ p. a) n) in get_d_tab (λ p. a) n k a i ∙ sym (get_or-replicate n k a a i))

pub zeros_same : (n : ℕ) → zeros n ≡ replicate n (pos 0)
unfolding zeros
zeros_same n = tab_same (pos 0) n

zeros-at : (n p : ℕ) → p < n → get_or (zeros n) p (pos 0) ≡ pos 0
unfolding zeros
zeros-at n p h = get_d_tab (λ p. pos 0) n p (pos 0) h

pub zeros_within : (n : ℕ) → Within 0 (zeros n)
zeros_within n = record { each = λ p h. rw (zeros-at n p (rw (← length-zeros n) h)) (omega arith) }

-- a whole list turned round
pub backward_whole : {A : Type 0} (xs : List A) → backward (length xs) xs ≡ reverse xs
unfolding backward
backward_whole xs = rw (take-length, drop-length) (append-nil (reverse xs))

-- twice turned is as it was
pub backward_twice : {A : Type 0} (d : A) (n : ℕ) (xs : List A) → n ≤ length xs → backward n (backward n xs) ≡ xs
backward_twice d n xs fits =
    let once : length (backward n xs) ≡ length xs = length-backward d n xs fits in
    let again : n ≤ length (backward n xs) = omega arith in
    ext_get_or d (backward n (backward n xs)) xs (length-backward d n (backward n xs) again ∙ once)
    (λ k i.
    ⊎_elim
    (λ (j : k < n).
    backward-inside d n (backward n xs) again k j
    ∙ backward-inside d n xs fits (n - suc k) (omega arith)
    ∙ ap (λ (q : ℕ). get_or xs q d) (omega arith))
    (λ (j : n ≤ k). backward_outside d n (backward n xs) again k j ∙ backward_outside d n xs fits k j)
    (lt-or-ge k n))

-- what stands at a place of a list that was turned round stands at the mirrored place of the list
pub get_d_backward : {A : Type 0} (d : A) (n : ℕ) (xs : List A) → n ≤ length xs → (p : ℕ) → get_or (backward n xs) p d ≡ get_or xs (mirrored n p) d
get_d_backward d n xs fits p =
    ⊎_elim
    (λ (h : p < n). backward-inside d n xs fits p h ∙ ap (λ (q : ℕ). get_or xs q d) (sym (if_lt_yes (n - suc p) p h)))
    (λ (h : n ≤ p). backward_outside d n xs fits p h ∙ ap (λ (q : ℕ). get_or xs q d) (sym (if_lt_no (n - suc p) p h)))
    (lt-or-ge p n)

mirrored_twice : (n p : ℕ) → mirrored n (mirrored n p) ≡ p
mirrored_twice n p =
    ⊎_elim
    (λ (h : p < n).
    let k : n - suc p < n = omega arith in
    let e : n - suc (n - suc p) ≡ p = omega arith in
    ap (mirrored n) (if_lt_yes (n - suc p) p h) ∙ if_lt_yes (n - suc (n - suc p)) (n - suc p) k ∙ e)
    (λ (h : n ≤ p). ap (mirrored n) (if_lt_no (n - suc p) p h) ∙ if_lt_no (n - suc p) p h)
    (lt-or-ge p n)

mirrored-inside : (n m p : ℕ) → n ≤ m → p < m → mirrored n p < m
mirrored-inside n m p fits h =
    ⊎_elim
    (λ (k : p < n). rw (if_lt_yes (n - suc p) p k) (omega arith))
    (λ (k : n ≤ p). rw (if_lt_no (n - suc p) p k) h)
    (lt-or-ge p n)

-- the adjustments turned round are as small
pub within-backward : {b : ℕ} (n : ℕ) (along : List ℤ) → n ≤ length along → Within b along → Within b (backward n along)
within-backward n along fits w =
    record {
      each = λ p h.
          rw (get_d_backward (pos 0) n along fits p)
          (w.each (mirrored n p) (mirrored-inside n (length along) p fits (rw (← length-backward (pos 0) n along fits) h)));
    }

-- an addition to the adjustments turned round, turned back
module _ (n : ℕ) (along : List ℤ) (fits : n ≤ length along) (p : ℕ) (z : ℤ) where
  abbrev turned_along : List ℤ
  turned_along = backward n along

  turned-long : length turned_along ≡ length along
  turned-long = length-backward (pos 0) n along fits

  -- what stands at place q when the addition is turned back
  same-there : (q : ℕ) → q < length along
      → get_or (add_at p z turned_along) (mirrored n q) (pos 0) ≡ get_or (add_at (mirrored n p) z along) q (pos 0)
  same-there q h =
      ⊎_elim
      (λ (e : mirrored n q ≡ p).
      let f : q ≡ mirrored n p = sym (mirrored_twice n q) ∙ ap (mirrored n) e in
      let inside : p < length turned_along = rw (← e, turned-long) (mirrored-inside n (length along) q fits h) in
      ap (λ (x : ℕ). get_or (add_at p z turned_along) x (pos 0)) e
      ∙ add_at-there p z turned_along inside
      ∙ ap (λ (x : ℤ). x +ℤ z) (get_d_backward (pos 0) n along fits p)
      ∙ sym (add_at-there (mirrored n p) z along (rw (← f) h))
      ∙ ap (λ (x : ℕ). get_or (add_at (mirrored n p) z along) x (pos 0)) (sym f))
      (λ (ne : mirrored n q ≡ p → ⊥).
      add_at_elsewhere p (mirrored n q) z turned_along ne
      ∙ get_d_backward (pos 0) n along fits (mirrored n q)
      ∙ ap (λ (x : ℕ). get_or along x (pos 0)) (mirrored_twice n q)
      ∙ sym (add_at_elsewhere (mirrored n p) q z along (λ (e : q ≡ mirrored n p). ne (ap (mirrored n) e ∙ mirrored_twice n p))))
      (eq-or-ne (mirrored n q) p)

  pub added-turned : add_at p z turned_along ≡ backward n (add_at (mirrored n p) z along)
  added-turned =
      let other : List ℤ = add_at (mirrored n p) z along in
      let long : length other ≡ length along = length-add_at (mirrored n p) z along in
      let room : n ≤ length other = omega arith in
      ext_get_or (pos 0) (add_at p z turned_along) (backward n other)
      (length-add_at p z turned_along ∙ turned-long ∙ sym long ∙ sym (length-backward (pos 0) n other room))
      (λ q h.
      let inside : mirrored n q < length along = mirrored-inside n (length along) q fits (omega (arith, length-add_at p z turned_along, turned-long)) in
      ap (λ (x : ℕ). get_or (add_at p z turned_along) x (pos 0)) (sym (mirrored_twice n q))
      ∙ same-there (mirrored n q) inside
      ∙ sym (get_d_backward (pos 0) n other room q))

-- all of some additions
pub all-turned : (xs : List Addition) (n : ℕ) (along : List ℤ) → n ≤ length along
    → add_all xs (backward n along) ≡ backward n (add_all (turned_back n xs) along)
unfolding add_all turned_back
all-turned [] n along fits = refl
all-turned (a ∷ more) n along fits =
    let next : List ℤ = add_at (mirrored n a.place) a.number along in
    ap (add_all more) (added-turned n along fits a.place a.number)
    ∙ all-turned more n next (omega (arith, length-add_at (mirrored n a.place) a.number along))

-- so a pass over the adjustments turned round, and turned back, leaves its additions turned back
pub turned_and_back : (xs : List Addition) (n : ℕ) (along : List ℤ) → n ≤ length along
    → backward n (add_all xs (backward n along)) ≡ add_all (turned_back n xs) along
turned_and_back xs n along fits =
    ap (backward n) (all-turned xs n along fits)
    ∙ backward_twice (pos 0) n (add_all (turned_back n xs) along) (omega (arith, length-add_all (turned_back n xs) along))
