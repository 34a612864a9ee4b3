-- What is written by a run: zeroed, turned with the line, and written subtable after subtable.
use Prim.Native.Nat.{ℕ, suc, ◌-◌, ◌<◌, ◌≤◌}
use mathlib.Core.Path.{◌≡◌, refl, sym, ◌∙◌, ap}
use mathlib.Core.List.{List, [], ◌∷◌}
use mathlib.Core.Logic.{⊎_elim}
use native.Mathlib.Omega.{arith}
use lib.ListN.{length, get_or, set, length-set}
use lib.Seq.{get_or-set_same, get_or-set_other, ext_get_or}
use Rattle.laws.specs.Backward.{backward}
use Rattle.laws.proofs.Backward.{length-backward}
use Rattle.laws.proofs.Choices.{if_lt_yes, if_lt_no}
use Rattle.laws.proofs.Numbers.{lt-or-ge, eq-or-ne}
use Rattle.kerning_lists.specs.Run.{mirrored}
use Rattle.std.proofs.Math.ListN.{replicate}
use Rattle.kerning_lists.proofs.Turns.{backward_twice, get_d_backward, tab_same}
use Rattle.anchor_machine.specs.Writes.{Write, write_all}
use Rattle.kerx.specs.Anchored.{turned_marks, nones}

pub nones_same : (n : ℕ) → nones n ≡ replicate n 0
unfolding nones
nones_same n = tab_same 0 n

mirrored_twice : (n p : ℕ) → mirrored n (mirrored n p) ≡ p
mirrored_twice n p =
    ⊎_elim
    (λ (h : p < n).
    let k : n - suc p < n = omega arith in
    let e : n - suc (n - suc p) ≡ p = omega arith in
    ap (mirrored n) (if_lt_yes (n - suc p) p h) ∙ if_lt_yes (n - suc (n - suc p)) (n - suc p) k ∙ e)
    (λ (h : n ≤ p). ap (mirrored n) (if_lt_no (n - suc p) p h) ∙ if_lt_no (n - suc p) p h)
    (lt-or-ge p n)

mirrored-inside : (n m p : ℕ) → n ≤ m → p < m → mirrored n p < m
mirrored-inside n m p fits h =
    ⊎_elim
    (λ (k : p < n). rw (if_lt_yes (n - suc p) p k) (omega arith))
    (λ (k : n ≤ p). rw (if_lt_no (n - suc p) p k) h)
    (lt-or-ge p n)

-- a write to a slice turned round
module _ {A : Type 0} (d : A) (n : ℕ) (xs : List A) (fits : n ≤ length xs) (p : ℕ) (v : A) where
  abbrev turned : List A
  turned = backward n xs

  turned-long : length turned ≡ length xs
  turned-long = length-backward d n xs fits

  same-there : (q : ℕ) → q < length xs → get_or (set turned p v) (mirrored n q) d ≡ get_or (set xs (mirrored n p) v) q d
  same-there q h =
      ⊎_elim
      (λ (e : mirrored n q ≡ p).
      let f : q ≡ mirrored n p = sym (mirrored_twice n q) ∙ ap (mirrored n) e in
      let inside : p < length turned = rw (← e, turned-long) (mirrored-inside n (length xs) q fits h) in
      ap (λ (k : ℕ). get_or (set turned p v) k d) e
      ∙ get_or-set_same turned p v d inside
      ∙ sym (get_or-set_same xs (mirrored n p) v d (rw (← f) h))
      ∙ ap (λ (k : ℕ). get_or (set xs (mirrored n p) v) k d) (sym f))
      (λ (ne : mirrored n q ≡ p → ⊥).
      get_or-set_other turned p (mirrored n q) v d ne
      ∙ get_d_backward d n xs fits (mirrored n q)
      ∙ ap (λ (k : ℕ). get_or xs k d) (mirrored_twice n q)
      ∙ sym (get_or-set_other xs (mirrored n p) q v d (λ (e : q ≡ mirrored n p). ne (ap (mirrored n) e ∙ mirrored_twice n p))))
      (eq-or-ne (mirrored n q) p)

  set-turned : set turned p v ≡ backward n (set xs (mirrored n p) v)
  set-turned =
      let other : List A = set xs (mirrored n p) v in
      let long : length other ≡ length xs = length-set xs (mirrored n p) v in
      let room : n ≤ length other = omega arith in
      ext_get_or d (set turned p v) (backward n other)
      (length-set turned p v ∙ turned-long ∙ sym long ∙ sym (length-backward d n other room))
      (λ q h.
      let inside : mirrored n q < length xs = mirrored-inside n (length xs) q fits (omega (arith, length-set turned p v, turned-long)) in
      ap (λ (k : ℕ). get_or (set turned p v) k d) (sym (mirrored_twice n q))
      ∙ same-there (mirrored n q) inside
      ∙ sym (get_d_backward d n other room q))

abbrev mirrored_write : ℕ → Write → Write
mirrored_write n w = record { place = mirrored n w.place; x = w.x; y = w.y; back = w.back }

-- all of some writes, of which a part is written that has nothing to do with the place
module _ {A : Type 0} (d : A) (part : Write → A) (n : ℕ) (same : (w : Write) → part (mirrored_write n w) ≡ part w) where
  all-turned : (ws : List Write) (xs : List A) → n ≤ length xs → write_all part ws (backward n xs) ≡ backward n (write_all part (turned_marks n ws) xs)
  unfolding write_all turned_marks
  all-turned [] xs fits = refl
  all-turned (w ∷ more) xs fits =
      let next : List A = set xs (mirrored n w.place) (part (mirrored_write n w)) in
      ap (write_all part more) (set-turned d n xs fits w.place (part w) ∙ ap (λ (v : A). backward n (set xs (mirrored n w.place) v)) (sym (same w)))
      ∙ all-turned more next (omega (arith, length-set xs (mirrored n w.place) (part (mirrored_write n w))))

  write-long : (ws : List Write) (xs : List A) → length (write_all part ws xs) ≡ length xs
  unfolding write_all
  write-long [] xs = refl
  write-long (w ∷ more) xs = write-long more (set xs w.place (part w)) ∙ length-set xs w.place (part w)

  write-nothing : (ws : List Write) → write_all part ws [] ≡ []
  unfolding write_all
  write-nothing [] = refl
  write-nothing (w ∷ more) = write-nothing more

  -- a slice that is as long as the used part of the line, or none
  abbrev Whole : List A → Type 0
  Whole xs = 0 < length xs → length xs ≡ n

  pub none_written : (ws : List Write) (xs : List A) → Whole xs → length xs < n → xs ≡ write_all part ws xs
  none_written ws [] h k = sym (write-nothing ws)
  none_written ws (v ∷ xs) h k = let e = h (omega arith) in absurd (omega arith)

  pub whole_long : (xs : List A) → Whole xs → (length xs < n → ⊥) → n ≤ length xs
  whole_long xs h k = ⊎_elim (λ (l : length xs < n). absurd (k l)) (λ (l : n ≤ length xs). l) (lt-or-ge (length xs) n)

  -- written to while turned round, and turned back
  pub turned-back : (ws : List Write) (xs : List A) {once work after : List A} → Whole xs → once ≡ backward (length xs) xs → work ≡ write_all part ws once
      → after ≡ backward (length work) work → after ≡ write_all part (turned_marks n ws) xs
  unfolding backward
  turned-back ws [] {once} {work} {after} h e f g =
      let w : work ≡ [] = f ∙ ap (write_all part ws) e ∙ write-nothing ws in
      g ∙ ap (λ (q : List A). backward (length q) q) w ∙ sym (write-nothing (turned_marks n ws))
  turned-back ws (v ∷ xs) {once} {work} {after} h e f g =
      let all : List A = v ∷ xs in
      let long : length all ≡ n = h (omega arith) in
      let fits : n ≤ length all = omega arith in
      let on : once ≡ backward n all = e ∙ ap (λ (k : ℕ). backward k all) long in
      let made : work ≡ backward n (write_all part (turned_marks n ws) all) = f ∙ ap (write_all part ws) on ∙ all-turned ws all fits in
      let made-long : length work ≡ n =
      ap length f ∙ write-long ws once ∙ ap length on ∙ length-backward d n all fits ∙ long in
      g ∙ ap (λ (k : ℕ). backward k work) made-long ∙ ap (backward n) made
      ∙ backward_twice d n (write_all part (turned_marks n ws) all) (omega (arith, write-long (turned_marks n ws) all))
