-- The steps of a verb in place come to its definition.
use Prim.Native.Nat.{ℕ, ◌+◌, ◌-◌, ◌<◌, ◌≤◌, min}
use mathlib.Core.Path.{◌≡◌, refl, ◌∙◌, ap, ap₂, sym}
use mathlib.Core.List.{List}
use mathlib.Core.Logic.{◌⊎◌, inl, inr, ⊎_elim}
use native.Mathlib.Omega.{arith}
use lib.ListN.{length, get_or, set, length-set}
use lib.Seq.{get_or-set_same, get_or-set_other, ext_get_or}
use Rattle.std.specs.List.{CopiedTo, SameBelow, SameFrom}
use Rattle.laws.proofs.Choices.{if_eq_yes, if_eq_no}
use Rattle.laws.proofs.Lists.{length-tab, get_d_tab}
use Rattle.laws.proofs.Numbers.{lt-or-ge, eq-or-ne}
use Rattle.verbs.specs.declared.Group.{Group}
use Rattle.verbs.specs.declared.Group.TheVariants.{Absent, One, Two, Flipped}
use Rattle.verbs.specs.declared.Groups.{Groups}
use Rattle.verbs.specs.declared.Held.{Held}
use Rattle.verbs.specs.Verbs.{size_of, turned, across, moved, groups_of, left_of, right_of, from_of, taken, rearranged}
use Rattle.verbs.specs.Steps.{Filled, lifted, held_at, slid_at}
use Rattle.verbs.proofs.Laws.{by_part, across-left, across_middle, across_right, moved-short, moved-across, moved_outside}

-- nothing is filled yet
pub filled_none : (f : ℕ → ℕ) (lo hi : ℕ) (xs : List ℕ) → lo ≡ hi → Filled f lo hi xs xs
filled_none f lo hi xs e =
    record { long = refl; inside = λ k h i. absurd (omega arith); below = λ k h. refl; above = λ k h. refl }

-- one more place is filled, beside those filled before
module _ {f : ℕ → ℕ} {lo hi : ℕ} {xs ys : List ℕ} (filled : Filled f lo hi xs ys) (at v : ℕ) (fits : at < length xs) (right : v ≡ f at) where
  filled_more : (lo' hi' : ℕ) → lo' ≤ lo → hi ≤ hi' → lo' ≤ at → at < hi'
      → ((k : ℕ) → (k ≡ at → ⊥) → lo' ≤ k → k < hi' → (lo ≤ k) × (k < hi)) → Filled f lo' hi' xs (set ys at v)
  filled_more lo' hi' p q h i beside =
      record {
        long = length-set ys at v ∙ filled.long;
        inside = λ k j m.
            ⊎_elim
            (λ (e : k ≡ at). rw e (get_or-set_same ys at v 0 (rw filled.long fits) ∙ right))
            (λ (ne : k ≡ at → ⊥). get_or-set_other ys at k v 0 ne ∙ filled.inside k (beside k ne j m).0 (beside k ne j m).1)
            (eq-or-ne k at);
        below = λ k j. get_or-set_other ys at k v 0 (omega arith) ∙ filled.below k (omega arith);
        above = λ k j. get_or-set_other ys at k v 0 (omega arith) ∙ filled.above k (omega arith);
      }

-- a group of each size is put down
module _ (held : Held) (at : ℕ) (xs : List ℕ) where
  pub put_one : at + 1 ≤ length xs → Filled (held_at held at) at (at + 1) xs (set xs at held.0)
  put_one fits =
      filled_more (filled_none _ at at xs refl) at held.0 (omega arith) (sym (if_eq_yes _ _ {a = at} refl)) at (at + 1)
      (omega arith) (omega arith) (omega arith) (omega arith) (λ k ne h i. omega (arith, ne))

  pub put_two : at + 2 ≤ length xs → Filled (held_at held at) at (at + 2) xs (set (set xs at held.0) (at + 1) held.1)
  put_two fits =
      filled_more (put_one (omega arith)) (at + 1) held.1 (omega arith) (sym (if_eq_no _ _ {a = at + 1} {b = at} (omega arith))) at (at + 2)
      (omega arith) (omega arith) (omega arith) (omega arith) (λ k ne h i. omega (arith, ne))

-- what stands between the groups slides
pub slid_over : {xs ys : List ℕ} (from end to until : ℕ) → until ≡ to + (end - from) → length ys ≡ length xs
    → CopiedTo xs ys from to (end - from) × SameBelow xs ys to × SameFrom xs ys (to + (end - from)) → Filled (slid_at xs from to) to until xs ys
slid_over from end to until u long slid =
    record {
      long = long;
      inside = λ k h i. slid.0 k 0 h (omega arith);
      below = λ k h. slid.1 k 0 h;
      above = λ k h. slid.2 k 0 (omega arith);
    }

-- groups of one size leave it where it stands
pub slid_still : (xs : List ℕ) (from to until : ℕ) → from ≡ to → Filled (slid_at xs from to) to until xs xs
slid_still xs from to until e =
    record { long = refl; inside = λ k h i. ap (λ (n : ℕ). get_or xs n 0) (omega arith); below = λ k h. refl; above = λ k h. refl }

-- what a group leaves at a place of it is what stood at a place of its own, turned where the verb flips it
of_two : (xs : List ℕ) (at k p q n : ℕ) → (k ≡ at → p ≡ n) → ((k ≡ at → ⊥) → q ≡ n) → held_at (get_or xs p 0, get_or xs q 0) at k ≡ get_or xs n 0
of_two xs at k p q n first second =
    ⊎_elim
    (λ (e : k ≡ at). if_eq_yes _ _ e ∙ ap (λ (i : ℕ). get_or xs i 0) (first e))
    (λ (ne : k ≡ at → ⊥). if_eq_no _ _ ne ∙ ap (λ (i : ℕ). get_or xs i 0) (second ne))
    (eq-or-ne k at)

put_down : (g : Group) (xs : List ℕ) (from at i k n : ℕ) → i < size_of g → k ≡ at + i → n ≡ from + turned g i
    → held_at (lifted xs from g) at k ≡ get_or xs n 0
put_down Absent xs from at i k n h p q = absurd (omega arith)
put_down One xs from at i k n h p q =
    let e : k ≡ at = omega arith in if_eq_yes _ _ e ∙ ap (λ (j : ℕ). get_or xs j 0) (omega arith)
put_down Two xs from at i k n h p q = of_two xs at k _ _ n (λ e. omega arith) (λ ne. omega (arith, ne))
put_down Flipped xs from at i k n h p q = of_two xs at k _ _ n (λ e. omega arith) (λ ne. omega (arith, ne))

-- each place holds what stood where `from` says
pub took : (from : ℕ → ℕ) (xs ys : List ℕ) → length ys ≡ length xs → ((k : ℕ) → get_or ys k 0 ≡ get_or xs (from k) 0) → ys ≡ taken from xs
took from xs ys long each =
    ext_get_or 0 ys (taken from xs) (long ∙ sym (length-tab _ (length xs))) (λ k h. each k ∙ sym (get_d_tab _ (length xs) k 0 (rw (← long) h)))

-- the steps together
module _ (left right : Group) (w : ℕ) (xs : List ℕ) {l r : ℕ} {first last : Held} {a b c : List ℕ}
    (room : size_of left + size_of right ≤ w) (p : l ≡ size_of left) (q : r ≡ size_of right)
    (lifted-left : first ≡ lifted xs 0 left) (lifted-right : last ≡ lifted xs (w - r) right)
    (slid : Filled (slid_at xs l r) r (w - l) xs a) (start : Filled (held_at last 0) 0 (0 + r) a b)
    (end : Filled (held_at first (w - l)) (w - l) (w - l + l) b c) where
  from_right : (k : ℕ) → k < size_of right → get_or c k 0 ≡ get_or xs (across right left w k) 0
  from_right k h =
      rw (across-left right left w k (omega arith) h)
      (end.below k (omega arith) ∙ start.inside k (omega arith) (omega arith) ∙ ap (λ (z : Held). held_at z 0 k) lifted-right
      ∙ put_down right xs (w - r) 0 k k _ h (omega arith) (omega arith))

  from_middle : (k : ℕ) → size_of right ≤ k → k < w - size_of left → get_or c k 0 ≡ get_or xs (across right left w k) 0
  from_middle k h i =
      rw (across_middle right left w k (omega arith) h i)
      (end.below k (omega arith) ∙ start.above k (omega arith) ∙ slid.inside k (omega arith) (omega arith) ∙ ap (λ (j : ℕ). get_or xs j 0) (omega arith))

  from_left : (k : ℕ) → k < w → w - size_of left ≤ k → get_or c k 0 ≡ get_or xs (across right left w k) 0
  from_left k inside h =
      rw (across_right right left w k (omega arith) h)
      (end.inside k (omega arith) (omega arith) ∙ ap (λ (z : Held). held_at z (w - l) k) lifted-left
      ∙ put_down left xs 0 (w - l) (k - (w - size_of left)) k _ (omega arith) (omega arith) (omega arith))

  each-place : (k : ℕ) → (k < w) ⊎ (w ≤ k) → get_or c k 0 ≡ get_or xs (moved right left w k) 0
  each-place k (inl h) =
      rw (moved-across right left w k (omega arith) h)
      (by_part right left w k (omega arith) (get_or c k 0 ≡ get_or xs (across right left w k) 0) (from_right k) (from_middle k) (from_left k h))
  each-place k (inr h) =
      rw (moved_outside right left w k h) (end.above k (omega arith) ∙ start.above k (omega arith) ∙ slid.above k (omega arith))

  pub exchanged : c ≡ taken (moved right left w) xs
  exchanged = took (moved right left w) xs c (end.long ∙ start.long ∙ slid.long) (λ k. each-place k (lt-or-ge k w))

-- a window shorter than both groups stays, and one that is not has them exchanged
module _ (verb width : ℕ) (xs : List ℕ) {gs : Groups} {w : ℕ} (row : gs ≡ groups_of verb) (cut : w ≡ min width (length xs)) where
  pub stayed : {l r : ℕ} → l ≡ size_of gs.0 → r ≡ size_of gs.1 → w < l + r → xs ≡ rearranged verb (min width (length xs)) xs
  unfolding rearranged from_of
  stayed {l} {r} p q short =
      let fewer : min width (length xs) < size_of (right_of verb) + size_of (left_of verb) =
      omega (arith, ap (λ (g : Groups). size_of g.0) row, ap (λ (g : Groups). size_of g.1) row)
      in
      took _ xs xs refl (λ k. ap (λ (n : ℕ). get_or xs n 0) (sym (moved-short _ _ _ k fewer)))

  pub carried : {ys : List ℕ} → ys ≡ taken (moved gs.1 gs.0 w) xs → ys ≡ rearranged verb (min width (length xs)) xs
  unfolding rearranged from_of
  carried e = e ∙ ap₂ (λ (g : Groups) (n : ℕ). taken (moved g.1 g.0 n) xs) row cut
