-- Where a verb takes a place and where it came from: each undoes the other, and nothing leaves the window or enters it.
use Prim.Native.Nat.{ℕ, ◌+◌, ◌-◌, ◌%◌, ◌<◌, ◌≤◌}
use mathlib.Core.Path.{◌≡◌, refl, ◌∙◌, ap}
use mathlib.Core.List.{List}
use mathlib.Core.Logic.{⊎_elim}
use native.Mathlib.Omega.{arith}
use lib.ListN.{length, get_or}
use lib.Seq.{ext_get_or}
use Rattle.laws.proofs.Choices.{if_lt_yes, if_lt_no}
use Rattle.laws.proofs.Lists.{length-tab, get_d_tab}
use Rattle.laws.proofs.Numbers.{lt-or-ge}
use Rattle.verbs.specs.declared.Group.{Group}
use Rattle.verbs.specs.declared.Group.TheVariants.{Absent, One, Two, Flipped}
use Rattle.verbs.specs.declared.Groups.{Groups}
use Rattle.verbs.specs.Verbs.{size_of, turned, moves, table, groups_of, across, moved, place_of, from_of, rearranged}

pub turned-below : (g : Group) (r : ℕ) → r < size_of g → turned g r < size_of g
turned-below Absent r h = h
turned-below One r h = h
turned-below Two r h = h
turned-below Flipped r h = omega arith

turned_twice : (g : Group) (r : ℕ) → r < size_of g → turned g (turned g r) ≡ r
turned_twice Absent r h = refl
turned_twice One r h = refl
turned_twice Two r h = refl
turned_twice Flipped r h = omega arith

-- a place of a window that has room for both groups is in the left group, between the groups, or in the right one
module _ (l m : Group) (w r : ℕ) (room : size_of l + size_of m ≤ w) where
  pub by_part : (G : Type 0) → (r < size_of l → G) → (size_of l ≤ r → r < w - size_of m → G) → (w - size_of m ≤ r → G) → G
  by_part G left middle right =
      ⊎_elim left
      (λ (h : size_of l ≤ r). ⊎_elim (middle h) right (lt-or-ge r (w - size_of m)))
      (lt-or-ge r (size_of l))

  pub across-left : r < size_of l → across l m w r ≡ w - size_of l + turned l r
  unfolding across
  across-left h = if_lt_yes _ _ h

  pub across_middle : size_of l ≤ r → r < w - size_of m → across l m w r ≡ r - size_of l + size_of m
  unfolding across
  across_middle h k = if_lt_no _ _ h ∙ if_lt_yes _ _ k

  pub across_right : w - size_of m ≤ r → across l m w r ≡ turned m (r - (w - size_of m))
  unfolding across
  across_right h = let k : size_of l ≤ r = omega arith in if_lt_no _ _ k ∙ if_lt_no _ _ h

  across-below : r < w → across l m w r < w
  across-below inside =
      by_part (across l m w r < w)
      (λ h. rw (across-left h) (omega (arith, turned-below l r h)))
      (λ h k. rw (across_middle h k) (omega arith))
      (λ h. rw (across_right h) (omega (arith, turned-below m (r - (w - size_of m)) (omega arith))))

-- the groups exchanged bring it back
across-back : (l m : Group) (w r : ℕ) → size_of l + size_of m ≤ w → r < w → across m l w (across l m w r) ≡ r
across-back l m w r room inside =
    by_part l m w r room (across m l w (across l m w r) ≡ r)
    (λ h.
    let t = turned-below l r h in
    rw (across-left l m w r room h, across_right m l w (w - size_of l + turned l r) (omega arith) (omega arith))
    (ap (turned l) (omega arith) ∙ turned_twice l r h))
    (λ h k.
    rw (across_middle l m w r room h k, across_middle m l w (r - size_of l + size_of m) (omega arith) (omega arith) (omega arith))
    (omega arith))
    (λ h.
    let i : r - (w - size_of m) < size_of m = omega arith in
    rw (across_right l m w r room h, across-left m l w (turned m (r - (w - size_of m))) (omega arith) (turned-below m _ i))
    (ap (λ (n : ℕ). w - size_of m + n) (turned_twice m _ i) ∙ omega arith))

module _ (l m : Group) (w r : ℕ) where
  pub moved-short : w < size_of l + size_of m → moved l m w r ≡ r
  unfolding moved
  moved-short h = if_lt_yes _ _ h

  pub moved-across : size_of l + size_of m ≤ w → r < w → moved l m w r ≡ across l m w r
  unfolding moved
  moved-across h k = if_lt_no _ _ h ∙ if_lt_yes _ _ k

  pub moved_outside : w ≤ r → moved l m w r ≡ r
  unfolding moved
  moved_outside k = ⊎_elim (moved-short) (λ (h : size_of l + size_of m ≤ w). if_lt_no _ _ h ∙ if_lt_no _ _ k) (lt-or-ge w (size_of l + size_of m))

  moved-below : r < w → moved l m w r < w
  moved-below k =
      ⊎_elim
      (λ (h : w < size_of l + size_of m). rw (moved-short h) k)
      (λ (h : size_of l + size_of m ≤ w). rw (moved-across h k) (across-below l m w r h k))
      (lt-or-ge w (size_of l + size_of m))

moved_back : (l m : Group) (w r : ℕ) → moved m l w (moved l m w r) ≡ r
moved_back l m w r =
    ⊎_elim
    (λ (k : r < w).
    ⊎_elim
    (λ (h : w < size_of l + size_of m). rw (moved-short l m w r h) (moved-short m l w r (omega arith)))
    (λ (h : size_of l + size_of m ≤ w).
    rw (moved-across l m w r h k, moved-across m l w (across l m w r) (omega arith) (across-below l m w r h k)) (across-back l m w r h k))
    (lt-or-ge w (size_of l + size_of m)))
    (λ (k : w ≤ r). rw (moved_outside l m w r k) (moved_outside m l w r k))
    (lt-or-ge r w)

row-none : (verb : ℕ) → verb % 16 ≡ 0 → groups_of verb ≡ moves Absent Absent
unfolding groups_of
row-none verb e = ap (λ (n : ℕ). get_or table n (moves Absent Absent)) e

moved_none : (w r : ℕ) → moved Absent Absent w r ≡ r
moved_none w r =
    ⊎_elim
    (λ (h : r < w). rw (moved-across Absent Absent w r (omega arith) h, across_middle Absent Absent w r (omega arith) (omega arith) (omega arith)) (omega arith))
    (moved_outside Absent Absent w r)
    (lt-or-ge r w)

-- the place maps of every verb
module _ (verb width place : ℕ) where
  -- a place of the window stays in the window
  pub place_of-below : place < width → place_of verb width place < width
  unfolding place_of
  place_of-below h = moved-below _ _ width place h

  pub from_of-below : place < width → from_of verb width place < width
  unfolding from_of
  from_of-below h = moved-below _ _ width place h

  -- a place outside stays where it is
  pub place_of_outside : width ≤ place → place_of verb width place ≡ place
  unfolding place_of
  place_of_outside h = moved_outside _ _ width place h

  pub from_of_outside : width ≤ place → from_of verb width place ≡ place
  unfolding from_of
  from_of_outside h = moved_outside _ _ width place h

  -- what goes to a place came from where it was
  pub from_place : from_of verb width (place_of verb width place) ≡ place
  unfolding place_of from_of
  from_place = moved_back _ _ width place

  pub place_from_lem : place_of verb width (from_of verb width place) ≡ place
  unfolding place_of from_of
  place_from_lem = moved_back _ _ width place

  -- verb 0 moves nothing
  pub place_of-none : verb % 16 ≡ 0 → place_of verb width place ≡ place
  unfolding place_of
  place_of-none e = ap (λ (g : Groups). moved g.0 g.1 width place) (row-none verb e) ∙ moved_none width place

  pub from_of-none : verb % 16 ≡ 0 → from_of verb width place ≡ place
  unfolding from_of
  from_of-none e = ap (λ (g : Groups). moved g.1 g.0 width place) (row-none verb e) ∙ moved_none width place

-- what a verb leaves
module _ (verb width : ℕ) (part : List ℕ) where
  pub length-rearranged : length (rearranged verb width part) ≡ length part
  unfolding rearranged
  length-rearranged = length-tab _ (length part)

  pub get_d_rearranged : (k : ℕ) → k < length part → get_or (rearranged verb width part) k 0 ≡ get_or part (from_of verb width k) 0
  unfolding rearranged
  get_d_rearranged k h = get_d_tab _ (length part) k 0 h

  pub rearranged-none : verb % 16 ≡ 0 → rearranged verb width part ≡ part
  rearranged-none e =
      ext_get_or 0 (rearranged verb width part) part length-rearranged
      (λ k h. get_d_rearranged k (rw (← length-rearranged) h) ∙ ap (λ (n : ℕ). get_or part n 0) (from_of-none verb width k e))
