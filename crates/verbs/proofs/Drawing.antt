-- Every verb makes of its window what document 01 draws, however long x is.
use Prim.Native.Nat.{ℕ, ◌+◌, ◌-◌, ◌<◌, ◌≤◌}
use mathlib.Core.Path.{◌≡◌, refl, ◌∙◌, ap, sym}
use mathlib.Core.List.{List, [], ◌∷◌, ◌++◌, append-nil, append_assoc}
use mathlib.Core.Logic.{◌⊎◌, inl, inr}
use native.Mathlib.Omega.{arith}
use lib.ListN.{length, get_or, length-append}
use Rattle.laws.specs.Lists.{tab}
use Rattle.laws.proofs.Lists.{length-tab, get_d_tab, get_d_first, get_d_behind}
use Rattle.laws.proofs.Numbers.{lt-or-ge}
use Rattle.verbs.specs.declared.Group.{Group}
use Rattle.verbs.specs.declared.Group.TheVariants.{Absent, One, Two, Flipped}
use Rattle.verbs.specs.Verbs.{size_of, turned, groups_of, left_of, right_of, across, moved, from_of, taken, rearranged}
use Rattle.verbs.specs.Drawn.{before, after, AsDrawn}
use Rattle.verbs.proofs.Laws.{turned-below, by_part, across-left, across_middle, across_right, moved-across, moved_outside}
use Rattle.verbs.proofs.Steps.{took}

-- a window of three parts and the rest of the line, read at a place of each
module _ (L x R : List ℕ) where
  abbrev window : List ℕ
  window = L ++ (x ++ R)

  length-window : length window ≡ length L + (length x + length R)
  length-window = length-append L (x ++ R) ∙ ap (λ (n : ℕ). length L + n) (length-append x R)

  module _ (rest : List ℕ) (i : ℕ) where
    in_left : i < length L → get_or (window ++ rest) i 0 ≡ get_or L i 0
    in_left h = get_d_first window rest 0 i (omega (arith, length-window)) ∙ get_d_first L (x ++ R) 0 i h

    in_middle : (j : ℕ) → i ≡ length L + j → j < length x → get_or (window ++ rest) i 0 ≡ get_or x j 0
    in_middle j e h =
        get_d_first window rest 0 i (omega (arith, length-window)) ∙ get_d_behind L (x ++ R) 0 i (omega arith)
        ∙ ap (λ (n : ℕ). get_or (x ++ R) n 0) (omega arith) ∙ get_d_first x R 0 j h

    in_right : (j : ℕ) → i ≡ length L + length x + j → j < length R → get_or (window ++ rest) i 0 ≡ get_or R j 0
    in_right j e h =
        get_d_first window rest 0 i (omega (arith, length-window)) ∙ get_d_behind L (x ++ R) 0 i (omega arith)
        ∙ get_d_behind x R 0 (i - length L) (omega arith) ∙ ap (λ (n : ℕ). get_or R n 0) (omega arith)

    behind : (j : ℕ) → i ≡ length L + (length x + length R) + j → get_or (window ++ rest) i 0 ≡ get_or rest j 0
    behind j e = get_d_behind window rest 0 i (omega (arith, length-window)) ∙ ap (λ (n : ℕ). get_or rest n 0) (omega (arith, length-window))

-- a group as its verb puts it down
module _ (g : Group) (xs : List ℕ) where
  abbrev put : List ℕ
  put = taken (turned g) xs

  length-put : length put ≡ length xs
  length-put = length-tab _ (length xs)

  get_d_put : length xs ≡ size_of g → (i : ℕ) → i < size_of g → get_or put i 0 ≡ get_or xs (turned g i) 0
  get_d_put e i h = get_d_tab _ (length xs) i 0 (omega arith)

-- the groups at a window's ends change places, and what is between them and behind the window keeps its order
module _ (l m : Group) (L x R rest : List ℕ) (p : length L ≡ size_of l) (q : length R ≡ size_of m) (w : ℕ) (e : w ≡ length L + (length x + length R)) where
  abbrev old : List ℕ
  old = window L x R ++ rest

  abbrev new : List ℕ
  new = window (put m R) x (put l L) ++ rest

  from_right : (k : ℕ) → k < size_of m → get_or new k 0 ≡ get_or old (across m l w k) 0
  from_right k h =
      rw (across-left m l w k (omega arith) h)
      (in_left (put m R) x (put l L) rest k (omega (arith, length-put m R)) ∙ get_d_put m R q k h
      ∙ sym (in_right L x R rest _ (turned m k) (omega arith) (omega (arith, turned-below m k h))))

  from_middle : (k : ℕ) → size_of m ≤ k → k < w - size_of l → get_or new k 0 ≡ get_or old (across m l w k) 0
  from_middle k h i =
      rw (across_middle m l w k (omega arith) h i)
      (in_middle (put m R) x (put l L) rest k (k - size_of m) (omega (arith, length-put m R)) (omega arith)
      ∙ sym (in_middle L x R rest _ (k - size_of m) (omega arith) (omega arith)))

  from_left : (k : ℕ) → k < w → w - size_of l ≤ k → get_or new k 0 ≡ get_or old (across m l w k) 0
  from_left k inside h =
      let j = k - (w - size_of l) in
      let i : j < size_of l = omega arith in
      rw (across_right m l w k (omega arith) h)
      (in_right (put m R) x (put l L) rest k j (omega (arith, length-put m R)) (omega (arith, length-put l L)) ∙ get_d_put l L p j i
      ∙ sym (in_left L x R rest _ (omega (arith, turned-below l j i))))

  each-place : (k : ℕ) → (k < w) ⊎ (w ≤ k) → get_or new k 0 ≡ get_or old (moved m l w k) 0
  each-place k (inl h) =
      rw (moved-across m l w k (omega arith) h)
      (by_part m l w k (omega arith) (get_or new k 0 ≡ get_or old (across m l w k) 0) (from_right k) (from_middle k) (from_left k h))
  each-place k (inr h) =
      rw (moved_outside m l w k h)
      (behind (put m R) x (put l L) rest k (k - w) (omega (arith, length-put m R, length-put l L))
      ∙ sym (behind L x R rest k (k - w) (omega arith)))

  same_length : length new ≡ length old
  same_length =
      length-append (window (put m R) x (put l L)) rest
      ∙ ap (λ (n : ℕ). n + length rest)
      (omega (arith, length-window (put m R) x (put l L), length-window L x R, length-put m R, length-put l L))
      ∙ sym (length-append (window L x R) rest)

  ends-exchanged : taken (moved m l w) old ≡ new
  ends-exchanged = sym (took (moved m l w) old new same_length (λ k. each-place k (lt-or-ge k w)))

-- the glyphs that are drawn for a group of each size
module _ (only first second : ℕ) where
  abbrev glyphs : Group → List ℕ
  glyphs Absent = []
  glyphs One = only ∷ []
  glyphs Two = first ∷ second ∷ []
  glyphs Flipped = first ∷ second ∷ []

  length-glyphs : (g : Group) → length (glyphs g) ≡ size_of g
  length-glyphs Absent = refl
  length-glyphs One = refl
  length-glyphs Two = refl
  length-glyphs Flipped = refl

-- glyphs are drawn behind a list one by one
abbrev one_by_one : List ℕ → List ℕ → List ℕ
one_by_one xs [] = xs
one_by_one xs (y ∷ ys) = one_by_one (xs ++ (y ∷ [])) ys

at_once : (xs ys : List ℕ) → one_by_one xs ys ≡ xs ++ ys
at_once xs [] = sym (append-nil xs)
at_once xs (y ∷ ys) = at_once (xs ++ (y ∷ [])) ys ∙ append_assoc xs (y ∷ []) ys

-- each of sixteen windows that are drawn so is a window of three parts
row : (x : List ℕ) (f L R : ℕ → List ℕ) → tab f 16 ≡ tab (λ v. L v ++ one_by_one x (R v)) 16
    → (verb : ℕ) → verb < 16 → f verb ≡ window (L verb) x (R verb)
row x f L R e verb h =
    sym (get_d_tab f 16 verb [] h) ∙ ap (λ (t : List (List ℕ)). get_or t verb []) e ∙ get_d_tab _ 16 verb [] h
    ∙ ap (λ (t : List ℕ). L verb ++ t) (at_once x (R verb))

-- the verbs' groups, where they stand and as they are put down
module _ (a b : ℕ) (x : List ℕ) (c d : ℕ) where
  abbrev left : ℕ → List ℕ
  left verb = glyphs a a b (left_of verb)

  abbrev right : ℕ → List ℕ
  right verb = glyphs d c d (right_of verb)

  abbrev left_put : ℕ → List ℕ
  left_put verb = put (left_of verb) (left verb)

  abbrev right_put : ℕ → List ℕ
  right_put verb = put (right_of verb) (right verb)

  all-before : tab (before a b x c d) 16 ≡ tab (λ verb. left verb ++ one_by_one x (right verb)) 16
  unfolding tab groups_of
  all-before = refl

  all_after : tab (after a b x c d) 16 ≡ tab (λ verb. right_put verb ++ one_by_one x (left_put verb)) 16
  unfolding tab groups_of
  all_after = refl

  pub as_drawn : AsDrawn a b x c d
  unfolding rearranged from_of
  as_drawn verb rest h =
      ap (λ (t : List ℕ). rearranged verb (length t) (t ++ rest)) (row x (before a b x c d) left right all-before verb h)
      ∙ ends-exchanged (left_of verb) (right_of verb) (left verb) x (right verb) rest
      (length-glyphs a a b (left_of verb)) (length-glyphs d c d (right_of verb)) _ (length-window (left verb) x (right verb))
      ∙ ap (λ (t : List ℕ). t ++ rest) (sym (row x (after a b x c d) right_put left_put all_after verb h))
