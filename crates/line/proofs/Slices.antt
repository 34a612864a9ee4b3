-- What a window's verb and an insertion leave at each place of one slice.
use Prim.Native.Nat.{ℕ, ◌+◌, ◌-◌, ◌<◌, ◌≤◌}
use mathlib.Core.Path.{◌≡◌, ◌∙◌, ap}
use mathlib.Core.List.{List, ◌++◌}
use mathlib.Core.Logic.{⊎_elim}
use native.Mathlib.Nat.{add-sub_cancel_left}
use native.Mathlib.Omega.{arith}
use lib.ListN.{length, get_or, take, drop, length-append, length-take, length-drop}
use lib.Seq.{get_or-take, get_or-drop, length-take-le, slice, length-slice}
use Rattle.laws.specs.Choose.{if_lt}
use Rattle.laws.proofs.Choices.{if_lt_yes, if_lt_no}
use Rattle.laws.proofs.Lists.{get_d_first, get_d_behind}
use Rattle.laws.proofs.Numbers.{lt-or-ge}
use Rattle.verbs.specs.Verbs.{from_of, rearranged}
use Rattle.verbs.proofs.Laws.{length-rearranged, get_d_rearranged}
use Rattle.line.specs.Changes.{windowed, spliced}

-- a map of places counted from the window's first, as a map of the line's
abbrev pub beyond : ℕ → (ℕ → ℕ) → ℕ → ℕ
beyond first f p = if_lt p first p (first + f (p - first))

module _ (first : ℕ) (f : ℕ → ℕ) (p : ℕ) where
  pub beyond_before : p < first → beyond first f p ≡ p
  beyond_before h = if_lt_yes _ _ h

  pub beyond_from : first ≤ p → beyond first f p ≡ first + f (p - first)
  beyond_from h = if_lt_no _ _ h

-- it is undone as the map is
pub beyond_back : (first : ℕ) (f g : ℕ → ℕ) (p : ℕ) → ((k : ℕ) → g (f k) ≡ k) → beyond first g (beyond first f p) ≡ p
beyond_back first f g p back =
    ⊎_elim
    (λ (h : p < first). rw (beyond_before first f p h) (beyond_before first g p h))
    (λ (h : first ≤ p).
    rw (beyond_from first f p h)
    (beyond_from first g (first + f (p - first)) (omega arith)
    ∙ rw (add-sub_cancel_left first (f (p - first)), back (p - first)) (omega arith)))
    (lt-or-ge p first)

module _ (first width verb : ℕ) (xs : List ℕ) where
  pub length-windowed : length (windowed first width verb xs) ≡ length xs
  unfolding windowed
  length-windowed =
      length-append (take first xs) (rearranged verb width (drop first xs))
      ∙ rw (length-rearranged verb width (drop first xs), length-take first xs, length-drop first xs) (omega arith)

  pub get_d_windowed : (p : ℕ) → p < length xs → get_or (windowed first width verb xs) p 0 ≡ get_or xs (beyond first (from_of verb width) p) 0
  unfolding windowed
  get_d_windowed p h =
      ⊎_elim
      (λ (k : p < first).
      rw (beyond_before first (from_of verb width) p k)
      (get_d_first (take first xs) (rearranged verb width (drop first xs)) 0 p (rw (length-take first xs) (omega arith))
      ∙ get_or-take first xs p 0 k))
      (λ (k : first ≤ p).
      let e : length (take first xs) ≡ first = length-take-le first xs (omega arith) in
      rw (beyond_from first (from_of verb width) p k)
      (get_d_behind (take first xs) (rearranged verb width (drop first xs)) 0 p (rw e k)
      ∙ rw e
      (get_d_rearranged verb width (drop first xs) (p - first) (rw (length-drop first xs) (omega arith))
      ∙ get_or-drop first xs (from_of verb width (p - first)) 0)))
      (lt-or-ge p first)

-- an insertion: what stood before it stays, then come the new ones, then what moved up, then what they do not reach
module _ (at used : ℕ) (new xs : List ℕ) (inside : at ≤ used) (fits : used + length new ≤ length xs) where
  front : length (take at xs) ≡ at
  front = length-take-le at xs (omega arith)

  middle : length (take at xs ++ new) ≡ at + length new
  middle = length-append (take at xs) new ∙ rw front

  back : length (take at xs ++ new ++ slice at used xs) ≡ used + length new
  back = length-append (take at xs ++ new) (slice at used xs) ∙ rw (middle, length-slice at used xs (omega arith)) (omega arith)

  pub length-spliced : length (spliced at used new xs) ≡ length xs
  unfolding spliced
  length-spliced =
      length-append (take at xs ++ new ++ slice at used xs) (drop (used + length new) xs)
      ∙ rw (back, length-drop (used + length new) xs) (omega arith)

  module _ (p : ℕ) where
    pub spliced-before : p < at → get_or (spliced at used new xs) p 0 ≡ get_or xs p 0
    unfolding spliced
    spliced-before h =
        get_d_first (take at xs ++ new ++ slice at used xs) (drop (used + length new) xs) 0 p (rw back (omega arith))
        ∙ get_d_first (take at xs ++ new) (slice at used xs) 0 p (rw middle (omega arith))
        ∙ get_d_first (take at xs) new 0 p (rw front h)
        ∙ get_or-take at xs p 0 h

    pub spliced-new : at ≤ p → p < at + length new → get_or (spliced at used new xs) p 0 ≡ get_or new (p - at) 0
    unfolding spliced
    spliced-new h k =
        get_d_first (take at xs ++ new ++ slice at used xs) (drop (used + length new) xs) 0 p (rw back (omega arith))
        ∙ get_d_first (take at xs ++ new) (slice at used xs) 0 p (rw middle k)
        ∙ get_d_behind (take at xs) new 0 p (rw front h)
        ∙ rw front

    pub spliced-moved : at + length new ≤ p → p < used + length new → get_or (spliced at used new xs) p 0 ≡ get_or xs (p - length new) 0
    unfolding spliced
    spliced-moved h k =
        get_d_first (take at xs ++ new ++ slice at used xs) (drop (used + length new) xs) 0 p (rw back k)
        ∙ get_d_behind (take at xs ++ new) (slice at used xs) 0 p (rw middle h)
        ∙ rw middle
        (get_or-drop at (take used xs) (p - (at + length new)) 0
        ∙ get_or-take used xs (at + (p - (at + length new))) 0 (omega arith)
        ∙ ap (λ (n : ℕ). get_or xs n 0) (omega arith))

    pub spliced-rest : used + length new ≤ p → get_or (spliced at used new xs) p 0 ≡ get_or xs p 0
    unfolding spliced
    spliced-rest h =
        get_d_behind (take at xs ++ new ++ slice at used xs) (drop (used + length new) xs) 0 p (rw back h)
        ∙ rw back
        (get_or-drop (used + length new) xs (p - (used + length new)) 0
        ∙ ap (λ (n : ℕ). get_or xs n 0) (omega arith))
