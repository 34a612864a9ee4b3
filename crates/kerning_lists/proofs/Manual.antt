-- A walk's subtables are the manual's, if each head whose bytes lie in the table, and no other, is read as the manual has it.
use Rattle.std.specs.Prelude.{Option, Some, None}
use Prim.Native.Nat.{ℕ, zero, suc, ◌+◌, ◌<◌, ◌≤◌}
use mathlib.Core.Path.{◌≡◌, refl, ◌∙◌, ap}
use mathlib.Core.List.{List, [], ◌∷◌}
use native.Mathlib.Omega.{arith}
use lib.ListN.{length, get_or}
use Rattle.kerning_lists.specs.Walk.{heads_from}
use Rattle.kerning_lists.specs.Manual.{Told, told, begins_at, AsManual, NoneInPart}
use Rattle.kerning_lists.specs.declared.Subtable.{Subtable}

-- the walk as the crate reads its heads
pub record Walked
    (HeadLies : ℕ → Type 0) (subtable_at : ℕ → Subtable) (length_at : ℕ → ℕ) (first count : ℕ) (walk : List Subtable) : Type 0 where
  pub begins : (k : ℕ) → k < length walk → (other : Subtable) → get_or walk k other ≡ subtable_at (begins_at length_at first k)
  pub counted : (k : ℕ) → k < length walk → k < count
  pub lies : (k : ℕ) → k < length walk → HeadLies (begins_at length_at first k)
  pub there : (k : ℕ) → k < count → ((j : ℕ) → j ≤ k → HeadLies (begins_at length_at first j)) → k < length walk

-- a head is read or it is not
pub no_head : {A : Type 0} {h : (Option Subtable)} {s : Subtable} → h ≡ Some s → h ≡ None → A
no_head e f = let z : ◌≡◌ {A = ℕ} 0 1 = cc in absurd (omega arith)

module _ (head_at : ℕ → Option Subtable) (HeadLies : ℕ → Type 0) (subtable_at : ℕ → Subtable) (length_at : ℕ → ℕ)
    (behind : (at : ℕ) → (subtable_at at).next ≡ at + length_at at)
    (reads : (at : ℕ) → HeadLies at → head_at at ≡ Some (subtable_at at))
    (only : (at : ℕ) (s : Subtable) → head_at at ≡ Some s → HeadLies at) where
  walk-on : (left at : ℕ) → HeadLies at → heads_from head_at (suc left) at ≡ subtable_at at ∷ heads_from head_at left (at + length_at at)
  unfolding heads_from
  walk-on left at h = rw (reads at h, heads_from, behind at)

  head-lies : (left at k : ℕ) → k < length (heads_from head_at (suc left) at) → HeadLies at
  unfolding heads_from
  head-lies left at k h = go (head_at at) refl
    where
      go : (head : Option Subtable) → head_at at ≡ head → HeadLies at
      go (Some s) e = only at s e
      go None e = let none : heads_from head_at (suc left) at ≡ [] = rw (e, heads_from) in absurd (omega (arith, h, ap length none))

  -- behind the first head
  later : (left at k : ℕ) → suc k < length (heads_from head_at (suc left) at) → k < length (heads_from head_at left (at + length_at at))
  later left at k h =
      let n = ap length (walk-on left at (head-lies left at (suc k) h)) in
      omega (arith, h, n)

  begins' : (count at k : ℕ) → k < length (heads_from head_at count at) → (other : Subtable)
      → get_or (heads_from head_at count at) k other ≡ subtable_at (begins_at length_at at k)
  unfolding begins_at heads_from
  begins' zero at k h other = absurd (omega (arith, h))
  begins' (suc left) at zero h other = ap (λ (w : List Subtable). get_or w 0 other) (walk-on left at (head-lies left at 0 h))
  begins' (suc left) at (suc k) h other =
      ap (λ (w : List Subtable). get_or w (suc k) other) (walk-on left at (head-lies left at (suc k) h))
      ∙ begins' left (at + length_at at) k (later left at k h) other

  counted' : (count at k : ℕ) → k < length (heads_from head_at count at) → k < count
  unfolding heads_from
  counted' zero at k h = absurd (omega (arith, h))
  counted' (suc left) at zero h = omega arith
  counted' (suc left) at (suc k) h = let c = counted' left (at + length_at at) k (later left at k h) in omega (arith, c)

  lies' : (count at k : ℕ) → k < length (heads_from head_at count at) → HeadLies (begins_at length_at at k)
  unfolding begins_at heads_from
  lies' zero at k h = absurd (omega (arith, h))
  lies' (suc left) at zero h = head-lies left at 0 h
  lies' (suc left) at (suc k) h = lies' left (at + length_at at) k (later left at k h)

  there' : (count at k : ℕ) → k < count → ((j : ℕ) → j ≤ k → HeadLies (begins_at length_at at j)) → k < length (heads_from head_at count at)
  unfolding begins_at
  there' zero at k h all = absurd (omega (arith, h))
  there' (suc left) at zero h all = let n = ap length (walk-on left at (all 0 (omega arith))) in omega (arith, n)
  there' (suc left) at (suc k) h all =
      let n = ap length (walk-on left at (all 0 (omega arith))) in
      let more = there' left (at + length_at at) k (omega (arith, h)) (λ j le. all (suc j) (omega (arith, le))) in
      omega (arith, n, more)

  pub walk_read : (first count : ℕ) → Walked HeadLies subtable_at length_at first count (heads_from head_at count first)
  walk_read first count =
      record { begins = begins' count first; counted = counted' count first; lies = lies' count first; there = there' count first }

-- a head of more bytes than the crate reads
pub walk_as_manual : (bytes : List ℕ) (few head : ℕ) {subtable_at : ℕ → Subtable} (manual_at : ℕ → Told) {length_at : ℕ → ℕ} {first count : ℕ} {walk : List Subtable}
    → few ≤ head → ((at : ℕ) → told (subtable_at at) ≡ manual_at at) → NoneInPart bytes few head length_at first count
    → Walked (λ at. at + few ≤ length bytes) subtable_at length_at first count walk → AsManual bytes head manual_at length_at first count walk
walk_as_manual bytes few head manual_at {length_at} {first} fewer same whole w =
    record {
      begins = λ k h other. ap told (w.begins k h other) ∙ same (begins_at length_at first k);
      counted = w.counted;
      lies = λ k h. whole k (w.counted k h) (w.lies k h);
      there = λ k h all. w.there k h (λ j le. omega (arith, all j le, fewer));
    }
