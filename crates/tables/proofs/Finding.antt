-- On records in order the search finds the one that holds the key, or there is none: one law for formats 2, 4 and 6, and for pairs.
use Prim.Native.Nat.{ℕ, zero, suc, ◌+◌, ◌<◌, ◌≤◌}
use mathlib.Core.Path.{◌≡◌, refl, ◌∙◌, subst⁻¹}
use mathlib.Core.List.{List}
use mathlib.Core.Logic.{⊎_elim}
use native.Mathlib.Omega.{arith}
use lib.ListN.{length}
use borrow.Author.Tests.{lt-ltb, le-ltb}
use Rattle.laws.proofs.Numbers.{eq-or-ne, lt-or-ge}
use Rattle.parse.specs.Reads.{u32_at}
use Rattle.parse.proofs.Laws.{read_u16_got}
use Rattle.tables.specs.Records.{record_place, pair_place}
use Rattle.tables.specs.Search.{against, side_of, side_of_record, side_of_range, side_of_array, side_of_single, find, searched}
use Rattle.tables.specs.Order.{Good, InOrder, TheOne, first_of, last_of}
use Rattle.tables.specs.declared.records.Keys.TheVariants.{Glyphs, Pairs}
use Rattle.tables.specs.declared.records.Kind.{Kind}
use Rattle.tables.specs.declared.records.Kind.TheVariants.{Ranges, Arrays, Singles}
use Rattle.tables.specs.declared.records.Side.{Side}
use Rattle.tables.specs.declared.records.Side.TheVariants as Side'
use Rattle.tables.specs.declared.records.Spot.{Spot}
use Rattle.tables.specs.declared.records.Spot.TheVariants.{At, Absent}
use Rattle.tables.proofs.Pairs.{pair_side}
use Rattle.tables.proofs.Halving.{middle, find-left, find_right, find-here, find-done}

-- records in order, by the side on which the key lies from each: first and last are where they are compared
module _ (side : ℕ → Side) (first last : ℕ → ℕ) (count key : ℕ)
    (reads : (i : ℕ) → i < count → side i ≡ against key (first i) (last i))
    (upward : (i : ℕ) → i < count → first i ≤ last i)
    (behind : (i : ℕ) → suc i < count → last i < first (suc i)) where
  -- the last key of a record is below the first of every later one
  apart : (j i : ℕ) → i < j → j < count → last i < first j
  apart zero i h l = absurd (omega arith)
  apart (suc j) i h l =
      ⊎_elim
      (λ (e : i ≡ j). subst⁻¹ (λ (n : ℕ). last n < first (suc j)) e (behind j l))
      (λ (ne : i ≡ j → ⊥).
      let before : last i < first j = apart j i (omega (arith, ne)) (omega arith) in
      omega (arith, before, upward j (omega arith), behind j l))
      (eq-or-ne i j)

  -- what is known between lo and hi: the records below lo lie before the key, those from hi on behind it
  record Between (lo hi : ℕ) : Type 0 where
    within : hi ≤ count
    passed : (j : ℕ) → j < lo → last j < key
    ahead : (j : ℕ) → hi ≤ j → j < count → key < first j

  Fine : Spot → Type 0
  Fine = TheOne first last count key

  none : (lo hi : ℕ) → Between lo hi → hi ≤ lo → Fine Absent
  unfolding Fine
  none lo hi b h j held =
      ⊎_elim
      (λ (p : j < lo). omega (arith, b.passed j p, held.below))
      (λ (p : lo ≤ j). omega (arith, b.ahead j (omega arith) held.counted, held.above))
      (lt-or-ge j lo)

  here : (i : ℕ) → i < count → first i ≤ key → key ≤ last i → Fine (At i)
  unfolding Fine
  here i h a b = (
    record { counted = h; above = a; below = b },
    λ j held.
        ⊎_elim (λ (e : j ≡ i). e)
        (λ (ne : j ≡ i → ⊥).
        ⊎_elim
        (λ (p : j < i). absurd (omega (arith, apart i j p h, held.below)))
        (λ (p : i ≤ j). absurd (omega (arith, apart j i (omega (arith, ne)) held.counted, held.above)))
        (lt-or-ge j i))
        (eq-or-ne j i),
  )

  -- one turn, where the search is right with fewer turns
  turn : (turns lo hi : ℕ) → ((l h : ℕ) → Between l h → h ≤ l + turns → Fine (find side turns l h)) → Between lo hi
      → hi ≤ lo + suc turns → lo < hi → Fine (find side (suc turns) lo hi)
  unfolding Fine
  turn turns lo hi again b enough h =
      let i = middle lo hi in
      let inside : i < count = omega (arith, b.within) in
      let e = reads i inside in
      ⊎_elim
      (λ (p : last i < key).
      let s : side i ≡ Side'.Right = e ∙ rw (lt-ltb (last i) key p) in
      subst⁻¹ Fine (find_right side turns lo hi h s)
      (again (i + 1) hi
      (record {
        within = b.within;
        passed = λ j q.
            ⊎_elim
            (λ (r : j ≡ i). subst⁻¹ (λ (n : ℕ). last n < key) r p)
            (λ (ne : j ≡ i → ⊥). omega (arith, apart i j (omega (arith, ne)) inside, upward i inside))
            (eq-or-ne j i);
        ahead = b.ahead;
      })
      (omega arith)))
      (λ (p : key ≤ last i).
      ⊎_elim
      (λ (q : key < first i).
      let s : side i ≡ Side'.Left = e ∙ rw (le-ltb (last i) key p, lt-ltb key (first i) q) in
      subst⁻¹ Fine (find-left side turns lo hi h s)
      (again lo i
      (record {
        within = omega (arith, b.within);
        passed = b.passed;
        ahead = λ j r k.
            ⊎_elim
            (λ (m : j ≡ i). subst⁻¹ (λ (n : ℕ). key < first n) m q)
            (λ (ne : j ≡ i → ⊥). omega (arith, apart j i (omega (arith, ne)) k, upward i inside))
            (eq-or-ne j i);
      })
      (omega arith)))
      (λ (q : first i ≤ key).
      let s : side i ≡ Side'.Here = e ∙ rw (le-ltb (last i) key p, le-ltb key (first i) q) in
      subst⁻¹ Fine (find-here side turns lo hi h s) (here i inside q p))
      (lt-or-ge key (first i)))
      (lt-or-ge (last i) key)

  found : (turns lo hi : ℕ) → Between lo hi → hi ≤ lo + turns → Fine (find side turns lo hi)
  found zero lo hi b enough = subst⁻¹ Fine (find-done side zero lo hi (omega arith)) (none lo hi b (omega arith))
  found (suc turns) lo hi b enough =
      ⊎_elim
      (λ (h : lo < hi). turn turns lo hi (found turns) b enough h)
      (λ (h : hi ≤ lo). subst⁻¹ Fine (find-done side (suc turns) lo hi h) (none lo hi b h))
      (lt-or-ge lo hi)

  pub find_finds : TheOne first last count key (find side count 0 count)
  unfolding Fine
  find_finds =
      found count 0 count
      (record { within = omega arith; passed = λ j h. absurd (omega arith); ahead = λ j h k. absurd (omega arith) })
      (omega arith)

-- a record that lies in the table is read, in each format
side_is : (bytes : List ℕ) (kind : Kind) (glyph i : ℕ) → Good bytes kind i
    → side_of bytes 12 (Glyphs kind) glyph i ≡ against glyph (first_of bytes kind i) (last_of bytes kind i)
unfolding side_of side_of_record side_of_range side_of_array side_of_single
side_is bytes Ranges glyph i g =
    rw (
      read_u16_got bytes (record_place 12 Ranges i) (omega (arith, g.whole)),
      read_u16_got bytes (record_place 12 Ranges i + 2) (omega (arith, g.whole)),
      side_of_range,
    )
side_is bytes Arrays glyph i g =
    rw (
      read_u16_got bytes (record_place 12 Arrays i + 2) (omega (arith, g.whole)),
      read_u16_got bytes (record_place 12 Arrays i) (omega (arith, g.whole)),
      side_of_array,
    )
side_is bytes Singles glyph i g = rw (read_u16_got bytes (record_place 12 Singles i) (omega (arith, g.whole)), side_of_single)

pub search_finds : (bytes : List ℕ) (kind : Kind) (count glyph : ℕ) → InOrder bytes kind count
    → TheOne (first_of bytes kind) (last_of bytes kind) count glyph (searched bytes 12 (Glyphs kind) count glyph)
unfolding searched
search_finds bytes kind count glyph all =
    find_finds (side_of bytes 12 (Glyphs kind) glyph) (first_of bytes kind) (last_of bytes kind) count glyph
    (λ i h. side_is bytes kind glyph i (all i h)) (λ i h. (all i h).upward) (λ i h. (all (suc i) h).behind i refl)

-- so many pairs lie in the table, with rising keys
module _ (bytes : List ℕ) (first count key : ℕ) (whole : (i : ℕ) → i < count → pair_place first i + 4 ≤ length bytes)
    (upward : (i : ℕ) → suc i < count → u32_at bytes (pair_place first i) < u32_at bytes (pair_place first (suc i))) where
  abbrev key_at : ℕ → ℕ
  key_at i = u32_at bytes (pair_place first i)

  pub search_finds_pair : TheOne key_at key_at count key (searched bytes first Pairs count key)
  unfolding searched
  search_finds_pair = find_finds (side_of bytes first Pairs key) key_at key_at count key (λ i h. pair_side bytes first key i (whole i h)) (λ i h. omega arith) upward
