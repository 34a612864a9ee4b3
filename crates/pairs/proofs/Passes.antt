-- The pair pass's loops: over a stretch of places that count, and over the stretches.
use Rattle.std.specs.Prelude.{Option, Result, Ok, Err}
use Rattle.std.specs.Result.{result_ok}
use Prim.Native.Nat.{ℕ, zero, suc, ◌+◌, ◌-◌, ◌*◌, ◌<◌, ◌≤◌, ◌^◌}
use mathlib.Core.Path.{◌≡◌, refl, sym, ◌∙◌, ap, ap₂, subst, subst⁻¹}
use mathlib.Core.Bool.{Bool, true, false, cond}
use mathlib.Core.List.{List, [], ◌++◌, append-nil, append_assoc}
use native.Mathlib.Numerals.{add-one}
use native.Mathlib.Omega.{arith}
use mathlib.Core.Logic.{◌⊎◌, inl, inr}
use lib.IntN.{ℤ}
use lib.ListN.{length, get_or, drop, length-append}
use mir.Syntax.{w16}
use mir.Val.{SFits}
use Rattle.answers.specs.Limits.{room_limit}
use Rattle.line.proofs.Room.{room_small}
use borrow.Author.Tests.{leb-true}
use Rattle.laws.proofs.Lists.{both_left, both_right}
use Rattle.laws.proofs.Signed.{signed16-size}
use Rattle.laws.proofs.Numbers.{lt-or-ge}
use Rattle.parse.specs.Reads.{inside, u16_at, read_i16}
use Rattle.tables.specs.Records.{pair_place}
use Rattle.tables.specs.Search.{searched}
use Rattle.tables.specs.Lookup.{lookup_at}
use Rattle.tables.specs.Units.{lookup_by, units_by}
use Rattle.tables.specs.declared.units.Reading.{Reading}
use Rattle.tables.specs.declared.units.Reading.TheVariants.{Crate}
use Rattle.tables.specs.declared.units.Units.{Units}
use Rattle.tables.specs.declared.units.Units.TheVariants as Units'
use Rattle.tables.proofs.Sizes.{in_words_lem, in_crate}
use Rattle.tables.specs.Opened.{opened_of, plain, LiesIn}
use Rattle.tables.specs.declared.opened.Array.{Array}
use Rattle.tables.proofs.Openings.{opened-same, opened-lies}
use Rattle.tables.specs.declared.records.Keys.TheVariants as Keys'
use Rattle.tables.specs.declared.records.Spot.{Spot}
use Rattle.tables.specs.declared.records.Spot.TheVariants as Spot'
use Rattle.tables.specs.declared.lookup.Why.{Why}
use Rattle.kerning.specs.Additions.{Addition, add_at, add_all}
use Rattle.kerning.specs.Bounds.{Within}
use Rattle.kerning.specs.declared.choices.PairRule.{PairRule}
use Rattle.kerning.proofs.Signs.{size_16}
use Rattle.kerning.proofs.Adding.{length-add_all, add_all-none, add_all-append, within-add_all, within_more, Small, small-none, small_one, small-append}
use Rattle.pairs.specs.Pairs.{key_of, number_at, number_in, ordered_number, on_class, number_in_row, class_number, pair_number}
use Rattle.pairs.specs.Work.{are_words, in_words, is_plain, on_found, opened_number, FirstFrom, added, stretch, Gives, Sized}
use Rattle.pairs.specs.Pass.{addition_of, Before, none, place as placed, last_below, with_before, pairs_below, counts, worked_by}
use Rattle.pairs.specs.declared.PairTable.{PairTable}
use Rattle.pairs.specs.declared.PairTable.TheVariants.{Ordered, Classes}
use Rattle.kerning.specs.declared.heads.Unready.{Unready}

sized-at : (bytes : List ℕ) (place : ℕ) → Sized (number_at bytes place)
unfolding number_at read_i16
sized-at bytes place = go (inside bytes place 2) refl
  where
    go : (t : Bool) → inside bytes place 2 ≡ t → Sized (number_at bytes place)
    go true p = rw (p, number_at, read_i16) (record { sfits = signed16-size (u16_at bytes place) })
    go false p = rw (p, number_at, read_i16) tt

sized_in : (bytes : List ℕ) (first : ℕ) (spot : Spot) → Sized (number_in bytes first spot)
unfolding number_in
sized_in bytes first (Spot'.At i) = sized-at bytes (pair_place first i + 4)
sized_in bytes first Spot'.Absent = tt
sized_in bytes first Spot'.Cut = tt

sized-class : (found : Result ℕ Why) (then : ℕ → Result ℤ Why) → ((class : ℕ) → Sized (then class)) → Sized (on_class found then)
sized-class (Ok class) then s = s class
sized-class (Err why) then s = tt

pub sized-ordered : (bytes : List ℕ) (first count left right : ℕ) → Sized (ordered_number bytes first count left right)
unfolding ordered_number
sized-ordered bytes first count left right = sized_in bytes first (searched bytes first Keys'.Pairs count (key_of left right))

pub sized : (bytes : List ℕ) (pairs : PairTable) (left right : ℕ) → Sized (pair_number bytes pairs left right)
unfolding pair_number class_number number_in_row
sized bytes (Ordered first count) left right = sized-ordered bytes first count left right
sized bytes (Classes rows columns array reading) left right =
    sized-class (lookup_by reading (drop rows bytes) left) _
    (λ row. sized-class (lookup_by reading (drop columns bytes) right) _ (λ column. sized-at bytes (array + row + column)))

-- class pairs in the crate's reading, by the crate's lookup
pub in_crates : (bytes : List ℕ) (rows columns array left right : ℕ) → pair_number bytes (Classes rows columns array Crate) left right
    ≡ on_class (lookup_at (drop rows bytes) left) (λ row. on_class (lookup_at (drop columns bytes) right) (λ column. number_at bytes (array + row + column)))
unfolding pair_number class_number number_in_row
in_crates bytes rows columns array left right =
    ap₂ (λ (a b : Result ℕ Why). on_class a (λ row. on_class b (λ column. number_at bytes (array + row + column))))
    (in_crate (drop rows bytes) left) (in_crate (drop columns bytes) right)

-- and where rows and columns have elements of two bytes, in either reading
are_words_lem : (units : Result Units Why) → are_words units ≡ true → units ≡ Ok Units'.Words
are_words_lem (Ok Units'.Words) e = refl
are_words_lem (Ok (Units'.Bytes first count)) e = let z : ◌≡◌ {A = ℕ} 0 1 = cc in absurd (omega arith)
are_words_lem (Err why) e = let z : ◌≡◌ {A = ℕ} 0 1 = cc in absurd (omega arith)

pub words-number : (bytes : List ℕ) (rows columns array : ℕ) (reading : Reading) → in_words bytes rows columns reading ≡ true
    → pair_number bytes (Classes rows columns array Crate) ≡ pair_number bytes (Classes rows columns array reading)
unfolding in_words pair_number class_number number_in_row
words-number bytes rows columns array reading e =
    λ i left right. (in_crates bytes rows columns array left right ∙ sym (by_reading left right)) i
  where
    in_rows : units_by reading (drop rows bytes) ≡ Ok Units'.Words
    in_rows = are_words_lem (units_by reading (drop rows bytes)) (both_left (are_words (units_by reading (drop rows bytes))) (are_words (units_by reading (drop columns bytes))) e)

    in_columns : units_by reading (drop columns bytes) ≡ Ok Units'.Words
    in_columns = are_words_lem (units_by reading (drop columns bytes)) (both_right (are_words (units_by reading (drop rows bytes))) (are_words (units_by reading (drop columns bytes))) e)

    by_reading : (left right : ℕ) → pair_number bytes (Classes rows columns array reading) left right
        ≡ on_class (lookup_at (drop rows bytes) left) (λ row. on_class (lookup_at (drop columns bytes) right) (λ column. number_at bytes (array + row + column)))
    by_reading left right =
        ap₂ (λ (a b : Result ℕ Why). on_class a (λ row. on_class b (λ column. number_at bytes (array + row + column))))
        (in_words_lem reading (drop rows bytes) left in_rows) (in_words_lem reading (drop columns bytes) right in_columns)

-- pairs that have a loop of their own
pub plain_ordered : (bytes : List ℕ) {pairs : PairTable} {first count : ℕ} → is_plain bytes pairs ≡ true → pairs ≡ Ordered first count → pair_place first count ≤ length bytes
unfolding is_plain
plain_ordered bytes {pairs} {first} {count} e f = leb-true (pair_place first count) (length bytes) (sym (ap (is_plain bytes) f) ∙ e)

-- what is opened lies inside
pub opens_inside : (bytes : List ℕ) {opened : Option Array} → opened ≡ opened_of bytes → LiesIn bytes opened
opens_inside bytes e = subst⁻¹ (LiesIn _) e (opened-lies _)

pub plain-words : (bytes : List ℕ) {pairs : PairTable} {rows columns array : ℕ} {reading : Reading} → is_plain bytes pairs ≡ true
    → pairs ≡ Classes rows columns array reading → pair_number bytes (Classes rows columns array Crate) ≡ pair_number bytes pairs
unfolding is_plain
plain-words bytes {pairs} {rows} {columns} {array} {reading} e f =
    words-number bytes rows columns array reading (sym (ap (is_plain bytes) f) ∙ e) ∙ ap (pair_number bytes) (sym f)

-- by classes whose tables are opened once: the same, but for why there is no number
module _ (bytes : List ℕ) (rows columns array left right : ℕ) {lefts rights : List ℕ} {left_rows right_columns : Option Array}
    (a : lefts ≡ drop rows bytes) (b : rights ≡ drop columns bytes) (o : left_rows ≡ opened_of lefts) (p : right_columns ≡ opened_of rights) where
  pub opened_same : opened_number bytes lefts left_rows rights right_columns array left right
      ≡ result_ok (pair_number bytes (Classes rows columns array Crate) left right)
  unfolding opened_number
  opened_same =
      rw (o, p, opened-same lefts left, opened-same rights right, a, b) (go (lookup_at (drop rows bytes) left) (lookup_at (drop columns bytes) right))
      ∙ ap result_ok (sym (in_crates bytes rows columns array left right))
    where
      go : (row column : Result ℕ Why)
          → on_found (plain row) (λ r. on_found (plain column) (λ c. result_ok (number_at bytes (array + r + c))))
          ≡ result_ok (on_class row (λ r. on_class column (λ c. number_at bytes (array + r + c))))
      go (Ok r) (Ok c) = refl
      go (Ok r) (Err why) = refl
      go (Err why) column = refl

-- what one pair adds is small, and one number at most
small_addition : (place : ℕ) (number : Result ℤ Why) → Sized number → Small (addition_of place number)
small_addition place (Ok z) s = small_one (size_16 s)
small_addition place (Err why) s = small-none

few_addition : (place : ℕ) (number : Result ℤ Why) → length (addition_of place number) ≤ 1
few_addition place (Ok z) = omega arith
few_addition place (Err why) = omega arith

-- what one number of 16 bits adds is small
pub within_added : (place : ℕ) {z : ℤ} (along : List ℤ) (b : ℕ) → SFits w16 z → Within b along → Within (b + 32768) (add_at place z along)
unfolding add_all
within_added place along b s w = within-add_all along (small_one (size_16 s)) w

-- what a call that gave a number adds
added_is : (place : ℕ) (number : Result ℤ Why) → added place (result_ok number) ≡ addition_of place number
added_is place (Ok z) = refl
added_is place (Err why) = refl

module _ (gave : (left right : ℕ) → Option ℤ → Type 0) (glyphs : List ℕ) where
  -- what the loop over a stretch knows: the rest adds what the whole adds
  pub record Stretching (before from stop b : ℕ) (along₀ along : List ℤ) (left place : ℕ) : Type 0 where
    pub begun : left < place
    pub same : (number : (left right : ℕ) → Result ℤ Why) → Gives gave number
        → add_all (stretch number glyphs left place (stop - place)) along ≡ add_all (stretch number glyphs before from (stop - from)) along₀
    pub long : length along ≡ length along₀
    pub small : Within (b + place * 32768) along

  pub stretching_start : (before from stop b : ℕ) (along : List ℤ) → before < from → Within b along → Stretching before from stop b along along before from
  stretching_start before from stop b along h small =
      record { begun = h; same = λ number gives. refl; long = refl; small = within_more (omega arith) small }

  stretch-next : (number : (left right : ℕ) → Result ℤ Why) (left place n : ℕ) {m : ℕ} → m ≡ suc n
      → stretch number glyphs left place m ≡ addition_of left (number (get_or glyphs left 0) (get_or glyphs place 0)) ++ stretch number glyphs place (suc place) n
  unfolding stretch
  stretch-next number left place n e = ap (stretch number glyphs left place) e

  pub stretching_next : {before from stop b : ℕ} {along₀ along after : List ℤ} {left place : ℕ} (n : Option ℤ)
      → Stretching before from stop b along₀ along left place → place < stop
      → get_or glyphs left 0 < 65536 → get_or glyphs place 0 < 65536 → gave (get_or glyphs left 0) (get_or glyphs place 0) n
      → after ≡ add_all (added left n) along → ((c : ℕ) → Within c along → Within (c + 32768) after) → Stretching before from stop b along₀ after place (place + 1)
  stretching_next {before} {from} {stop} {b} {along₀} {along} {after} {left} {place} n p h i j g f w =
      record {
        begun = omega arith;
        same = λ number gives.
            let m : Result ℤ Why = number (get_or glyphs left 0) (get_or glyphs place 0) in
            let e : added left n ≡ addition_of left m = ap (added left) (gives (get_or glyphs left 0) (get_or glyphs place 0) i j n g) ∙ added_is left m in
            let rest : ℕ = stop - (place + 1) in
            let r : stretch number glyphs left place (stop - place) ≡ addition_of left m ++ stretch number glyphs place (place + 1) rest =
            stretch-next number left place rest (omega arith) ∙ ap (λ (k : ℕ). addition_of left m ++ stretch number glyphs place k rest) (sym (add-one place)) in
            ap (add_all (stretch number glyphs place (place + 1) rest)) (f ∙ ap (λ (a : List Addition). add_all a along) e)
            ∙ sym (add_all-append (addition_of left m) (stretch number glyphs place (place + 1) rest) along)
            ∙ ap (λ (x : List Addition). add_all x along) (sym r) ∙ p.same number gives;
        long = ap length f ∙ length-add_all (added left n) along ∙ p.long;
        small = within_more (omega arith) (w (b + place * 32768) p.small);
      }

  pub stretching_done : {before from stop b : ℕ} {along₀ along : List ℤ} {left place : ℕ} → Stretching before from stop b along₀ along left place → stop ≤ place
      → (number : (left right : ℕ) → Result ℤ Why) → Gives gave number → along ≡ add_all (stretch number glyphs before from (stop - from)) along₀
  unfolding stretch add_all
  stretching_done {before} {from} {stop} {b} {along₀} {along} {left} {place} p h number gives =
      let none : stop - place ≡ 0 = omega arith in
      ap (λ (n : ℕ). add_all (stretch number glyphs left place n) along) (sym none) ∙ p.same number gives

-- the laws of pairs whatever places count
module _ (counts : ℕ → Bool) where
  pub last-counted : (n : ℕ) → counts n ≡ true → last_below counts (suc n) ≡ placed n
  unfolding last_below
  last-counted n e = rw e

  pub last-skipped : (n : ℕ) → counts n ≡ false → last_below counts (suc n) ≡ last_below counts n
  unfolding last_below
  last-skipped n e = rw e

  -- over places that don't count, told as n places from one on
  pub last-over : (from n : ℕ) → ((k : ℕ) → from ≤ k → k < n + from → counts k ≡ false) → last_below counts (n + from) ≡ last_below counts from
  last-over from zero all = ap (last_below counts) (omega arith)
  last-over from (suc n) all =
      ap (last_below counts) (omega arith) ∙ last-skipped (n + from) (all (n + from) (omega arith) (omega arith)) ∙ last-over from n (λ k l h. all k l (omega arith))

  module _ (number : (left right : ℕ) → Result ℤ Why) (glyphs : List ℕ) where
    abbrev below : ℕ → List Addition
    below = pairs_below counts number glyphs

    below-skipped : (n : ℕ) → counts n ≡ false → below (suc n) ≡ below n
    unfolding pairs_below
    below-skipped n e = rw e (append-nil (below n))

    pub below_next : (n p : ℕ) → counts n ≡ true → last_below counts n ≡ placed p
        → below (suc n) ≡ below n ++ addition_of p (number (get_or glyphs p 0) (get_or glyphs n 0))
    unfolding pairs_below
    below_next n p e l = rw (e, l)

    below-first : (n : ℕ) → counts n ≡ true → last_below counts n ≡ none → below (suc n) ≡ below n
    unfolding pairs_below
    below-first n e l = rw (e, l) (append-nil (below n))

    below-over : (from n : ℕ) → ((k : ℕ) → from ≤ k → k < n + from → counts k ≡ false) → below (n + from) ≡ below from
    below-over from zero all = ap below (omega arith)
    below-over from (suc n) all =
        ap below (omega arith) ∙ below-skipped (n + from) (all (n + from) (omega arith) (omega arith)) ∙ below-over from n (λ k l h. all k l (omega arith))

    -- over a stretch of places that all count
    below-stretch : (before from n : ℕ) → last_below counts from ≡ placed before → ((k : ℕ) → from ≤ k → k < from + n → counts k ≡ true)
        → below (from + n) ≡ below from ++ stretch number glyphs before from n
    unfolding stretch
    below-stretch before from zero l all = ap below (omega arith) ∙ sym (append-nil (below from))
    below-stretch before from (suc n) l all =
        let one : List Addition = addition_of before (number (get_or glyphs before 0) (get_or glyphs from 0)) in
        let here : counts from ≡ true = all from (omega arith) (omega arith) in
        ap below (omega arith)
        ∙ below-stretch from (suc from) n (last-counted from here) (λ k a b. all k (omega arith) (omega arith))
        ∙ ap (λ (x : List Addition). x ++ stretch number glyphs from (suc from) n) (below_next from before here l)
        ∙ append_assoc (below from) one (stretch number glyphs from (suc from) n)

    module _ (all : (left right : ℕ) → Sized (number left right)) where
      small_with : (before : Before) (n : ℕ) → Small (with_before counts number glyphs before n)
      small_with none n = small-none
      small_with (placed p) n = small_addition p (number (get_or glyphs p 0) (get_or glyphs n 0)) (all (get_or glyphs p 0) (get_or glyphs n 0))

      small-below : (n : ℕ) → Small (below n)
      unfolding pairs_below
      small-below zero = small-none
      small-below (suc n) = small-append (small-below n) (go (counts n))
        where
          go : (t : Bool) → Small (cond t (with_before counts number glyphs (last_below counts n) n) [])
          go true = small_with (last_below counts n) n
          go false = small-none

    few_with : (before : Before) (n : ℕ) → length (with_before counts number glyphs before n) ≤ 1
    few_with none n = omega arith
    few_with (placed p) n = few_addition p (number (get_or glyphs p 0) (get_or glyphs n 0))

    -- a pair pass adds at most 32,768 for each place
    few-below : (n : ℕ) → length (below n) ≤ n
    unfolding pairs_below
    few-below zero = omega arith
    few-below (suc n) =
        let one : List Addition = cond (counts n) (with_before counts number glyphs (last_below counts n) n) [] in
        omega (arith, length-append (below n) one, few-below n, go (counts n))
      where
        go : (t : Bool) → length (cond t (with_before counts number glyphs (last_below counts n) n) []) ≤ 1
        go true = few_with (last_below counts n) n
        go false = omega arith

    module _ (all : (left right : ℕ) → Sized (number left right)) where
      within-below : (n : ℕ) {b : ℕ} (along : List ℤ) → n ≤ room_limit → Within b along → Within (b + 2 ^ 39) (add_all (below n) along)
      within-below n along h w = within_more (omega (arith, few-below n, room_small)) (within-add_all along (small-below all n) w)

-- what the loop over the stretches knows: the pairs among the places below `from` have added theirs, and `from` counts, if it is not the end
module _ (counts : ℕ → Bool) (number : (left right : ℕ) → Result ℤ Why) (glyphs : List ℕ) where
  pub record Joining (used : ℕ) (along₀ along : List ℤ) (before from : ℕ) : Type 0 where
    pub within : from ≤ used
    pub here : from < used → counts from ≡ true
    pub last : from < used → last_below counts from ≡ placed before
    pub begun : from < used → before < from
    pub same : along ≡ add_all (below counts number glyphs from) along₀

  -- to the next place that counts, over those that don't
  record Over (used stop from : ℕ) : Type 0 where
    forth : stop ≤ from
    last : last_below counts from ≡ last_below counts stop
    same : below counts number glyphs from ≡ below counts number glyphs stop

  over : (used stop : ℕ) {from : ℕ} → stop ≤ used → FirstFrom counts true stop used from → Over used stop from
  over used stop {from} h f =
      let forth : stop ≤ from = go (lt-or-ge from used) in
      let n : ℕ = from - stop in
      let e : n + stop ≡ from = omega arith in
      record {
        forth = forth;
        last = ap (last_below counts) (sym e) ∙ last-over counts stop n (λ k a b. f.skipped k a (omega arith));
        same = ap (below counts number glyphs) (sym e) ∙ below-over counts number glyphs stop n (λ k a b. f.skipped k a (omega arith));
      }
    where
      go : (from < used) ⊎ (used ≤ from) → stop ≤ from
      go (inl k) = (f.here k).0
      go (inr k) = omega arith

  pub joining_start : (used : ℕ) (along : List ℤ) {before from : ℕ} → FirstFrom counts true 0 used before → FirstFrom counts true (before + 1) used from
      → Joining used along along before from
  unfolding pairs_below last_below add_all
  joining_start used along {before} {from} f g = go (lt-or-ge before used)
    where
      first : Over used 0 before
      first = over used 0 (omega arith) f

      go : (before < used) ⊎ (used ≤ before) → Joining used along along before from
      go (inl h) =
          let one : counts before ≡ true = (f.here h).1 in
          let o : Over used (before + 1) from = over used (before + 1) (omega arith) g in
          let l : last_below counts (before + 1) ≡ placed before = ap (last_below counts) (add-one before) ∙ last-counted counts before one in
          let e : below counts number glyphs (before + 1) ≡ [] =
          ap (below counts number glyphs) (add-one before) ∙ below-first counts number glyphs before one first.last ∙ first.same in
          record {
            within = g.within;
            here = λ k. (g.here k).1;
            last = λ k. o.last ∙ l;
            begun = λ k. omega (arith, o.forth);
            same = ap (λ (x : List Addition). add_all x along) (sym (o.same ∙ e));
          }
      go (inr h) =
          let end : from ≡ before = at-end (lt-or-ge from used) in
          record {
            within = g.within;
            here = λ k. (g.here k).1;
            last = λ k. absurd (past k);
            begun = λ k. absurd (past k);
            same = ap (λ (x : List Addition). add_all x along) (sym (ap (below counts number glyphs) end ∙ first.same));
          }
        where
          past : from < used → ⊥
          past k = omega (arith, (g.here k).0)

          at-end : (from < used) ⊎ (used ≤ from) → from ≡ before
          at-end (inl k) = absurd (past k)
          at-end (inr k) = omega (arith, f.within, g.within)

  -- a stretch begins where it counts, and so does not end there
  pub joining_longer : {used : ℕ} {along₀ along : List ℤ} {before from stop : ℕ} → Joining used along₀ along before from → from < used
      → FirstFrom counts false from used stop → from < stop
  joining_longer {used} {along₀} {along} {before} {from} {stop} p h f = go (lt-or-ge from stop)
    where
      go : (from < stop) ⊎ (stop ≤ from) → from < stop
      go (inl k) = k
      go (inr k) =
          let i : stop < used = omega arith in
          let e : stop ≡ from = omega (arith, (f.here i).0) in
          let one : counts from ≡ true = p.here h in
          let none : counts stop ≡ false = (f.here i).1 in
          let no : ◌≡◌ {A = ℕ} 0 1 = cc in
          absurd (omega arith)

  pub joining_next : {used : ℕ} {along₀ along after : List ℤ} {before from stop next : ℕ} → Joining used along₀ along before from → from < used
      → FirstFrom counts false from used stop → after ≡ add_all (stretch number glyphs before from (stop - from)) along → FirstFrom counts true stop used next
      → Joining used along₀ after (stop - 1) next
  joining_next {used} {along₀} {along} {after} {before} {from} {stop} {next} p h f e g =
      let longer : from < stop = joining_longer p h f in
      let o : Over used stop next = over used stop f.within g in
      let end : suc (stop - 1) ≡ stop = omega arith in
      let n : ℕ = stop - from in
      let l : last_below counts stop ≡ placed (stop - 1) =
      ap (last_below counts) (sym end) ∙ last-counted counts (stop - 1) (f.skipped (stop - 1) (omega arith) (omega arith)) in
      let there : from + n ≡ stop = omega arith in
      let s : below counts number glyphs stop ≡ below counts number glyphs from ++ stretch number glyphs before from n =
      ap (below counts number glyphs) (sym there) ∙ below-stretch counts number glyphs before from n (p.last h) (λ k a b. f.skipped k a (omega arith)) in
      record {
        within = g.within;
        here = λ k. (g.here k).1;
        last = λ k. o.last ∙ l;
        begun = λ k. omega (arith, o.forth);
        same =
            e ∙ ap (add_all (stretch number glyphs before from n)) p.same
            ∙ sym (add_all-append (below counts number glyphs from) (stretch number glyphs before from n) along₀)
            ∙ ap (λ (x : List Addition). add_all x along₀) (sym (o.same ∙ s));
      }

  pub joining_less : {used : ℕ} {along₀ along : List ℤ} {before from stop next : ℕ} → Joining used along₀ along before from → from < used
      → FirstFrom counts false from used stop → FirstFrom counts true stop used next → used - next < used - from
  joining_less {used} {along₀} {along} {before} {from} {stop} {next} p h f g =
      omega (arith, joining_longer p h f, (over used stop f.within g).forth, g.within)

  pub joining_done : {used : ℕ} {along₀ along : List ℤ} {before from : ℕ} → Joining used along₀ along before from → used ≤ from
      → along ≡ add_all (below counts number glyphs used) along₀
  joining_done {used} {along₀} {along} {before} {from} p h =
      let end : from ≡ used = omega (arith, p.within) in
      p.same ∙ ap (λ (n : ℕ). add_all (below counts number glyphs n) along₀) end

  pub joining_long : {used : ℕ} {along₀ along : List ℤ} {before from : ℕ} → Joining used along₀ along before from → length along ≡ length along₀
  joining_long {used} {along₀} {along} {before} {from} p = ap length p.same ∙ length-add_all (below counts number glyphs from) along₀

  pub joining_small : (all : (left right : ℕ) → Sized (number left right)) {used : ℕ} {along₀ along : List ℤ} {before from : ℕ}
      → Joining used along₀ along before from → used ≤ room_limit → Within (2 ^ 60) along₀ → Within (2 ^ 61) along
  joining_small all {used} {along₀} {along} {before} {from} p h w =
      subst (Within (2 ^ 61)) (sym p.same) (within_more (omega arith) (within-below counts number glyphs all from along₀ (omega (arith, p.within)) w))

pub worked-within : (bytes : List ℕ) (opened : Result PairTable Unready) (glyphs : List ℕ) (used : ℕ) (rule : PairRule) {b : ℕ} (along : List ℤ) → used ≤ room_limit → Within b along
    → Within (b + 2 ^ 39) (add_all (worked_by bytes opened glyphs used rule).additions along)
unfolding worked_by
worked-within bytes (Ok pairs) glyphs used rule along h w =
    within-below (counts rule glyphs) (pair_number bytes pairs) glyphs (sized bytes pairs) used along h w
worked-within bytes (Err why) glyphs used rule along h w = within_more (omega arith) (subst (Within _) (sym (add_all-none along)) w)
