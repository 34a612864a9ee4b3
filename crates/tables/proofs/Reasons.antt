-- Why a lookup finds nothing is what it says: unknown format, cut short by a read that fails, or not covered.
use Rattle.std.specs.Prelude.{Option, Some, None, Result, Ok, Err}
use Prim.Native.Nat.{ℕ, zero, suc, ◌+◌, ◌-◌, ◌*◌, ◌<◌, ◌≤◌}
use mathlib.Core.Path.{◌≡◌, refl, sym, ◌∙◌, ap, subst, subst⁻¹}
use mathlib.Core.Bool.{Bool, true, false, cond}
use mathlib.Core.List.{List, [], ◌∷◌}
use mathlib.Core.Logic.{◌⊎◌, ⊎_elim, inl, inr}
use native.Mathlib.Omega.{arith}
use lib.Dec.{ltb}
use lib.ListN.{length, drop}
use borrow.Author.Tests.{lt-ltb, le-ltb, ne_eqb}
use Rattle.laws.specs.Choose.{if_lt}
use Rattle.laws.proofs.Numbers.{lt-or-ge}
use Rattle.answers.specs.Limits.{table_limit}
use Rattle.answers.specs.Refuse.{refuse, table_test}
use Rattle.parse.specs.Reads.{u16_at, read_u16}
use Rattle.parse.specs.Use.{on_u16}
use Rattle.parse.proofs.Laws.{read_u16_got, read_u16-short}
use Rattle.tables.specs.Records.{record_place, format_of}
use Rattle.tables.specs.Search.{side_of, side_of_record, side_of_range, side_of_array, side_of_single, find, searched}
use Rattle.tables.specs.Lookup.{element_at, element_of, element_in, in_records, trimmed_at, in_format, lookup_at, reply_of, lookup_reply}
use Rattle.tables.specs.Survey.{survey_at}
use Rattle.tables.specs.Order.{Holds, TheOne, first_of, last_of}
use Rattle.tables.specs.ManualLookup.{segments, segment_arrays, singles, Layout, simple_array, units, trimmed_array, extended_trimmed_array, format_number}
use Rattle.tables.specs.Reasons.{reading, turn_reads, element_reads, search_reads, format_reads, lookup_reads, SomeFails, NoneOfSix, Because}
use Rattle.tables.specs.declared.records.Format.{Format}
use Rattle.tables.specs.declared.records.Format.TheVariants.{Simple, Records, Trimmed, Unknown}
use Rattle.tables.specs.declared.records.Keys.TheVariants.{Glyphs}
use Rattle.tables.specs.declared.records.Kind.{Kind}
use Rattle.tables.specs.declared.records.Kind.TheVariants.{Ranges, Arrays, Singles}
use Rattle.tables.specs.declared.records.Side.{Side}
use Rattle.tables.specs.declared.records.Side.TheVariants as Side'
use Rattle.tables.specs.declared.records.Spot.{Spot}
use Rattle.tables.specs.declared.records.Spot.TheVariants as Spot'
use Rattle.tables.specs.declared.survey.Surveyed.TheVariants.{Sorted}
use Rattle.tables.specs.declared.lookup.Why.{Why}
use Rattle.tables.specs.declared.lookup.Why.TheVariants.{NotCovered, CutShort, UnknownFormat}
use Rattle.tables.proofs.Halving.{middle, find-left, find_right, find-here, find-cut}
use Rattle.tables.proofs.Finding.{search_finds}
use Rattle.tables.proofs.ManualLookup.{passed}

module _ (bytes : List ℕ) where
  -- what is found by these reads: it is cut short exactly when one fails, and the format is known
  record ByReads (found : Result ℕ Why) (places : List ℕ) : Type 0 where
    cut : found ≡ Err CutShort → SomeFails bytes places
    fails : SomeFails bytes places → found ≡ Err CutShort
    known : found ≡ Err UnknownFormat → ⊥

  by_none : ByReads (Err NotCovered) []
  unfolding SomeFails
  by_none =
      record {
        cut = λ e. let z : ◌≡◌ {A = ℕ} 0 1 = cc in absurd (omega arith);
        fails = λ f. absurd f;
        known = λ e. let z : ◌≡◌ {A = ℕ} 0 1 = cc in absurd (omega arith);
      }

  by_found : (element : ℕ) → ByReads (Ok element) []
  unfolding SomeFails
  by_found element =
      record {
        cut = λ e. let z : ◌≡◌ {A = ℕ} 0 1 = cc in absurd (omega arith);
        fails = λ f. absurd f;
        known = λ e. let z : ◌≡◌ {A = ℕ} 0 1 = cc in absurd (omega arith);
      }

  -- what is made of the number at a place, and of a choice, in any type from which an answer is made
  by_reading : {A : Type 0} (answer : A → Result ℕ Why) (cut : A) → answer cut ≡ Err CutShort → (place : ℕ) (then : ℕ → A) (behind : ℕ → List ℕ)
      → (place + 2 ≤ length bytes → ByReads (answer (then (u16_at bytes place))) (behind (u16_at bytes place)))
      → ByReads (answer (on_u16 (read_u16 bytes place) then cut)) (reading bytes place behind)
  unfolding SomeFails
  by_reading answer cut cut-is place then behind next =
      ⊎_elim
      (λ (h : length bytes < place + 2).
      rw (read_u16-short bytes place h)
      (record {
        cut = λ e. inl h;
        fails = λ f. cut-is;
        known = λ e. let z : ◌≡◌ {A = ℕ} 0 1 = cc in absurd (omega arith);
      }))
      (λ (h : place + 2 ≤ length bytes).
      let n = next h in
      rw (read_u16_got bytes place h)
      (record {
        cut = λ e. inr (n.cut e);
        fails = λ f. ⊎_elim (λ (k : length bytes < place + 2). absurd (omega arith)) (λ s. n.fails s) f;
        known = n.known;
      }))
      (lt-or-ge (length bytes) (place + 2))

  by_choice : {A : Type 0} (answer : A → Result ℕ Why) (a b : ℕ) {x y : A} {xs ys : List ℕ} → ByReads (answer x) xs → ByReads (answer y) ys
      → ByReads (answer (if_lt a b x y)) (if_lt a b xs ys)
  by_choice answer a b {x} {y} {xs} {ys} p q = go (ltb a b)
    where
      go : (t : Bool) → ByReads (answer (cond t x y)) (cond t xs ys)
      go true = p
      go false = q

  by_element : (place : ℕ) → ByReads (element_at bytes place) (place ∷ [])
  unfolding element_at
  by_element place =
      subst (λ (places : List ℕ). ByReads (element_at bytes place) (place ∷ places)) (none-behind (read_u16 bytes place))
      (by_reading (λ (f : Result ℕ Why). f) (Err CutShort) refl place Ok (λ n. []) (λ h. by_found (u16_at bytes place)))
    where
      none-behind : (r : Option ℕ) → on_u16 {A = List ℕ} r (λ n. []) [] ≡ []
      none-behind (Some n) = refl
      none-behind None = refl

  -- in the array of a format 4 record whose first glyph is read already
  by_array : (place glyph : ℕ) → place + 2 + 2 ≤ length bytes → ByReads (element_of bytes Arrays place glyph) (element_reads bytes Arrays place glyph)
  unfolding element_of
  by_array place glyph h =
      rw (read_u16_got bytes (place + 2) h, element_of)
      (by_reading (λ (f : Result ℕ Why). f) (Err CutShort) refl (place + 4) (λ offset. element_at bytes (offset + (glyph - u16_at bytes (place + 2)) * 2)) _
      (λ k. by_element _))

  abbrev on_side : (left here right : Result ℕ Why) → Side → Result ℕ Why
  on_side left here right Side'.Left = left
  on_side left here right Side'.Here = here
  on_side left here right Side'.Right = right
  on_side left here right Side'.Cut = Err CutShort

  by_turn : (kind : Kind) (glyph i : ℕ) {left right : (Result ℕ Why)} {lefts rights : List ℕ} → ByReads left lefts → ByReads right rights
      → ByReads (on_side left (element_of bytes kind (record_place 12 kind i) glyph) right (side_of bytes 12 (Glyphs kind) glyph i))
      (turn_reads bytes kind (record_place 12 kind i) glyph lefts (element_reads bytes kind (record_place 12 kind i) glyph) rights)
  unfolding side_of side_of_record side_of_range side_of_array side_of_single element_of
  by_turn Ranges glyph i {left} {right} l r =
      let place : ℕ = record_place 12 Ranges i in
      let side : Side → (Result ℕ Why) = on_side left (element_at bytes (place + 4)) right in
      by_reading side Side'.Cut refl place _ _
      (λ h. by_choice side (u16_at bytes place) glyph r
      (by_reading side Side'.Cut refl (place + 2) _ _ (λ k. by_choice side glyph (u16_at bytes (place + 2)) l (by_element (place + 4)))))
  by_turn Arrays glyph i {left} {right} l r =
      let place : ℕ = record_place 12 Arrays i in
      let side : Side → (Result ℕ Why) = on_side left (element_of bytes Arrays place glyph) right in
      by_reading side Side'.Cut refl (place + 2) _ _
      (λ h. by_reading side Side'.Cut refl place _ _
      (λ k. by_choice side (u16_at bytes place) glyph r (by_choice side glyph (u16_at bytes (place + 2)) l (by_array place glyph h))))
  by_turn Singles glyph i {left} {right} l r =
      let place : ℕ = record_place 12 Singles i in
      let side : Side → (Result ℕ Why) = on_side left (element_at bytes (place + 2)) right in
      by_reading side Side'.Cut refl place _ _
      (λ h. by_choice side (u16_at bytes place) glyph r (by_choice side glyph (u16_at bytes place) l (by_element (place + 2))))

  by_search : (kind : Kind) (glyph turns lo hi : ℕ)
      → ByReads (element_in bytes kind glyph (find (side_of bytes 12 (Glyphs kind) glyph) turns lo hi)) (search_reads bytes kind glyph turns lo hi)
  unfolding find element_in search_reads
  by_search kind glyph zero lo hi = by_none
  by_search kind glyph (suc turns) lo hi =
      ⊎_elim
      (λ (h : lo < hi).
      subst⁻¹ (λ (f : Result ℕ Why). ByReads f (search_reads bytes kind glyph (suc turns) lo hi)) (turned h (side (middle lo hi)) refl)
      (rw (lt-ltb lo hi h, search_reads)
      (by_turn kind glyph (middle lo hi) (by_search kind glyph turns lo (middle lo hi)) (by_search kind glyph turns (middle lo hi + 1) hi))))
      (λ (h : hi ≤ lo). rw (le-ltb lo hi h, find, search_reads) by_none)
      (lt-or-ge lo hi)
    where
      side : ℕ → Side
      side = side_of bytes 12 (Glyphs kind) glyph

      turned : lo < hi → (s : Side) → side (middle lo hi) ≡ s
          → element_in bytes kind glyph (find side (suc turns) lo hi)
          ≡ on_side (element_in bytes kind glyph (find side turns lo (middle lo hi))) (element_of bytes kind (record_place 12 kind (middle lo hi)) glyph)
          (element_in bytes kind glyph (find side turns (middle lo hi + 1) hi)) s
      turned h Side'.Left e = ap (element_in bytes kind glyph) (find-left side turns lo hi h e)
      turned h Side'.Right e = ap (element_in bytes kind glyph) (find_right side turns lo hi h e)
      turned h Side'.Here e = ap (element_in bytes kind glyph) (find-here side turns lo hi h e)
      turned h Side'.Cut e = ap (element_in bytes kind glyph) (find-cut side turns lo hi h e)

  by_format_lem : (format : Format) (glyph : ℕ) → (format ≡ Unknown → ⊥) → ByReads (in_format bytes format glyph) (format_reads bytes format glyph)
  unfolding in_format in_records trimmed_at searched
  by_format_lem Simple glyph n = by_element (2 + glyph * 2)
  by_format_lem (Records kind) glyph n =
      by_reading (λ (f : Result ℕ Why). f) (Err CutShort) refl 4 _ _ (λ h. by_search kind glyph (u16_at bytes 4) 0 (u16_at bytes 4))
  by_format_lem (Trimmed head) glyph n =
      let id : Result ℕ Why → (Result ℕ Why) = λ f. f in
      let first : ℕ = u16_at bytes head in
      by_reading id (Err CutShort) refl head _ _
      (λ h. by_reading id (Err CutShort) refl (head + 2) _ _
      (λ k. by_choice id glyph first by_none
      (by_choice id (glyph - first) (u16_at bytes (head + 2)) (by_element (head + 4 + (glyph - first) * 2)) by_none)))
  by_format_lem Unknown glyph n = absurd (n refl)

-- the six formats are known, and no others
six_known : (layout : Layout) → format_of (format_number layout) ≡ Unknown → ⊥
unfolding format_of
six_known simple_array e = let z : ◌≡◌ {A = ℕ} 0 1 = cc in omega arith
six_known (units segments) e = let z : ◌≡◌ {A = ℕ} 0 1 = cc in omega arith
six_known (units segment_arrays) e = let z : ◌≡◌ {A = ℕ} 0 1 = cc in omega arith
six_known (units singles) e = let z : ◌≡◌ {A = ℕ} 0 1 = cc in omega arith
six_known trimmed_array e = let z : ◌≡◌ {A = ℕ} 0 1 = cc in omega arith
six_known extended_trimmed_array e = let z : ◌≡◌ {A = ℕ} 0 1 = cc in omega arith

others_unknown : (number : ℕ) → ((layout : Layout) → number ≡ format_number layout → ⊥) → format_of number ≡ Unknown
unfolding format_of
others_unknown number n =
    rw (
      ne_eqb number 0 (n simple_array),
      ne_eqb number 2 (n (units segments)),
      ne_eqb number 4 (n (units segment_arrays)),
      ne_eqb number 6 (n (units singles)),
      ne_eqb number 8 (n trimmed_array),
      ne_eqb number 10 (n extended_trimmed_array),
      format_of,
    )

unknown_or_not : (format : Format) → (format ≡ Unknown) ⊎ (format ≡ Unknown → ⊥)
unknown_or_not Simple = inr (λ e. let z : ◌≡◌ {A = ℕ} 0 1 = cc in omega arith)
unknown_or_not (Records kind) = inr (λ e. let z : ◌≡◌ {A = ℕ} 0 1 = cc in omega arith)
unknown_or_not (Trimmed head) = inr (λ e. let z : ◌≡◌ {A = ℕ} 0 1 = cc in omega arith)
unknown_or_not Unknown = inl refl

module _ (bytes : List ℕ) (glyph : ℕ) where
  -- of a table whose format is none of the six nothing more is read
  module _ (n : NoneOfSix bytes) where
    unknown_is : lookup_at bytes glyph ≡ Err UnknownFormat
    unfolding lookup_at in_format
    unknown_is = rw (read_u16_got bytes 0 n.0, others_unknown (u16_at bytes 0) n.1, lookup_at)

    unknown-whole : SomeFails bytes (lookup_reads bytes glyph) → ⊥
    unfolding lookup_reads SomeFails
    unknown-whole f =
        let g = rw (read_u16_got bytes 0 n.0, others_unknown (u16_at bytes 0) n.1, lookup_reads) at f in
        ⊎_elim (λ (h : length bytes < 0 + 2). omega (arith, n.0)) (λ (x : ⊥). x) g

  -- any other is found by its reads
  by_lookup : (NoneOfSix bytes → ⊥) → ByReads bytes (lookup_at bytes glyph) (lookup_reads bytes glyph)
  unfolding lookup_at lookup_reads
  by_lookup not =
      by_reading bytes (λ (f : Result ℕ Why). f) (Err CutShort) refl 0 _ _
      (λ h. by_format_lem bytes (format_of (u16_at bytes 0)) glyph
      (λ e. not (h, λ layout f. six_known layout (ap format_of (sym f) ∙ e))))

  unknown_decided : NoneOfSix bytes ⊎ (NoneOfSix bytes → ⊥)
  unknown_decided =
      ⊎_elim
      (λ (h : length bytes < 2). inr (λ n. omega (arith, n.0)))
      (λ (h : 2 ≤ length bytes).
      ⊎_elim
      (λ (e : format_of (u16_at bytes 0) ≡ Unknown). inl (h, λ layout f. six_known layout (ap format_of (sym f) ∙ e)))
      (λ (n : format_of (u16_at bytes 0) ≡ Unknown → ⊥). inr (λ u. n (others_unknown (u16_at bytes 0) u.1)))
      (unknown_or_not (format_of (u16_at bytes 0))))
      (lt-or-ge (length bytes) 2)

  abbrev Exact : Why → Type 0
  Exact why = (lookup_at bytes glyph ≡ Err why → Because bytes glyph why) × (Because bytes glyph why → lookup_at bytes glyph ≡ Err why)

  exact-unknown : NoneOfSix bytes → (why : Why) → Exact why
  unfolding Because
  exact-unknown n UnknownFormat = (λ e. n, λ b. unknown_is n)
  exact-unknown n CutShort =
      let u = unknown_is n in
      (λ e. let z : ◌≡◌ {A = ℕ} 0 1 = cc in absurd (omega arith), λ b. absurd (unknown-whole n b))
  exact-unknown n NotCovered =
      let u = unknown_is n in
      (λ e. let z : ◌≡◌ {A = ℕ} 0 1 = cc in absurd (omega arith), λ b. absurd (b.0 n))

  exact-known : (NoneOfSix bytes → ⊥) → (why : Why) → Exact why
  unfolding Because
  exact-known n UnknownFormat = (λ e. absurd ((by_lookup n).known e), λ b. absurd (n b))
  exact-known n CutShort = ((by_lookup n).cut, (by_lookup n).fails)
  exact-known n NotCovered = (
    λ e. (
      n,
      λ f. let c = (by_lookup n).fails f in let z : ◌≡◌ {A = ℕ} 0 1 = cc in omega arith,
      λ element f. let z : ◌≡◌ {A = ℕ} 0 1 = cc in omega arith,
    ),
    λ b. otherwise b (lookup_at bytes glyph) refl,
  )
    where
      otherwise : Because bytes glyph NotCovered → (found : Result ℕ Why) → lookup_at bytes glyph ≡ found → lookup_at bytes glyph ≡ Err NotCovered
      otherwise b (Ok element) e = absurd (b.2 element e)
      otherwise b (Err NotCovered) e = e
      otherwise b (Err CutShort) e = absurd (b.1 ((by_lookup n).cut e))
      otherwise b (Err UnknownFormat) e = absurd ((by_lookup n).known e)

  pub why_exact : (why : Why) → (lookup_at bytes glyph ≡ Err why → Because bytes glyph why) × (Because bytes glyph why → lookup_at bytes glyph ≡ Err why)
  why_exact why = ⊎_elim (λ n. exact-unknown n why) (λ n. exact-known n why) unknown_decided

-- the element of a record that holds the glyph is there, or cut short
element_covered : (bytes : List ℕ) (place : ℕ) → element_at bytes place ≡ Err NotCovered → ⊥
unfolding element_at
element_covered bytes place e = go (read_u16 bytes place) e
  where
    go : (r : Option ℕ) → on_u16 {A = (Result ℕ Why)} r Ok (Err CutShort) ≡ Err NotCovered → ⊥
    go (Some n) f = let z : ◌≡◌ {A = ℕ} 0 1 = cc in omega arith
    go None f = let z : ◌≡◌ {A = ℕ} 0 1 = cc in omega arith

record_covered : (bytes : List ℕ) (kind : Kind) (place glyph : ℕ) → element_of bytes kind place glyph ≡ Err NotCovered → ⊥
unfolding element_of
record_covered bytes Ranges place glyph e = element_covered bytes (place + 4) e
record_covered bytes Singles place glyph e = element_covered bytes (place + 2) e
record_covered bytes Arrays place glyph e = go (read_u16 bytes (place + 2)) (read_u16 bytes (place + 4)) e
  where
    go : (r s : Option ℕ)
        → on_u16 {A = (Result ℕ Why)} r (λ first. on_u16 {A = (Result ℕ Why)} s (λ offset. element_at bytes (offset + (glyph - first) * 2)) (Err CutShort)) (Err CutShort)
        ≡ Err NotCovered → ⊥
    go (Some first) (Some offset) f = element_covered bytes (offset + (glyph - first) * 2) f
    go (Some first) None f = let z : ◌≡◌ {A = ℕ} 0 1 = cc in omega arith
    go None s f = let z : ◌≡◌ {A = ℕ} 0 1 = cc in omega arith

-- on a table that the survey passes, not covered means that no record holds the glyph
module _ (bytes : List ℕ) (kind : Kind) (glyph : ℕ) {number : ℕ} (e : read_u16 bytes 0 ≡ Some number) (f : format_of number ≡ Records kind)
    (sorted : survey_at bytes ≡ Sorted) where
  abbrev NoneHolds : Type 0
  NoneHolds = (i : ℕ) → Holds (first_of bytes kind) (last_of bytes kind) (u16_at bytes 4) glyph i → ⊥

  pub uncovered-exact : (lookup_at bytes glyph ≡ Err NotCovered → NoneHolds) × (NoneHolds → lookup_at bytes glyph ≡ Err NotCovered)
  unfolding lookup_at in_format in_records element_in survey_at
  uncovered-exact =
      let (count, sizes, all) = passed bytes kind (sym (rw (e, f, survey_at)) ∙ sorted) in
      by (searched bytes 12 (Glyphs kind) (u16_at bytes 4) glyph) (rw (e, f, count, lookup_at)) (search_finds bytes kind (u16_at bytes 4) glyph all)
    where
      by : (s : Spot) → lookup_at bytes glyph ≡ element_in bytes kind glyph s → TheOne (first_of bytes kind) (last_of bytes kind) (u16_at bytes 4) glyph s
          → (lookup_at bytes glyph ≡ Err NotCovered → NoneHolds) × (NoneHolds → lookup_at bytes glyph ≡ Err NotCovered)
      by (Spot'.At i) h r = (λ n. absurd (record_covered bytes kind (record_place 12 kind i) glyph (sym h ∙ n)), λ none. absurd (none i r.0))
      by Spot'.Absent h r = (λ n. r, λ none. h)
      by Spot'.Cut h r = absurd r

-- the public answer passes the reason on
pub lookup_passes_on : (table : List ℕ) (start glyph : ℕ) → length table ≤ table_limit
    → lookup_reply table start glyph ≡ reply_of (lookup_at (drop start table) glyph)
unfolding lookup_reply refuse table_test
lookup_passes_on table start glyph h = rw (le-ltb table_limit (length table) h)
