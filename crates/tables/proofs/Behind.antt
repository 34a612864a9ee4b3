-- More bytes behind a table change nothing for a search or a lookup that was not cut short without them.
use Rattle.std.specs.Prelude.{Option, Some, Result, Ok, Err, None}
use Rattle.tables.specs.declared.lookup.Why.{Why}
use Prim.Native.Nat.{ℕ, zero, suc, ◌+◌, ◌-◌, ◌*◌, ◌<◌, ◌≤◌}
use mathlib.Core.Path.{◌≡◌, refl, sym, ◌∙◌}
use mathlib.Core.List.{List}
use mathlib.Core.Logic.{⊎_elim}
use native.Mathlib.Omega.{arith}
use lib.Dec.{ltb, eqb}
use Rattle.laws.specs.Choose.{if_lt, if_eq}
use Rattle.laws.proofs.Numbers.{lt-or-ge}
use Rattle.parse.specs.Reads.{read_u8, read_u16}
use Rattle.parse.specs.Use.{on_u16}
use Rattle.parse.proofs.Behind.{Begins, Stays, choice_stays, read_u8_stays, read_u16_stays, on_u16_stays, on_u32_stays}
use Rattle.tables.specs.Records.{record_place, pair_place, format_of}
use Rattle.tables.specs.Search.{against, side_of_range, side_of_array, side_of_single, side_of_pair, side_of_record, side_of, find, searched}
use Rattle.tables.specs.Lookup.{element_at, element_of, element_in, in_records, trimmed_at, in_format, lookup_at}
use Rattle.tables.specs.Units.{byte_units, sized_units, units_by, byte_found, byte_at, in_units, lookup_by}
use Rattle.tables.specs.declared.records.Format.{Format}
use Rattle.tables.specs.declared.records.Format.TheVariants.{Simple, Records, Trimmed, Unknown}
use Rattle.tables.specs.declared.records.Keys.{Keys}
use Rattle.tables.specs.declared.records.Keys.TheVariants.{Glyphs, Pairs}
use Rattle.tables.specs.declared.records.Kind.{Kind}
use Rattle.tables.specs.declared.records.Kind.TheVariants.{Ranges, Arrays, Singles}
use Rattle.tables.specs.declared.records.Side.{Side}
use Rattle.tables.specs.declared.records.Side.TheVariants as Side'
use Rattle.tables.specs.declared.records.Spot.{Spot}
use Rattle.tables.specs.declared.records.Spot.TheVariants as Spot'
use Rattle.tables.specs.declared.lookup.Why.TheVariants.{NotCovered, CutShort, UnknownFormat}
use Rattle.tables.specs.declared.units.Reading.{Reading}
use Rattle.tables.specs.declared.units.Reading.TheVariants.{Crate, Manual}
use Rattle.tables.specs.declared.units.Units.{Units}
use Rattle.tables.specs.declared.units.Units.TheVariants.{Words, Bytes}
use Rattle.tables.proofs.Halving.{middle, find-left, find_right, find-here, find-cut, find-done}

find_none : (side : ℕ → Side) (lo hi : ℕ) → find side 0 lo hi ≡ Spot'.Absent
unfolding find
find_none side lo hi = refl

-- the search by halves, by sides that stay
module _ (side side' : ℕ → Side) (stays : (i : ℕ) → Stays Side'.Cut (side i) (side' i)) where
  -- one turn, where the search stays with fewer
  module _ (turns lo hi : ℕ) (again : (l h : ℕ) → Stays Spot'.Cut (find side turns l h) (find side' turns l h)) (h : lo < hi)
      (not : find side (suc turns) lo hi ≡ Spot'.Cut → ⊥) where
    turn_stays : (here : Side) → side (middle lo hi) ≡ here → find side' (suc turns) lo hi ≡ find side (suc turns) lo hi
    turn_stays Side'.Left e =
        let f = stays (middle lo hi) (λ p. let z : ◌≡◌ {A = ℕ} 0 1 = cc in omega arith) ∙ e in
        find-left side' turns lo hi h f ∙ again lo (middle lo hi) (λ p. not (find-left side turns lo hi h e ∙ p)) ∙ sym (find-left side turns lo hi h e)
    turn_stays Side'.Right e =
        let f = stays (middle lo hi) (λ p. let z : ◌≡◌ {A = ℕ} 0 1 = cc in omega arith) ∙ e in
        find_right side' turns lo hi h f ∙ again (middle lo hi + 1) hi (λ p. not (find_right side turns lo hi h e ∙ p)) ∙ sym (find_right side turns lo hi h e)
    turn_stays Side'.Here e =
        let f = stays (middle lo hi) (λ p. let z : ◌≡◌ {A = ℕ} 0 1 = cc in omega arith) ∙ e in
        find-here side' turns lo hi h f ∙ sym (find-here side turns lo hi h e)
    turn_stays Side'.Cut e = absurd (not (find-cut side turns lo hi h e))

  find_stays : (turns lo hi : ℕ) → Stays Spot'.Cut (find side turns lo hi) (find side' turns lo hi)
  find_stays zero lo hi not = find_none side' lo hi ∙ sym (find_none side lo hi)
  find_stays (suc turns) lo hi not =
      ⊎_elim
      (λ (h : lo < hi). turn_stays turns lo hi (find_stays turns) h not (side (middle lo hi)) refl)
      (λ (h : hi ≤ lo). find-done side' (suc turns) lo hi h ∙ sym (find-done side (suc turns) lo hi h))
      (lt-or-ge lo hi)

same_stays : {A : Type 0} (failed x : A) → Stays failed x x
same_stays failed x not = refl

module _ {own whole : List ℕ} (b : Begins own whole) where
  range_stays : (place key : ℕ) → Stays Side'.Cut (side_of_range own place key) (side_of_range whole place key)
  unfolding side_of_range
  range_stays place key =
      on_u16_stays b place _ _
      (λ last. choice_stays (ltb last key) (same_stays Side'.Cut Side'.Right)
      (on_u16_stays b (place + 2) _ _ (λ first. same_stays Side'.Cut (if_lt key first Side'.Left Side'.Here))))

  array_stays : (place key : ℕ) → Stays Side'.Cut (side_of_array own place key) (side_of_array whole place key)
  unfolding side_of_array
  array_stays place key =
      on_u16_stays b (place + 2) _ _ (λ first. on_u16_stays b place _ _ (λ last. same_stays Side'.Cut (against key first last)))

  single_stays : (place key : ℕ) → Stays Side'.Cut (side_of_single own place key) (side_of_single whole place key)
  unfolding side_of_single
  single_stays place key = on_u16_stays b place _ _ (λ glyph. same_stays Side'.Cut (against key glyph glyph))

  pair_stays : (place key : ℕ) → Stays Side'.Cut (side_of_pair own place key) (side_of_pair whole place key)
  unfolding side_of_pair
  pair_stays place key = on_u32_stays b place _ _ (λ pair. same_stays Side'.Cut (against key pair pair))

  side_stays : (base : ℕ) (keys : Keys) (key i : ℕ) → Stays Side'.Cut (side_of own base keys key i) (side_of whole base keys key i)
  unfolding side_of side_of_record
  side_stays base (Glyphs Ranges) key i = range_stays (record_place base Ranges i) key
  side_stays base (Glyphs Arrays) key i = array_stays (record_place base Arrays i) key
  side_stays base (Glyphs Singles) key i = single_stays (record_place base Singles i) key
  side_stays base Pairs key i = pair_stays (pair_place base i) key

  pub search_stays : (base : ℕ) (keys : Keys) (count key : ℕ) → Stays Spot'.Cut (searched own base keys count key) (searched whole base keys count key)
  unfolding searched
  search_stays base keys count key = find_stays (side_of own base keys key) (side_of whole base keys key) (side_stays base keys key) count 0 count

  abbrev Finds : (own whole : Result ℕ Why) → Type 0
  Finds own whole = Stays (Err CutShort) own whole

  element_stays : (place : ℕ) → Finds (element_at own place) (element_at whole place)
  unfolding element_at
  element_stays place = on_u16_stays b place _ _ (λ n. same_stays (Err CutShort) (Ok n))

  record_stays : (kind : Kind) (place glyph : ℕ) → Finds (element_of own kind place glyph) (element_of whole kind place glyph)
  unfolding element_of
  record_stays Ranges place glyph = element_stays (place + 4)
  record_stays Singles place glyph = element_stays (place + 2)
  record_stays Arrays place glyph =
      on_u16_stays b (place + 2) _ _ (λ first. on_u16_stays b (place + 4) _ _ (λ offset. element_stays (offset + (glyph - first) * 2)))

  spot_stays : (kind : Kind) (glyph : ℕ) (spot spot' : Spot) → Stays Spot'.Cut spot spot' → Finds (element_in own kind glyph spot) (element_in whole kind glyph spot')
  unfolding element_in
  spot_stays kind glyph (Spot'.At i) spot' e not =
      rw (e (λ p. let z : ◌≡◌ {A = ℕ} 0 1 = cc in omega arith)) (record_stays kind (record_place 12 kind i) glyph not)
  spot_stays kind glyph Spot'.Absent spot' e not = rw (e (λ p. let z : ◌≡◌ {A = ℕ} 0 1 = cc in omega arith))
  spot_stays kind glyph Spot'.Cut spot' e not = absurd (not refl)

  records_stay : (kind : Kind) (glyph : ℕ) → Finds (in_records own kind glyph) (in_records whole kind glyph)
  unfolding in_records
  records_stay kind glyph = on_u16_stays b 4 _ _ (λ count. spot_stays kind glyph _ _ (search_stays 12 (Glyphs kind) count glyph))

  trimmed_stays : (head glyph : ℕ) → Finds (trimmed_at own head glyph) (trimmed_at whole head glyph)
  unfolding trimmed_at
  trimmed_stays head glyph =
      on_u16_stays b head _ _
      (λ first. on_u16_stays b (head + 2) _ _
      (λ count. choice_stays (ltb glyph first) (same_stays (Err CutShort) (Err NotCovered))
      (choice_stays (ltb (glyph - first) count) (element_stays (head + 4 + (glyph - first) * 2)) (same_stays (Err CutShort) (Err NotCovered)))))

  format_stays : (format : Format) (glyph : ℕ) → Finds (in_format own format glyph) (in_format whole format glyph)
  unfolding in_format
  format_stays Simple glyph = element_stays (2 + glyph * 2)
  format_stays (Records kind) glyph = records_stay kind glyph
  format_stays (Trimmed head) glyph = trimmed_stays head glyph
  format_stays Unknown glyph = same_stays (Err CutShort) (Err UnknownFormat)

  words_stay : (glyph : ℕ) → Finds (lookup_at own glyph) (lookup_at whole glyph)
  unfolding lookup_at
  words_stay glyph = on_u16_stays b 0 _ _ (λ number. format_stays (format_of number) glyph)

  -- the elements of format 10 in the manual's reading
  bytes_stay : Stays (Err CutShort) (byte_units own) (byte_units whole)
  unfolding byte_units
  bytes_stay = on_u16_stays b 4 _ _ (λ first. on_u16_stays b 6 _ _ (λ count. same_stays (Err CutShort) (Ok (Bytes first count))))

  sizes_stay : Stays (Err CutShort) (sized_units own) (sized_units whole)
  unfolding sized_units
  sizes_stay =
      on_u16_stays b 2 _ _
      (λ size. choice_stays (eqb size 1) bytes_stay (choice_stays (eqb size 2) (same_stays (Err CutShort) (Ok Words)) (same_stays (Err CutShort) (Err UnknownFormat))))

  byte_stays : (place : ℕ) → Finds (byte_at own place) (byte_at whole place)
  unfolding byte_at
  byte_stays place = go (read_u8 own place) (read_u8_stays b place)
    where
      go : (r : Option ℕ) → Stays None r (read_u8 whole place) → Finds (byte_found r) (byte_found (read_u8 whole place))
      go (Some n) e not = rw (e (λ p. let z : ◌≡◌ {A = ℕ} 0 1 = cc in omega arith))
      go None e not = absurd (not refl)

  units_stay : (units units' : Result Units Why) (glyph : ℕ) → Stays (Err CutShort) units units' → Finds (in_units own units glyph) (in_units whole units' glyph)
  unfolding in_units
  units_stay (Ok Words) units' glyph e not = rw (e (λ p. let z : ◌≡◌ {A = ℕ} 0 1 = cc in omega arith)) (words_stay glyph not)
  units_stay (Ok (Bytes first count)) units' glyph e not =
      rw (e (λ p. let z : ◌≡◌ {A = ℕ} 0 1 = cc in omega arith))
      (choice_stays (ltb glyph first) (same_stays (Err CutShort) (Err NotCovered))
      (choice_stays (ltb (glyph - first) count) (byte_stays (8 + (glyph - first))) (same_stays (Err CutShort) (Err NotCovered))) not)
  units_stay (Err CutShort) units' glyph e not = absurd (not refl)
  units_stay (Err NotCovered) units' glyph e not = rw (e (λ p. let z : ◌≡◌ {A = ℕ} 0 1 = cc in omega arith))
  units_stay (Err UnknownFormat) units' glyph e not = rw (e (λ p. let z : ◌≡◌ {A = ℕ} 0 1 = cc in omega arith))

  -- a lookup by either reading
  lookup-cut : (glyph : ℕ) → read_u16 own 0 ≡ None → lookup_at own glyph ≡ Err CutShort
  unfolding lookup_at
  lookup-cut glyph e = rw e

  manual_stays : (glyph : ℕ) → Finds (lookup_by Manual own glyph) (lookup_by Manual whole glyph)
  unfolding lookup_by units_by in_units
  manual_stays glyph = go (read_u16 own 0) refl (read_u16_stays b 0)
    where
      by_format : Option ℕ → List ℕ → Result Units Why
      by_format r bytes = on_u16 r (λ format. if_eq format 10 (sized_units bytes) (Ok Words)) (Ok Words)

      go : (r : Option ℕ) → read_u16 own 0 ≡ r → Stays None r (read_u16 whole 0) → Finds (in_units own (by_format r own) glyph) (in_units whole (by_format (read_u16 whole 0) whole) glyph)
      go (Some format) q e not =
          rw (e (λ p. let z : ◌≡◌ {A = ℕ} 0 1 = cc in omega arith))
          (units_stay _ _ glyph (choice_stays (eqb format 10) sizes_stay (same_stays (Err CutShort) (Ok Words))) not)
      go None q e not = absurd (not (lookup-cut glyph q))

  pub lookup_stays : (reading : Reading) (glyph : ℕ) → Stays (Err CutShort) (lookup_by reading own glyph) (lookup_by reading whole glyph)
  unfolding lookup_by units_by in_units
  lookup_stays Crate glyph = words_stay glyph
  lookup_stays Manual glyph = manual_stays glyph
