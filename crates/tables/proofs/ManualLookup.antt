-- The element that a lookup reads is the manual's, in all six formats.
use Rattle.std.specs.Prelude.{Option, Some, None, Ok, Err}
use Prim.Native.Nat.{ℕ, ◌+◌, ◌-◌, ◌*◌, ◌<◌, ◌≤◌}
use mathlib.Core.Path.{◌≡◌, refl, sym, ◌∙◌, ap, subst, subst⁻¹}
use mathlib.Core.List.{List}
use mathlib.Core.Logic.{⊎_elim}
use native.Mathlib.Omega.{arith}
use lib.ListN.{length}
use borrow.Author.Tests.{lt-ltb, le-ltb}
use Rattle.laws.proofs.Numbers.{lt-or-ge}
use Rattle.parse.specs.Reads.{u16_at, read_u16}
use Rattle.parse.proofs.Laws.{read_u16_got, read_u16-short}
use Rattle.tables.specs.Records.{stride_of, record_place, first_at, last_at, format_of}
use Rattle.tables.specs.Search.{searched}
use Rattle.tables.specs.Survey.{survey_in, survey_at}
use Rattle.tables.specs.Order.{Good, InOrder, Says, Holds, TheOne, first_of, last_of}
use Rattle.tables.specs.Lookup.{element_at, element_of, element_in, in_records, trimmed_at, in_format, lookup_at}
use Rattle.tables.specs.ManualLookup.{Units, segments, segment_arrays, singles, Layout, simple_array, units, trimmed_array, extended_trimmed_array, format_number, unit_size, unit_count, unit_place, first_glyph, last_glyph, UnitHolds, element_place, Lies, Alike, AsManual}
use Rattle.tables.specs.declared.records.Format.TheVariants.{Records}
use Rattle.tables.specs.declared.records.Keys.TheVariants.{Glyphs}
use Rattle.tables.specs.declared.records.Kind.{Kind}
use Rattle.tables.specs.declared.records.Kind.TheVariants.{Ranges, Arrays, Singles}
use Rattle.tables.specs.declared.records.Spot.{Spot}
use Rattle.tables.specs.declared.records.Spot.TheVariants as Spot'
use Rattle.tables.specs.declared.survey.Surveyed.TheVariants.{Sorted, Nothing}
use Rattle.tables.specs.declared.lookup.Why.{Why}
use Rattle.tables.specs.declared.lookup.Why.TheVariants.{NotCovered, CutShort}
use Rattle.tables.proofs.Surveys.{same_size, says_in}
use Rattle.tables.proofs.Finding.{search_finds}

-- an element is there exactly when its two bytes are
element_there : (bytes : List ℕ) (place : ℕ) → place + 2 ≤ length bytes → element_at bytes place ≡ Ok (u16_at bytes place)
unfolding element_at
element_there bytes place h = rw (read_u16_got bytes place h, element_at)

element_found : (bytes : List ℕ) (place element : ℕ) → element_at bytes place ≡ Ok element
    → (place + 2 ≤ length bytes) × (element ≡ u16_at bytes place)
unfolding element_at
element_found bytes place element e =
    ⊎_elim
    (λ (h : length bytes < place + 2).
    let s = read_u16-short bytes place h in
    let n : Err CutShort ≡ Ok element = sym (rw (s, element_at)) ∙ e in
    let z : ◌≡◌ {A = ℕ} 0 1 = cc in absurd (omega arith))
    (λ (h : place + 2 ≤ length bytes). let t = element_there bytes place h in (h, cc))
    (lt-or-ge (length bytes) (place + 2))

module _ (bytes : List ℕ) (glyphs glyph : ℕ) (layout : Layout) where
  -- the lookup reads at the one place where the element lies
  one_place : (at : ℕ) → lookup_at bytes glyph ≡ element_at bytes at → Lies bytes glyphs glyph layout at
      → ((place : ℕ) → Lies bytes glyphs glyph layout place → place ≡ at) → AsManual bytes glyphs glyph layout
  one_place at e lies only =
      record {
        found = λ element f.
            let (h, v) = element_found bytes at element (sym e ∙ f) in
            (at, lies, h, v);
        there = λ place l h.
            let p = only place l in
            e ∙ subst (λ (n : ℕ). element_at bytes n ≡ Ok (u16_at bytes place)) p (element_there bytes place h);
      }

  -- the lookup finds nothing, and no element lies in the table
  no_place : (why : Why) → lookup_at bytes glyph ≡ Err why
      → ((place : ℕ) → Lies bytes glyphs glyph layout place → place + 2 ≤ length bytes → ⊥) → AsManual bytes glyphs glyph layout
  no_place why e none =
      record {
        found = λ element f. let z : ◌≡◌ {A = ℕ} 0 1 = cc in absurd (omega arith);
        there = λ place l h. absurd (none place l h);
      }

-- format 0
simple_as_manual : (bytes : List ℕ) (glyphs glyph : ℕ) → read_u16 bytes 0 ≡ Some 0 → glyph < glyphs → AsManual bytes glyphs glyph simple_array
unfolding lookup_at in_format format_of Lies
simple_as_manual bytes glyphs glyph e h =
    one_place bytes glyphs glyph simple_array (2 + glyph * 2) (rw (e, lookup_at)) (h, refl) (λ place l. l.1)

-- formats 8 and 10, by where first and count stand
module _ (bytes : List ℕ) (glyphs glyph head : ℕ) (layout : Layout) where
  abbrev Spanned : ℕ → Type 0
  Spanned place =
      ((u16_at bytes head ≤ glyph) × (glyph < u16_at bytes head + u16_at bytes (head + 2)))
      × (place ≡ head + 4 + (glyph - u16_at bytes head) * 2)

  trimmed_as_manual : lookup_at bytes glyph ≡ trimmed_at bytes head glyph
      → ((place : ℕ) → Lies bytes glyphs glyph layout place → Spanned place)
      → ((place : ℕ) → Spanned place → Lies bytes glyphs glyph layout place) → AsManual bytes glyphs glyph layout
  unfolding trimmed_at
  trimmed_as_manual e out in' =
      ⊎_elim
      (λ (h : length bytes < head + 4).
      no_place bytes glyphs glyph layout CutShort (e ∙ short h)
      (λ place l k. let s = (out place l).1 in omega (arith, s)))
      (λ (h : head + 4 ≤ length bytes).
      ⊎_elim
      (λ (p : glyph < u16_at bytes head).
      no_place bytes glyphs glyph layout NotCovered
      (e ∙ rw (got h, got2 h, lt-ltb glyph (u16_at bytes head) p, trimmed_at))
      (λ place l k. let s = (out place l).0.0 in omega (arith, s)))
      (λ (p : u16_at bytes head ≤ glyph).
      ⊎_elim
      (λ (q : glyph - u16_at bytes head < u16_at bytes (head + 2)).
      one_place bytes glyphs glyph layout (head + 4 + (glyph - u16_at bytes head) * 2)
      (e ∙ rw (got h, got2 h, le-ltb glyph (u16_at bytes head) p, lt-ltb (glyph - u16_at bytes head) (u16_at bytes (head + 2)) q, trimmed_at))
      (in' _ ((p, omega arith), refl))
      (λ place l. (out place l).1))
      (λ (q : u16_at bytes (head + 2) ≤ glyph - u16_at bytes head).
      no_place bytes glyphs glyph layout NotCovered
      (e ∙ rw (got h, got2 h, le-ltb glyph (u16_at bytes head) p, le-ltb (glyph - u16_at bytes head) (u16_at bytes (head + 2)) q, trimmed_at))
      (λ place l k. let s = (out place l).0.1 in omega (arith, s)))
      (lt-or-ge (glyph - u16_at bytes head) (u16_at bytes (head + 2))))
      (lt-or-ge glyph (u16_at bytes head)))
      (lt-or-ge (length bytes) (head + 4))
    where
      got : head + 4 ≤ length bytes → read_u16 bytes head ≡ Some (u16_at bytes head)
      got h = read_u16_got bytes head (omega arith)

      got2 : head + 4 ≤ length bytes → read_u16 bytes (head + 2) ≡ Some (u16_at bytes (head + 2))
      got2 h = read_u16_got bytes (head + 2) (omega arith)

      short : length bytes < head + 4 → trimmed_at bytes head glyph ≡ Err CutShort
      short h = go (read_u16 bytes head) refl
        where
          go : (r : Option ℕ) → read_u16 bytes head ≡ r → trimmed_at bytes head glyph ≡ Err CutShort
          go None f = rw (f, trimmed_at)
          go (Some n) f = rw (f, read_u16-short bytes (head + 2) (omega arith), trimmed_at)

-- formats 2, 4 and 6: the manual's units are the crate's records
kind_of : Units → Kind
kind_of segments = Ranges
kind_of segment_arrays = Arrays
kind_of singles = Singles

module _ (bytes : List ℕ) where
  same_first : (u : Units) (place : ℕ) → first_glyph bytes u place ≡ first_at bytes (kind_of u) place
  unfolding kind_of
  same_first segments place = refl
  same_first segment_arrays place = refl
  same_first singles place = refl

  same-last : (u : Units) (place : ℕ) → last_glyph bytes u place ≡ last_at bytes place
  same-last segments place = refl
  same-last segment_arrays place = refl
  same-last singles place = refl

module _ (bytes : List ℕ) (u : Units) (glyph : ℕ) (sizes : unit_size bytes ≡ stride_of (kind_of u)) where
  same_place : (i : ℕ) → unit_place bytes i ≡ record_place 12 (kind_of u) i
  same_place i = ap (λ (n : ℕ). 12 + i * n) sizes

  first-is : (i : ℕ) → first_glyph bytes u (unit_place bytes i) ≡ first_of bytes (kind_of u) i
  first-is i = same_first bytes u (unit_place bytes i) ∙ ap (first_at bytes (kind_of u)) (same_place i)

  last_is : (i : ℕ) → last_glyph bytes u (unit_place bytes i) ≡ last_of bytes (kind_of u) i
  last_is i = same-last bytes u (unit_place bytes i) ∙ ap (last_at bytes) (same_place i)

  to_record : (i : ℕ) → UnitHolds bytes u glyph i → Holds (first_of bytes (kind_of u)) (last_of bytes (kind_of u)) (unit_count bytes) glyph i
  to_record i h =
      record {
        counted = h.counted;
        above = subst (λ (n : ℕ). n ≤ glyph) (first-is i) h.above;
        below = subst (λ (n : ℕ). glyph ≤ n) (last_is i) h.below;
      }

  -- below 0xFFFF none is a sentinel
  to_unit : glyph < 65535 → (i : ℕ) → Holds (first_of bytes (kind_of u)) (last_of bytes (kind_of u)) (unit_count bytes) glyph i → UnitHolds bytes u glyph i
  to_unit small i r =
      let low : first_glyph bytes u (unit_place bytes i) ≤ glyph = subst⁻¹ (λ (n : ℕ). n ≤ glyph) (first-is i) r.above in
      record {
        counted = r.counted;
        above = low;
        below = subst⁻¹ (λ (n : ℕ). glyph ≤ n) (last_is i) r.below;
        real = λ f l. omega (arith, low, f, small);
      }

-- the element of a record that lies in the table is read where the manual says
element_of_lem : (bytes : List ℕ) (u : Units) (glyph i : ℕ) → Good bytes (kind_of u) i
    → element_of bytes (kind_of u) (record_place 12 (kind_of u) i) glyph ≡ element_at bytes (element_place bytes u glyph (record_place 12 (kind_of u) i))
unfolding kind_of element_of
element_of_lem bytes segments glyph i g = refl
element_of_lem bytes singles glyph i g = refl
element_of_lem bytes segment_arrays glyph i g =
    rw (
      read_u16_got bytes (record_place 12 Arrays i + 2) (omega (arith, g.whole)),
      read_u16_got bytes (record_place 12 Arrays i + 4) (omega (arith, g.whole)),
      element_of,
    )

module _ (bytes : List ℕ) (glyphs glyph : ℕ) (u : Units) (e : lookup_at bytes glyph ≡ in_records bytes (kind_of u) glyph)
    (sizes : unit_size bytes ≡ stride_of (kind_of u)) (small : glyph < 65535) (count : read_u16 bytes 4 ≡ Some (unit_count bytes))
    (all : InOrder bytes (kind_of u) (unit_count bytes)) where
  abbrev kind : Kind
  kind = kind_of u

  units_as_manual : AsManual bytes glyphs glyph (units u)
  unfolding in_records element_in Lies
  units_as_manual = go (searched bytes 12 (Glyphs kind) (unit_count bytes) glyph) refl
    where
      found_is : (s : Spot) → searched bytes 12 (Glyphs kind) (unit_count bytes) glyph ≡ s → lookup_at bytes glyph ≡ element_in bytes kind glyph s
      found_is s f = e ∙ rw (count, f, in_records)

      right : (s : Spot) → searched bytes 12 (Glyphs kind) (unit_count bytes) glyph ≡ s → TheOne (first_of bytes kind) (last_of bytes kind) (unit_count bytes) glyph s
      right s f = subst (TheOne (first_of bytes kind) (last_of bytes kind) (unit_count bytes) glyph) f (search_finds bytes kind (unit_count bytes) glyph all)

      go : (s : Spot) → searched bytes 12 (Glyphs kind) (unit_count bytes) glyph ≡ s → AsManual bytes glyphs glyph (units u)
      go Spot'.Cut f = absurd (right Spot'.Cut f)
      go Spot'.Absent f =
          no_place bytes glyphs glyph (units u) NotCovered (found_is Spot'.Absent f)
          (λ place l h. right Spot'.Absent f l.0 (to_record bytes u glyph sizes l.0 l.1))
      go (Spot'.At i) f =
          let r = right (Spot'.At i) f in
          let at = element_place bytes u glyph (record_place 12 kind i) in
          one_place bytes glyphs glyph (units u) at
          (found_is (Spot'.At i) f ∙ element_of_lem bytes u glyph i (all i r.0.counted))
          (i, to_unit bytes u glyph sizes small i r.0, ap (element_place bytes u glyph) (sym (same_place bytes u glyph sizes i)))
          (λ place l.
          l.2
          ∙ ap (λ (j : ℕ). element_place bytes u glyph (unit_place bytes j)) (r.1 l.0 (to_record bytes u glyph sizes l.0 l.1))
          ∙ ap (element_place bytes u glyph) (same_place bytes u glyph sizes i))

-- a survey that passes has read the count, found the unit size that the records have, and all of them in order
pub passed : (bytes : List ℕ) (kind : Kind) → survey_in bytes (Records kind) ≡ Sorted
    → (read_u16 bytes 4 ≡ Some (unit_count bytes)) × (unit_size bytes ≡ stride_of kind) × InOrder bytes kind (unit_count bytes)
unfolding survey_in
passed bytes kind e =
    ⊎_elim
    (λ (h : length bytes < 6).
    let s = read_u16-short bytes 4 (omega arith) in
    let n : survey_in bytes (Records kind) ≡ Nothing = rw (s, survey_in) in
    let z : ◌≡◌ {A = ℕ} 0 1 = cc in absurd (omega arith))
    (λ (h : 6 ≤ length bytes).
    let p = subst (Says bytes kind) e (says_in bytes kind h) in
    (read_u16_got bytes 4 (omega arith), p.0 ∙ sym (same_size kind), p.1))
    (lt-or-ge (length bytes) 6)

survey_of : (bytes : List ℕ) (u : Units) → read_u16 bytes 0 ≡ Some (format_number (units u)) → survey_at bytes ≡ survey_in bytes (Records (kind_of u))
unfolding kind_of survey_at format_of
survey_of bytes segments e = rw (e, survey_at)
survey_of bytes segment_arrays e = rw (e, survey_at)
survey_of bytes singles e = rw (e, survey_at)

records_of_lem : (bytes : List ℕ) (u : Units) (glyph : ℕ) → read_u16 bytes 0 ≡ Some (format_number (units u)) → lookup_at bytes glyph ≡ in_records bytes (kind_of u) glyph
unfolding kind_of lookup_at in_format format_of
records_of_lem bytes segments glyph e = rw (e, lookup_at)
records_of_lem bytes segment_arrays glyph e = rw (e, lookup_at)
records_of_lem bytes singles glyph e = rw (e, lookup_at)

-- in every format, where crate and manual read alike
pub lookup_as_manual : (layout : Layout) (bytes : List ℕ) (glyphs glyph : ℕ) → read_u16 bytes 0 ≡ Some (format_number layout)
    → Alike bytes glyphs glyph layout → AsManual bytes glyphs glyph layout
unfolding Alike Lies lookup_at in_format format_of
lookup_as_manual simple_array bytes glyphs glyph e a = simple_as_manual bytes glyphs glyph e a
lookup_as_manual (units u) bytes glyphs glyph e a =
    let (count, sizes, all) = passed bytes (kind_of u) (sym (survey_of bytes u e) ∙ a.1) in
    units_as_manual bytes glyphs glyph u (records_of_lem bytes u glyph e) sizes a.0 count all
lookup_as_manual trimmed_array bytes glyphs glyph e a =
    trimmed_as_manual bytes glyphs glyph 2 trimmed_array (rw (e, lookup_at)) (λ place l. l) (λ place l. l)
lookup_as_manual extended_trimmed_array bytes glyphs glyph e a =
    trimmed_as_manual bytes glyphs glyph 4 extended_trimmed_array (rw (e, lookup_at))
    (λ place l. (l.0, l.1 ∙ ap (λ (n : ℕ). 8 + (glyph - u16_at bytes 4) * n) a))
    (λ place l. (l.0, l.1 ∙ ap (λ (n : ℕ). 8 + (glyph - u16_at bytes 4) * n) (sym a)))
