-- The lookup by a reading: in the crate's it is the crate's, in the manual's the manual's, and they differ in format 10 alone.
use Rattle.std.specs.Prelude.{Option, Some, None, Result, Ok, Err}
use Prim.Native.Nat.{ℕ, ◌+◌, ◌-◌, ◌*◌, ◌<◌, ◌≤◌}
use mathlib.Core.Path.{◌≡◌, refl, sym, ◌∙◌, ap}
use mathlib.Core.List.{List}
use mathlib.Core.Logic.{⊎_elim}
use native.Mathlib.Omega.{arith}
use lib.ListN.{length}
use borrow.Author.Tests.{lt-ltb, le-ltb, ne_eqb}
use Rattle.laws.specs.Choose.{if_lt}
use Rattle.laws.proofs.Numbers.{lt-or-ge}
use Rattle.parse.specs.Reads.{u8_at, u16_at, read_u8, read_u16}
use Rattle.parse.proofs.Laws.{u8_read, inside_past, read_u16_got, read_u16-short, u16_value}
use Rattle.tables.specs.Lookup.{lookup_at}
use Rattle.tables.specs.Units.{byte_units, sized_units, units_by, byte_at, in_units, lookup_by}
use Rattle.tables.specs.ManualLookup.{extended_trimmed_array, Lies, Alike}
use Rattle.tables.specs.ManualUnits.{Size, one, two, size_number, AsSized, FormatTen}
use Rattle.tables.specs.declared.lookup.Why.{Why}
use Rattle.tables.specs.declared.lookup.Why.TheVariants.{NotCovered, CutShort, UnknownFormat}
use Rattle.tables.specs.declared.units.Reading.{Reading}
use Rattle.tables.specs.declared.units.Reading.TheVariants.{Crate, Manual}
use Rattle.tables.specs.declared.units.Units.{Units}
use Rattle.tables.specs.declared.units.Units.TheVariants.{Words, Bytes}
use Rattle.tables.proofs.ManualLookup.{lookup_as_manual}

-- what is found, by the elements
module _ (reading : Reading) (bytes : List ℕ) (glyph : ℕ) where
  pub by_units : {units : Result Units Why} → units_by reading bytes ≡ units → lookup_by reading bytes glyph ≡ in_units bytes units glyph
  unfolding lookup_by
  by_units e = ap (λ (u : Result Units Why). in_units bytes u glyph) e

  pub in_words_lem : units_by reading bytes ≡ Ok Words → lookup_by reading bytes glyph ≡ lookup_at bytes glyph
  unfolding in_units
  in_words_lem e = by_units e

pub in_crate : (bytes : List ℕ) (glyph : ℕ) → lookup_by Crate bytes glyph ≡ lookup_at bytes glyph
unfolding units_by
in_crate bytes glyph = in_words_lem Crate bytes glyph refl

-- in the other formats the readings agree
pub other-units : (reading : Reading) (bytes : List ℕ) → (read_u16 bytes 0 ≡ Some 10 → ⊥) → units_by reading bytes ≡ Ok Words
unfolding units_by
other-units Crate bytes other = refl
other-units Manual bytes other = go (read_u16 bytes 0) refl
  where
    go : (r : Option ℕ) → read_u16 bytes 0 ≡ r → units_by Manual bytes ≡ Ok Words
    go None e = rw (e, units_by)
    go (Some n) e = rw (e, ne_eqb n 10 (λ t. other (e ∙ ap Some t)), units_by)

pub other_formats : (bytes : List ℕ) (glyph : ℕ) → (read_u16 bytes 0 ≡ Some 10 → ⊥) → lookup_by Manual bytes glyph ≡ lookup_at bytes glyph
other_formats bytes glyph other = in_words_lem Manual bytes glyph (other-units Manual bytes other)

-- elements of one byte
byte_there : (bytes : List ℕ) (place : ℕ) → place + 1 ≤ length bytes → byte_at bytes place ≡ Ok (u8_at bytes place)
unfolding byte_at
byte_there bytes place h = rw (sym (u8_read bytes place (omega arith)), byte_at)

byte_past : (bytes : List ℕ) (place : ℕ) → length bytes < place + 1 → byte_at bytes place ≡ Err CutShort
unfolding byte_at read_u8
byte_past bytes place h = rw (inside_past bytes place 1 (omega arith), read_u8, byte_at)

not_found : {A : Type 0} {r : (Result ℕ Why)} {why : Why} {element : ℕ} → r ≡ Err why → r ≡ Ok element → A
not_found e f = let z : ◌≡◌ {A = ℕ} 0 1 = cc in absurd (omega arith)

-- format 10
module _ (bytes : List ℕ) (glyphs glyph : ℕ) (ten : read_u16 bytes 0 ≡ Some 10) where
  ten_units : units_by Manual bytes ≡ sized_units bytes
  unfolding units_by
  ten_units = rw (ten, units_by)

  -- the lookup finds nothing, and no element lies in the table
  nowhere : (why : Why) → lookup_by Manual bytes glyph ≡ Err why
      → ((place : ℕ) → Lies bytes glyphs glyph extended_trimmed_array place → place + 1 ≤ length bytes → ⊥) → AsSized bytes glyphs glyph one
  nowhere why e none = record { found = λ element f. not_found e f; there = λ place l h. absurd (none place l h) }

  module _ (size : read_u16 bytes 2 ≡ Some 1) where
    size-one : u16_at bytes 2 ≡ 1
    size-one = sym (u16_value bytes 2 size).1

    byte_units_lem : units_by Manual bytes ≡ byte_units bytes
    unfolding sized_units
    byte_units_lem = ten_units ∙ rw (size, sized_units)

    in_bytes : 8 ≤ length bytes → lookup_by Manual bytes glyph
        ≡ if_lt glyph (u16_at bytes 4) (Err NotCovered) (if_lt (glyph - u16_at bytes 4) (u16_at bytes 6) (byte_at bytes (8 + (glyph - u16_at bytes 4))) (Err NotCovered))
    unfolding byte_units in_units
    in_bytes h =
        by_units Manual bytes glyph {units = Ok (Bytes (u16_at bytes 4) (u16_at bytes 6))}
        (byte_units_lem ∙ rw (read_u16_got bytes 4 (omega arith), read_u16_got bytes 6 (omega arith), byte_units))

    in_none : length bytes < 8 → lookup_by Manual bytes glyph ≡ Err CutShort
    unfolding byte_units in_units
    in_none h = by_units Manual bytes glyph (byte_units_lem ∙ go (read_u16 bytes 4) refl)
      where
        go : (r : Option ℕ) → read_u16 bytes 4 ≡ r → byte_units bytes ≡ Err CutShort
        go None f = rw (f, byte_units)
        go (Some n) f = rw (f, read_u16-short bytes 6 (omega arith), byte_units)

    -- where an element of one byte lies
    one_place : (place : ℕ) → Lies bytes glyphs glyph extended_trimmed_array place → place ≡ 8 + (glyph - u16_at bytes 4)
    unfolding Lies
    one_place place l = l.1 ∙ ap (λ (n : ℕ). 8 + (glyph - u16_at bytes 4) * n) size-one ∙ (let e : 8 + (glyph - u16_at bytes 4) * 1 ≡ 8 + (glyph - u16_at bytes 4) = omega arith in e)

    spanned : (place : ℕ) → Lies bytes glyphs glyph extended_trimmed_array place → (u16_at bytes 4 ≤ glyph) × (glyph < u16_at bytes 4 + u16_at bytes 6)
    unfolding Lies
    spanned place l = l.0

    lies : u16_at bytes 4 ≤ glyph → glyph < u16_at bytes 4 + u16_at bytes 6 → Lies bytes glyphs glyph extended_trimmed_array (8 + (glyph - u16_at bytes 4))
    unfolding Lies
    lies h k = ((h, k), (let e : 8 + (glyph - u16_at bytes 4) ≡ 8 + (glyph - u16_at bytes 4) * 1 = omega arith in e) ∙ ap (λ (n : ℕ). 8 + (glyph - u16_at bytes 4) * n) (sym size-one))

    as_one : AsSized bytes glyphs glyph one
    as_one =
        ⊎_elim
        (λ (h : length bytes < 8). nowhere CutShort (in_none h) (λ place l k. omega (arith, one_place place l)))
        (λ (h : 8 ≤ length bytes).
        ⊎_elim
        (λ (p : glyph < u16_at bytes 4).
        nowhere NotCovered (in_bytes h ∙ rw (lt-ltb glyph (u16_at bytes 4) p)) (λ place l k. let s = (spanned place l).0 in omega (arith, s)))
        (λ (p : u16_at bytes 4 ≤ glyph).
        ⊎_elim
        (λ (q : glyph - u16_at bytes 4 < u16_at bytes 6).
        let at : lookup_by Manual bytes glyph ≡ byte_at bytes (8 + (glyph - u16_at bytes 4)) = in_bytes h ∙ rw (le-ltb glyph (u16_at bytes 4) p, lt-ltb (glyph - u16_at bytes 4) (u16_at bytes 6) q) in
        ⊎_elim
        (λ (k : length bytes < 8 + (glyph - u16_at bytes 4) + 1).
        nowhere CutShort (at ∙ byte_past bytes (8 + (glyph - u16_at bytes 4)) k) (λ place l j. omega (arith, one_place place l)))
        (λ (k : 8 + (glyph - u16_at bytes 4) + 1 ≤ length bytes).
        record {
          found = λ element f.
              let e : Ok (u8_at bytes (8 + (glyph - u16_at bytes 4))) ≡ Ok element = sym (at ∙ byte_there bytes (8 + (glyph - u16_at bytes 4)) k) ∙ f in
              (8 + (glyph - u16_at bytes 4), lies p (omega arith), k, cc);
          there = λ place l j.
              at ∙ byte_there bytes (8 + (glyph - u16_at bytes 4)) k
              ∙ ap (λ (n : ℕ). Ok (u8_at bytes n)) (sym (one_place place l));
        })
        (lt-or-ge (length bytes) (8 + (glyph - u16_at bytes 4) + 1)))
        (λ (q : u16_at bytes 6 ≤ glyph - u16_at bytes 4).
        nowhere NotCovered (in_bytes h ∙ rw (le-ltb glyph (u16_at bytes 4) p, le-ltb (glyph - u16_at bytes 4) (u16_at bytes 6) q)) (λ place l k. let s = (spanned place l).1 in omega (arith, s)))
        (lt-or-ge (glyph - u16_at bytes 4) (u16_at bytes 6)))
        (lt-or-ge glyph (u16_at bytes 4)))
        (lt-or-ge (length bytes) 8)

  module _ (size : read_u16 bytes 2 ≡ Some 2) where
    in_two : lookup_by Manual bytes glyph ≡ lookup_at bytes glyph
    unfolding sized_units
    in_two = in_words_lem Manual bytes glyph (ten_units ∙ rw (size, sized_units))

    as_two : AsSized bytes glyphs glyph two
    unfolding Alike
    as_two =
        let m = lookup_as_manual extended_trimmed_array bytes glyphs glyph ten (sym (u16_value bytes 2 size).1) in
        record { found = λ element f. m.found element (sym in_two ∙ f); there = λ place l h. in_two ∙ m.there place l h }

  as_sized : (size : Size) → read_u16 bytes 2 ≡ Some (size_number size) → AsSized bytes glyphs glyph size
  as_sized one e = as_one e
  as_sized two e = as_two e

  pub format_ten : FormatTen bytes glyphs glyph
  unfolding sized_units in_units
  format_ten =
      record {
        sized = as_sized;
        unknown = λ number e other. by_units Manual bytes glyph {units = Err UnknownFormat} (ten_units ∙ rw (e, ne_eqb number 1 (other one), ne_eqb number 2 (other two), sized_units));
        short = λ e. by_units Manual bytes glyph {units = Err CutShort} (ten_units ∙ rw (e, sized_units));
      }
