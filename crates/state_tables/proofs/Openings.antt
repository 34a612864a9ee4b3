-- A class table that was opened gives the classes that it gave before, and so does what is remembered of it.
use Rattle.std.specs.Prelude.{Option, Some, None, Result, Ok, Err}
use Rattle.tables.specs.declared.lookup.Why.{Why}
use Prim.Native.Nat.{ℕ, ◌+◌, ◌-◌, ◌*◌, ◌/◌, ◌%◌, ◌<◌, ◌≤◌}
use mathlib.Core.Path.{◌≡◌, refl, sym, ◌∙◌, ap, subst}
use mathlib.Core.Bool.{Bool, true, false, cond}
use mathlib.Core.List.{List}
use mathlib.Core.Logic.{◌⊎◌, inl, inr}
use native.Mathlib.Omega.{arith}
use lib.Dec.{ltb, eqb}
use lib.ListN.{length, get_or, set, drop, length-drop, length-set, length-replicate, get_or-replicate}
use lib.Seq.{get_or-set_same, get_or-set_other}
use borrow.Author.Tests.{lt-ltb, le-ltb, ltb-true, ltb-false}
use Rattle.laws.specs.Choose.{if_lt, if_eq}
use Rattle.laws.proofs.Numbers.{eq-or-ne}
use Rattle.parse.specs.Reads.{u8_at, u16_at, read_u8}
use Rattle.parse.proofs.Laws.{u8_from, u16_from, u8_read, inside_past}
use Rattle.tables.specs.Lookup.{lookup_at}
use Rattle.tables.specs.Units.{units_by, byte_found, byte_at, in_units}
use Rattle.tables.specs.Opened as Lookup'
use Rattle.tables.specs.Opened.{most_in, opened_of, plain, in_array, found_in}
use Rattle.tables.specs.declared.opened.Array.{Array}
use Rattle.tables.specs.declared.units.Reading.{Reading}
use Rattle.tables.specs.declared.units.Units.{Units}
use Rattle.tables.specs.declared.units.Units.TheVariants as Units'
use Rattle.tables.proofs.Sizes.{by_units, in_words_lem, in_crate}
use Rattle.tables.proofs.Openings.{opened-same, opened-lies}
use Rattle.state_tables.specs.Classes.{found_class, class_by_lookup, byte_class, class_by_array, class_in, class_of}
use Rattle.state_tables.specs.Opened.{cut_bytes, classes_from, opened_bytes, classes_in, opened_classes, word_class, byte_class_in, class_by, LiesIn, Remembers, noted, nothing_found}
use Rattle.state_tables.specs.declared.Edition.{Edition}
use Rattle.state_tables.specs.declared.Edition.TheVariants.{Extended, Classic}
use Rattle.state_tables.specs.declared.States.{States}
use Rattle.state_tables.specs.declared.opened.Classes.{Classes}
use Rattle.state_tables.specs.declared.opened.Classes.TheVariants.{Words, Bytes, Searched}

-- why nothing was found does not matter to a class
class-plain : (found : Result ℕ Why) → found_class (plain found) ≡ found_class found
class-plain (Ok class) = refl
class-plain (Err why) = refl

class_choice : (a b : ℕ) (x y : Result ℕ Why) → found_class (if_lt a b x y) ≡ if_lt a b (found_class x) (found_class y)
class_choice a b x y = go (ltb a b)
  where
    go : (t : Bool) → found_class (cond t x y) ≡ cond t (found_class x) (found_class y)
    go true = refl
    go false = refl

-- by a lookup table
module _ (bytes : List ℕ) (table glyph : ℕ) where
  lookup_class : Option Array → ℕ
  lookup_class opened = if_eq glyph 65535 2 (found_class (found_in (drop table bytes) opened glyph))

  from_opened : (opened : Option Array) → opened_of (drop table bytes) ≡ opened → class_by bytes (classes_from table opened) glyph ≡ lookup_class opened
  unfolding class_by word_class class_by_lookup found_in in_array lookup_class
  from_opened (Some array) e =
      rw (
        class_choice glyph array.first (Err _) _,
        class_choice (glyph - array.first) array.count (Ok (u16_at (drop table bytes) (array.base + (glyph - array.first) * 2))) _,
        u16_from bytes table (array.base + (glyph - array.first) * 2),
        (let e : table + (array.base + (glyph - array.first) * 2) ≡ table + array.base + (glyph - array.first) * 2 = omega arith in e),
      )
  from_opened None e = rw (class-plain (lookup_at (drop table bytes) glyph), in_crate (drop table bytes) glyph)

  words_same : class_by bytes (classes_from table (opened_of (drop table bytes))) glyph ≡ if_eq glyph 65535 2 (found_class (lookup_at (drop table bytes) glyph))
  unfolding lookup_class
  words_same =
      from_opened (opened_of (drop table bytes)) refl
      ∙ ap (λ (found : Result ℕ Why). if_eq glyph 65535 2 (found_class found)) (opened-same (drop table bytes) glyph)
      ∙ ap (λ (class : ℕ). if_eq glyph 65535 2 class) (class-plain (lookup_at (drop table bytes) glyph))

-- by an array of bytes: one of them can be read exactly when it lies in the table
module _ (bytes : List ℕ) (place first count glyph : ℕ) where
  byte_read : (index : ℕ) → byte_class (read_u8 bytes (place + index)) ≡ if_lt index (length bytes - place) (u8_at bytes (place + index)) 1
  unfolding read_u8
  byte_read index = go (ltb index (length bytes - place)) refl
    where
      go : (b : Bool) → ltb index (length bytes - place) ≡ b
          → byte_class (read_u8 bytes (place + index)) ≡ if_lt index (length bytes - place) (u8_at bytes (place + index)) 1
      go true e = rw (e, sym (u8_read bytes (place + index) (omega (arith, ltb-true index (length bytes - place) e))))
      go false e = rw (e, inside_past bytes (place + index) 1 (omega (arith, ltb-false index (length bytes - place) e)), read_u8)

  array_same : class_by bytes (opened_bytes bytes place first count) glyph ≡ if_eq glyph 65535 2 (class_by_array bytes place first count glyph)
  unfolding opened_bytes class_by byte_class_in class_by_array cut_bytes
  array_same = rw (byte_read (glyph - first)) (cut (ltb (length bytes - place) count) refl)
    where
      index : ℕ
      index = glyph - first

      most : ℕ
      most = length bytes - place

      left : ℕ → ℕ
      left n = if_eq glyph 65535 2 (if_lt glyph first 1 n)

      class : ℕ
      class = u8_at bytes (place + index)

      cut : (b : Bool) → ltb most count ≡ b
          → left (if_lt index (if_lt most count most count) class 1) ≡ left (if_lt index count (if_lt index most class 1) 1)
      cut true e = rw e (ap left (shorter (ltb index most) refl))
        where
          shorter : (b : Bool) → ltb index most ≡ b → if_lt index most class 1 ≡ if_lt index count (if_lt index most class 1) 1
          shorter true f = rw (f, lt-ltb index count (omega (arith, ltb-true most count e, ltb-true index most f)))
          shorter false f = rw f (same (ltb index count))
            where
              same : (b : Bool) → ◌≡◌ {A = ℕ} 1 (cond b 1 1)
              same true = refl
              same false = refl
      cut false e = rw e (ap left (longer (ltb index count) refl))
        where
          longer : (b : Bool) → ltb index count ≡ b → if_lt index count class 1 ≡ if_lt index count (if_lt index most class 1) 1
          longer true f = rw (f, lt-ltb index most (omega (arith, ltb-false most count e, ltb-true index count f)))
          longer false f = rw f

-- an element of one byte, as a class
found_byte : (bytes : List ℕ) (place : ℕ) → found_class (byte_at bytes place) ≡ byte_class (read_u8 bytes place)
unfolding byte_at
found_byte bytes place = go (read_u8 bytes place)
  where
    go : (r : Option ℕ) → found_class (byte_found r) ≡ byte_class r
    go (Some n) = refl
    go None = refl

byte_class_lem : (bytes : List ℕ) (table place : ℕ) → found_class (byte_at (drop table bytes) place) ≡ byte_class (read_u8 bytes (table + place))
unfolding read_u8
byte_class_lem bytes table place = found_byte (drop table bytes) place ∙ go (ltb place (length bytes - table)) refl
  where
    go : (b : Bool) → ltb place (length bytes - table) ≡ b → byte_class (read_u8 (drop table bytes) place) ≡ byte_class (read_u8 bytes (table + place))
    go true e =
        let h = ltb-true place (length bytes - table) e in
        rw (sym (u8_read (drop table bytes) place (omega (arith, h, length-drop table bytes))), sym (u8_read bytes (table + place) (omega (arith, h)))) (u8_from bytes table place)
    go false e =
        let h = ltb-false place (length bytes - table) e in
        rw (inside_past (drop table bytes) place 1 (omega (arith, h, length-drop table bytes)), inside_past bytes (table + place) 1 (omega (arith, h)), read_u8)

module _ (bytes : List ℕ) (table glyph : ℕ) where
  bytes-found : (first count : ℕ) → class_by_array bytes (table + 8) first count glyph ≡ found_class (in_units (drop table bytes) (Ok (Units'.Bytes first count)) glyph)
  unfolding class_by_array in_units
  bytes-found first count =
      rw (
        class_choice glyph first (Err _) _,
        class_choice (glyph - first) count (byte_at (drop table bytes) (8 + (glyph - first))) _,
        byte_class_lem bytes table (8 + (glyph - first)),
        (let e : table + (8 + (glyph - first)) ≡ table + 8 + (glyph - first) = omega arith in e),
      )

  none_found : class_by_array bytes 0 0 0 glyph ≡ 1
  unfolding class_by_array
  none_found = rw (le-ltb glyph 0 (omega arith), le-ltb (glyph - 0) 0 (omega arith))

module _ (bytes : List ℕ) (table : ℕ) (reading : Reading) (glyph : ℕ) where
  pub extended-same : class_by bytes (opened_classes bytes (Extended table reading)) glyph ≡ if_eq glyph 65535 2 (class_by_lookup bytes table reading glyph)
  unfolding opened_classes classes_in class_by_lookup in_units
  extended-same = go (units_by reading (drop table bytes)) refl
    where
      goal : Type 0
      goal = class_by bytes (opened_classes bytes (Extended table reading)) glyph ≡ if_eq glyph 65535 2 (class_by_lookup bytes table reading glyph)

      found : {units : Result Units Why} → units_by reading (drop table bytes) ≡ units
          → if_eq glyph 65535 2 (found_class (in_units (drop table bytes) units glyph)) ≡ if_eq glyph 65535 2 (class_by_lookup bytes table reading glyph)
      found e = ap (λ (f : Result ℕ Why). if_eq glyph 65535 2 (found_class f)) (sym (by_units reading (drop table bytes) glyph e))

      go : (units : Result Units Why) → units_by reading (drop table bytes) ≡ units → goal
      go (Ok Units'.Words) e = rw e (words_same bytes table glyph ∙ in_two e)
        where
          in_two : units_by reading (drop table bytes) ≡ Ok Units'.Words
              → if_eq glyph 65535 2 (found_class (lookup_at (drop table bytes) glyph)) ≡ if_eq glyph 65535 2 (class_by_lookup bytes table reading glyph)
          in_two f = ap (λ (r : Result ℕ Why). if_eq glyph 65535 2 (found_class r)) (sym (in_words_lem reading (drop table bytes) glyph f))
      go (Ok (Units'.Bytes first count)) e = rw e (array_same bytes (table + 8) first count glyph ∙ ap (λ (n : ℕ). if_eq glyph 65535 2 n) (bytes-found bytes table glyph first count) ∙ found e)
      go (Err why) e = rw e (array_same bytes 0 0 0 glyph ∙ ap (λ (n : ℕ). if_eq glyph 65535 2 n) (none_found bytes table glyph) ∙ found e)

abbrev words-lie : List ℕ → Classes → Type 0
words-lie bytes (Words base first count) = count ≤ most_in bytes base
words-lie bytes (Bytes base first count) = 0 ≤ count
words-lie bytes (Searched table) = 0 ≤ table

abbrev bytes-lie : List ℕ → Classes → Type 0
bytes-lie bytes (Words base first count) = 0 ≤ count
bytes-lie bytes (Bytes base first count) = count ≤ length bytes - base
bytes-lie bytes (Searched table) = 0 ≤ table

array_lies : (bytes : List ℕ) (place first count : ℕ) → LiesIn bytes (opened_bytes bytes place first count)
unfolding opened_bytes cut_bytes
array_lies bytes place first count =
    record {
      words = λ b f n e. subst (λ (o : Classes). words-lie bytes o) e (omega arith);
      byte_classes = λ b f n e. subst (λ (o : Classes). bytes-lie bytes o) e (go (ltb (length bytes - place) count) refl);
    }
  where
    go : (b : Bool) → ltb (length bytes - place) count ≡ b → cond b (length bytes - place) count ≤ length bytes - place
    go true e = omega arith
    go false e = omega (arith, ltb-false (length bytes - place) count e)

-- the class table of a state table, opened, gives each glyph's class, and its elements lie in the table
pub classes-same : (bytes : List ℕ) (states : States) (glyph : ℕ) → class_by bytes (opened_classes bytes states.edition) glyph ≡ class_of bytes states glyph
unfolding class_of class_in opened_classes
classes-same bytes states glyph = go states.edition refl
  where
    go : (edition : Edition) → states.edition ≡ edition
        → class_by bytes (opened_classes bytes states.edition) glyph ≡ class_of bytes states glyph
    go (Extended table reading) e = rw e (extended-same bytes table reading glyph)
    go (Classic place first count) e = rw e (array_same bytes place first count glyph)

pub classes-lie : (bytes : List ℕ) (edition : Edition) → LiesIn bytes (opened_classes bytes edition)
unfolding opened_classes classes_in most_in
classes-lie bytes (Extended table reading) = by_units' (units_by reading (drop table bytes))
  where
    go : (opened : Option Array) → Lookup'.LiesIn (drop table bytes) opened → LiesIn bytes (classes_from table opened)
    go (Some array) h =
        record {
          words = λ b f n e. subst (λ (o : Classes). words-lie bytes o) e (omega (arith, h array refl, length-drop table bytes));
          byte_classes = λ b f n e. subst (λ (o : Classes). bytes-lie bytes o) e (omega arith);
        }
    go None h =
        record {
          words = λ b f n e. subst (λ (o : Classes). words-lie bytes o) e (omega arith);
          byte_classes = λ b f n e. subst (λ (o : Classes). bytes-lie bytes o) e (omega arith);
        }

    by_units' : (units : Result Units Why) → LiesIn bytes (classes_in bytes table units)
    by_units' (Ok Units'.Words) = go (opened_of (drop table bytes)) (opened-lies (drop table bytes))
    by_units' (Ok (Units'.Bytes first count)) = array_lies bytes (table + 8) first count
    by_units' (Err why) = array_lies bytes 0 0 0
classes-lie bytes (Classic place first count) = array_lies bytes place first count

-- the class in an array of words
pub words-class : (bytes : List ℕ) (opened : Classes) (base first count glyph : ℕ) → opened ≡ Words base first count
    → word_class bytes base first count glyph ≡ class_by bytes opened glyph
unfolding class_by
words-class bytes opened base first count glyph e = rw e

-- and in one of bytes
pub bytes-class : (bytes : List ℕ) (opened : Classes) (base first count glyph : ℕ) → opened ≡ Bytes base first count
    → byte_class_in bytes base first count glyph ≡ class_by bytes opened glyph
unfolding class_by
bytes-class bytes opened base first count glyph e = rw e

-- a deleted glyph's class is 2 in every class table
pub deleted-class : (bytes : List ℕ) (opened : Classes) → class_by bytes opened 65535 ≡ 2
unfolding class_by word_class byte_class_in
deleted-class bytes (Words base first count) = refl
deleted-class bytes (Bytes base first count) = refl
deleted-class bytes (Searched table) = refl

module _ {classes : ℕ → ℕ} where
  pub nothing_remembered : classes 65535 ≡ 2 → Remembers classes nothing_found
  nothing_remembered two =
      record {
        long = length-replicate {A = ℕ} 64 0xFFFF0002;
        slots = λ slot h. rw (get_or-replicate {A = ℕ} 64 slot 0xFFFF0002 0 h) two;
      }

  module _ {memo : List ℕ} (r : Remembers classes memo) {slot glyph : ℕ} (h : slot < 64) where
    remembers : {class : ℕ} → class < 65536 → class ≡ classes glyph → Remembers classes (set memo slot (glyph * 65536 + class))
    remembers {class} small e =
        record {
          long = length-set memo slot (glyph * 65536 + class) ∙ r.long;
          slots = λ other k. go other k (eq-or-ne other slot);
        }
      where
        new : List ℕ
        new = set memo slot (glyph * 65536 + class)

        go : (other : ℕ) → other < 64 → (other ≡ slot) ⊎ (other ≡ slot → ⊥) → classes (get_or new other 0 / 65536) ≡ get_or new other 0 % 65536
        go other k (inl f) =
            rw (
              f,
              get_or-set_same memo slot (glyph * 65536 + class) 0 (omega (arith, h, r.long)),
              (let q : (glyph * 65536 + class) / 65536 ≡ glyph = omega (arith, small) in q),
              (let q : (glyph * 65536 + class) % 65536 ≡ class = omega (arith, small) in q),
            ) (sym e)
        go other k (inr d) = rw (get_or-set_other memo slot other (glyph * 65536 + class) 0 d) (r.slots other k)

  -- what is noted is still remembered rightly
  pub still_remembers : {memo : List ℕ} → Remembers classes memo → (glyph : ℕ) → classes glyph < 65536 → Remembers classes (noted classes memo glyph)
  unfolding noted
  still_remembers {memo} r glyph small = go (eqb (get_or memo (glyph % 64) 0 / 65536) glyph)
    where
      go : (b : Bool) → Remembers classes (cond b memo (set memo (glyph % 64) (glyph * 65536 + classes glyph)))
      go true = r
      go false = remembers r (omega arith) small refl
