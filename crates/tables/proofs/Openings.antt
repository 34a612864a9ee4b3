-- A lookup table that was opened finds what the lookup finds, why nothing was found not told apart.
use Rattle.std.specs.Prelude.{Option, Some, None, Result, Ok, Err}
use Rattle.tables.specs.declared.lookup.Why.{Why}
use Prim.Native.Nat.{ℕ, ◌+◌, ◌-◌, ◌*◌, ◌≤◌}
use mathlib.Core.Path.{◌≡◌, refl, ◌∙◌, ap, subst}
use mathlib.Core.Bool.{Bool, true, false, cond}
use mathlib.Core.List.{List}
use native.Mathlib.Omega.{arith}
use lib.Dec.{ltb}
use borrow.Author.Tests.{lt-ltb, le-ltb, ltb-true, ltb-false}
use Rattle.laws.specs.Choose.{if_lt}
use Rattle.parse.specs.Reads.{u16_at, read_u16}
use Rattle.parse.proofs.Laws.{read_u16_got, read_u16-short}
use Rattle.tables.specs.Records.{format_of}
use Rattle.tables.specs.Lookup.{element_at, trimmed_at, in_format, lookup_at}
use Rattle.tables.specs.Opened.{most_in, opened_array, opened_trimmed, opened_of, plain, in_array, found_in, LiesIn}
use Rattle.tables.specs.declared.records.Format.{Format}
use Rattle.tables.specs.declared.records.Format.TheVariants.{Simple, Records, Trimmed, Unknown}
use Rattle.tables.specs.declared.lookup.Why.TheVariants.{NotCovered, CutShort}
use Rattle.tables.specs.declared.opened.Array.{Array}

-- an element of an array can be read exactly when it is one of those that can lie in the table
element_read : (bytes : List ℕ) (base index : ℕ)
    → plain (element_at bytes (base + index * 2)) ≡ if_lt index (most_in bytes base) (Ok (u16_at bytes (base + index * 2))) (Err NotCovered)
unfolding element_at most_in
element_read bytes base index = go (ltb index (most_in bytes base)) refl
  where
    go : (b : Bool) → ltb index (most_in bytes base) ≡ b
        → plain (element_at bytes (base + index * 2)) ≡ if_lt index (most_in bytes base) (Ok (u16_at bytes (base + index * 2))) (Err NotCovered)
    go true e = rw (e, read_u16_got bytes (base + index * 2) (omega (arith, ltb-true index (most_in bytes base) e)), element_at)
    go false e = rw (e, read_u16-short bytes (base + index * 2) (omega (arith, ltb-false index (most_in bytes base) e)), element_at)

module _ (bytes : List ℕ) (glyph : ℕ) where
  -- an array that is cut to what can lie in the table has the elements that can be read
  array_same : (base first count : ℕ) → found_in bytes (opened_array bytes base first count) glyph
      ≡ if_lt glyph first (Err NotCovered) (if_lt (glyph - first) count (plain (element_at bytes (base + (glyph - first) * 2))) (Err NotCovered))
  unfolding found_in opened_array in_array
  array_same base first count = rw (element_read bytes base (glyph - first)) (cut (ltb (most_in bytes base) count) refl)
    where
      found : Result ℕ Why
      found = Ok (u16_at bytes (base + (glyph - first) * 2))

      cut : (b : Bool) → ltb (most_in bytes base) count ≡ b
          → if_lt glyph first (Err NotCovered) (if_lt (glyph - first) (if_lt (most_in bytes base) count (most_in bytes base) count) found (Err NotCovered))
          ≡ if_lt glyph first (Err NotCovered) (if_lt (glyph - first) count (if_lt (glyph - first) (most_in bytes base) found (Err NotCovered)) (Err NotCovered))
      cut true e = rw e (both_ways (ltb (glyph - first) (most_in bytes base)) refl)
        where
          both_ways : (b : Bool) → ltb (glyph - first) (most_in bytes base) ≡ b
              → if_lt glyph first (Err NotCovered) (if_lt (glyph - first) (most_in bytes base) found (Err NotCovered))
              ≡ if_lt glyph first (Err NotCovered) (if_lt (glyph - first) count (if_lt (glyph - first) (most_in bytes base) found (Err NotCovered)) (Err NotCovered))
          both_ways true f = rw (f, lt-ltb (glyph - first) count (omega (arith, ltb-true (most_in bytes base) count e, ltb-true (glyph - first) (most_in bytes base) f)))
          both_ways false f = rw f (same (ltb (glyph - first) count))
            where
              same : (b : Bool) → if_lt {A = Result ℕ Why} glyph first (Err NotCovered) (Err NotCovered) ≡ if_lt glyph first (Err NotCovered) (cond b (Err NotCovered) (Err NotCovered))
              same true = refl
              same false = refl
      cut false e = rw e (inside (ltb (glyph - first) count) refl)
        where
          inside : (b : Bool) → ltb (glyph - first) count ≡ b
              → if_lt glyph first (Err NotCovered) (if_lt (glyph - first) count found (Err NotCovered))
              ≡ if_lt glyph first (Err NotCovered) (if_lt (glyph - first) count (if_lt (glyph - first) (most_in bytes base) found (Err NotCovered)) (Err NotCovered))
          inside true f = rw (f, lt-ltb (glyph - first) (most_in bytes base) (omega (arith, ltb-false (most_in bytes base) count e, ltb-true (glyph - first) count f)))
          inside false f = rw f

  simple_same : found_in bytes (Some (record { base = 2; first = 0; count = most_in bytes 2 })) glyph ≡ plain (element_at bytes (2 + glyph * 2))
  unfolding found_in in_array
  simple_same = rw (element_read bytes 2 glyph, le-ltb glyph 0 (omega arith), (let e : glyph - 0 ≡ glyph = omega arith in e))

  -- plain goes through the tests
  plain-if_lt : (a b : ℕ) (x y : Result ℕ Why) → plain (if_lt a b x y) ≡ if_lt a b (plain x) (plain y)
  plain-if_lt a b x y = go (ltb a b)
    where
      go : (t : Bool) → plain (cond t x y) ≡ cond t (plain x) (plain y)
      go true = refl
      go false = refl

  trimmed-same : (head : ℕ) → opened_of bytes ≡ opened_trimmed bytes head → lookup_at bytes glyph ≡ trimmed_at bytes head glyph
      → found_in bytes (opened_trimmed bytes head) glyph ≡ plain (trimmed_at bytes head glyph)
  unfolding opened_trimmed trimmed_at found_in
  trimmed-same head o l = by_first (read_u16 bytes head) refl
    where
      goal : Type 0
      goal = found_in bytes (opened_trimmed bytes head) glyph ≡ plain (trimmed_at bytes head glyph)

      by_first : (r : Option ℕ) → read_u16 bytes head ≡ r → goal
      by_first None e = rw e (ap plain l ∙ rw e)
      by_first (Some first) e = by_count (read_u16 bytes (head + 2)) refl
        where
          by_count : (r : Option ℕ) → read_u16 bytes (head + 2) ≡ r → goal
          by_count None f = rw (e, f) (ap plain l ∙ rw (e, f))
          by_count (Some n) f =
              rw (e, f, plain-if_lt glyph first (Err NotCovered) (if_lt (glyph - first) n (element_at bytes (head + 4 + (glyph - first) * 2)) (Err NotCovered)), plain-if_lt (glyph - first) n (element_at bytes (head + 4 + (glyph - first) * 2)) (Err NotCovered))
              (array_same (head + 4) first n)

  pub opened-same : found_in bytes (opened_of bytes) glyph ≡ plain (lookup_at bytes glyph)
  unfolding opened_of lookup_at found_in in_format
  opened-same = by_read (read_u16 bytes 0) refl
    where
      goal : Type 0
      goal = found_in bytes (opened_of bytes) glyph ≡ plain (lookup_at bytes glyph)

      by_read : (r : Option ℕ) → read_u16 bytes 0 ≡ r → goal
      by_read None e = let l : lookup_at bytes glyph ≡ Err CutShort = rw e in rw e (ap plain l)
      by_read (Some n) e = by_format_lem (format_of n) refl
        where
          by_format_lem : (f : Format) → format_of n ≡ f → goal
          by_format_lem Simple g = rw (e, g) simple_same
          by_format_lem (Records kind) g = let l : lookup_at bytes glyph ≡ in_format bytes (Records kind) glyph = rw (e, g) in rw (e, g) (ap plain l)
          by_format_lem (Trimmed head) g = rw (e, g) (trimmed-same head (rw (e, g)) (rw (e, g)))
          by_format_lem Unknown g = let l : lookup_at bytes glyph ≡ in_format bytes Unknown glyph = rw (e, g) in rw (e, g) (ap plain l)

-- and all its elements lie in the table
count_of : Option Array → ℕ
count_of (Some array) = array.count
count_of None = 0

most_of : List ℕ → Option Array → ℕ
most_of bytes (Some array) = most_in bytes array.base
most_of bytes None = 0

cut-lies : (bytes : List ℕ) (base first count : ℕ) → count_of (opened_array bytes base first count) ≤ most_of bytes (opened_array bytes base first count)
unfolding opened_array count_of most_of
cut-lies bytes base first count = go (ltb (most_in bytes base) count) refl
  where
    go : (b : Bool) → ltb (most_in bytes base) count ≡ b → cond b (most_in bytes base) count ≤ most_in bytes base
    go true e = omega arith
    go false e = omega (arith, ltb-false (most_in bytes base) count e)

counts-lie : (bytes : List ℕ) → count_of (opened_of bytes) ≤ most_of bytes (opened_of bytes)
unfolding opened_of opened_trimmed count_of most_of
counts-lie bytes = by_read (read_u16 bytes 0) refl
  where
    goal : Type 0
    goal = count_of (opened_of bytes) ≤ most_of bytes (opened_of bytes)

    by_read : (r : Option ℕ) → read_u16 bytes 0 ≡ r → goal
    by_read None e = rw e (omega arith)
    by_read (Some n) e = by_format_lem (format_of n) refl
      where
        by_format_lem : (f : Format) → format_of n ≡ f → goal
        by_format_lem Simple g = rw (e, g) (omega arith)
        by_format_lem (Records kind) g = rw (e, g) (omega arith)
        by_format_lem Unknown g = rw (e, g) (omega arith)
        by_format_lem (Trimmed head) g = by_first (read_u16 bytes head) refl
          where
            by_first : (r : Option ℕ) → read_u16 bytes head ≡ r → goal
            by_first None h = rw (e, g, h) (omega arith)
            by_first (Some first) h = by_count (read_u16 bytes (head + 2)) refl
              where
                by_count : (r : Option ℕ) → read_u16 bytes (head + 2) ≡ r → goal
                by_count None i = rw (e, g, h, i) (omega arith)
                by_count (Some count) i = rw (e, g, h, i) (cut-lies bytes (head + 4) first count)

pub opened-lies : (bytes : List ℕ) → LiesIn bytes (opened_of bytes)
unfolding count_of most_of
opened-lies bytes array e = subst (λ (o : Option Array). count_of o ≤ most_of bytes o) e (counts-lie bytes)
