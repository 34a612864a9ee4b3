-- A lookup table whose records all lie in it finds by them what the lookup finds.
use Rattle.std.specs.Prelude.{Option, Some, None}
use Prim.Native.Nat.{ℕ, ◌+◌, ◌<◌, ◌≤◌}
use mathlib.Core.Path.{◌≡◌, refl, sym, ◌∙◌, ap, subst}
use mathlib.Core.Bool.{Bool, true, false}
use mathlib.Core.List.{List}
use native.Mathlib.Omega.{arith}
use lib.Dec.{ltb}
use lib.ListN.{length}
use borrow.Author.Tests.{lt-ltb, le-ltb, ltb-false}
use Rattle.parse.specs.Reads.{u16_at, read_u16}
use Rattle.parse.proofs.Laws.{read_u16_got}
use Rattle.tables.specs.Records.{format_of, record_place, first_at, last_at}
use Rattle.tables.specs.Search.{against, side_of_record, side_of_range, side_of_array, side_of_single, searched}
use Rattle.tables.specs.Lookup.{element_in, in_records, in_format, lookup_at}
use Rattle.tables.specs.declared.records.Format.{Format}
use Rattle.tables.specs.declared.records.Format.TheVariants as Format'
use Rattle.tables.specs.declared.records.Keys.TheVariants.{Glyphs}
use Rattle.tables.specs.declared.records.Kind.{Kind}
use Rattle.tables.specs.declared.records.Kind.TheVariants.{Ranges, Arrays, Singles}
use Rattle.tables.specs.declared.records.Side.TheVariants as Side'
use Rattle.tables.specs.declared.records.Spot.{Spot}
use Rattle.tables.specs.Whole.{whole_of, records_of, becomes}
use Rattle.tables.specs.declared.whole.Records.{Records}

-- what is known of a table whose records all lie in it
pub record Lies (bytes : List ℕ) (kind : Kind) (count : ℕ) : Type 0 where
  pub inside : record_place 12 kind count ≤ length bytes
  pub found : (glyph : ℕ) → lookup_at bytes glyph ≡ element_in bytes kind glyph (searched bytes 12 (Glyphs kind) count glyph)

abbrev Lying : List ℕ → Option Records → Type 0
Lying bytes (Some records) = Lies bytes records.kind records.count
Lying bytes None = 0 ≤ 0

lying : (bytes : List ℕ) → Lying bytes (records_of bytes)
unfolding records_of whole_of lookup_at in_format in_records
lying bytes = by_read (read_u16 bytes 0) refl
  where
    goal : Type 0
    goal = Lying bytes (records_of bytes)

    by_read : (r : Option ℕ) → read_u16 bytes 0 ≡ r → goal
    by_read None e = rw e (omega arith)
    by_read (Some n) e = by_format_lem (format_of n) refl
      where
        by_format_lem : (f : Format) → format_of n ≡ f → goal
        by_format_lem Format'.Simple g = rw (e, g) (omega arith)
        by_format_lem (Format'.Records kind) g = by_count (read_u16 bytes 4) refl
          where
            by_count : (r : Option ℕ) → read_u16 bytes 4 ≡ r → goal
            by_count None h = rw (e, g, h) (omega arith)
            by_count (Some count) h = by_test (ltb (length bytes) (record_place 12 kind count)) refl
              where
                by_test : (b : Bool) → ltb (length bytes) (record_place 12 kind count) ≡ b → goal
                by_test true t = rw (e, g, h, t) (omega arith)
                by_test false t =
                    rw (e, g, h, t)
                    (record { inside = omega (arith, ltb-false (length bytes) (record_place 12 kind count) t); found = λ glyph. rw (e, g, h) })
        by_format_lem (Format'.Trimmed head) g = rw (e, g) (omega arith)
        by_format_lem Format'.Unknown g = rw (e, g) (omega arith)

pub records_lie : (bytes : List ℕ) {kind : Kind} {count : ℕ} → records_of bytes ≡ Some (record { kind = kind; count = count }) → Lies bytes kind count
records_lie bytes e = subst (λ (r : Option Records). Lying bytes r) e (lying bytes)

-- each of them
pub record_lies : (kind : Kind) {index count n : ℕ} → index < count → record_place 12 kind count ≤ n → record_place 12 kind index + 4 ≤ n
record_lies Ranges h k = omega arith
record_lies Arrays h k = omega arith
record_lies Singles h k = omega arith

-- where a glyph lies from a record that lies in the table
module _ (bytes : List ℕ) (glyph index : ℕ) where
  side_is : (kind : Kind) → record_place 12 kind index + 4 ≤ length bytes
      → against glyph (first_at bytes kind (record_place 12 kind index)) (last_at bytes (record_place 12 kind index)) ≡ side_of_record bytes 12 kind glyph index
  unfolding side_of_record side_of_range side_of_array side_of_single
  side_is Ranges h =
      rw (read_u16_got bytes (record_place 12 Ranges index) (omega arith), read_u16_got bytes (record_place 12 Ranges index + 2) (omega arith), side_of_range)
  side_is Arrays h =
      rw (read_u16_got bytes (record_place 12 Arrays index + 2) (omega arith), read_u16_got bytes (record_place 12 Arrays index) (omega arith), side_of_array)
  side_is Singles h = rw (read_u16_got bytes (record_place 12 Singles index) (omega arith), side_of_single)

  module _ (kind : Kind) (h : record_place 12 kind index + 4 ≤ length bytes) {place last : ℕ} (p : place ≡ record_place 12 kind index) (l : last ≡ u16_at bytes place) where
    last_is : last ≡ last_at bytes (record_place 12 kind index)
    last_is = l ∙ ap (u16_at bytes) p

    pub side_right : last < glyph → Side'.Right ≡ side_of_record bytes 12 kind glyph index
    side_right b = rw (lt-ltb _ glyph (subst (λ (n : ℕ). n < glyph) last_is b)) at (side_is kind h)

    module _ {first : ℕ} (a : glyph ≤ last) (f : first ≡ first_at bytes kind place) where
      first-is : first ≡ first_at bytes kind (record_place 12 kind index)
      first-is = f ∙ ap (first_at bytes kind) p

      pub side_left : glyph < first → Side'.Left ≡ side_of_record bytes 12 kind glyph index
      side_left b =
          rw (le-ltb _ glyph (subst (λ (n : ℕ). glyph ≤ n) last_is a), lt-ltb glyph _ (subst (λ (n : ℕ). glyph < n) first-is b)) at (side_is kind h)

      pub side_here : first ≤ glyph → Side'.Here ≡ side_of_record bytes 12 kind glyph index
      side_here b =
          rw (le-ltb _ glyph (subst (λ (n : ℕ). glyph ≤ n) last_is a), le-ltb glyph _ (subst (λ (n : ℕ). n ≤ glyph) first-is b)) at (side_is kind h)

-- what a search finds is what becomes of the glyph
pub sought_spot : (bytes : List ℕ) {kind : Kind} {count : ℕ} → records_of bytes ≡ Some (record { kind = kind; count = count }) → (glyph : ℕ) {spot : Spot}
    → spot ≡ searched bytes 12 (Glyphs kind) count glyph → becomes glyph (element_in bytes kind glyph spot) ≡ becomes glyph (lookup_at bytes glyph)
sought_spot bytes {kind} e glyph s = ap (λ (x : Spot). becomes glyph (element_in bytes kind glyph x)) s ∙ ap (becomes glyph) (sym ((records_lie bytes e).found glyph))
