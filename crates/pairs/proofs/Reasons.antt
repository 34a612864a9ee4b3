-- Why a pair has no number: who speaks first, and that the pass adds nothing whatever it is.
use Rattle.std.specs.Prelude.{Result, Ok, Err, ℤ}
use Prim.Native.Nat.{ℕ, suc, ◌+◌}
use mathlib.Core.Path.{◌≡◌, refl, ap, ◌∙◌}
use mathlib.Core.List.{List, append-nil}
use lib.ListN.{get_or, drop}
use Rattle.tables.specs.Lookup.{lookup_at}
use Rattle.tables.specs.declared.units.Reading.TheVariants.{Crate}
use Rattle.tables.proofs.Sizes.{in_crate}
use Rattle.tables.specs.Search.{searched}
use Rattle.tables.specs.declared.records.Keys.TheVariants as Keys'
use Rattle.tables.specs.declared.records.Spot.TheVariants as Spot'
use Rattle.tables.specs.declared.lookup.Why.{Why}
use Rattle.tables.specs.declared.lookup.Why.TheVariants.{NotCovered}
use Rattle.pairs.specs.Pairs.{key_of, number_at, number_in, ordered_number, number_in_row, class_number, pair_number}
use Rattle.pairs.specs.Reply.{number_reply, reply_of}
use Rattle.pairs.specs.Pass.{every_place, last_below, pairs_below}
use Rattle.pairs.specs.declared.PairTable.{PairTable}
use Rattle.pairs.specs.declared.PairTable.TheVariants.{Ordered, Classes}

-- the answer for a pair passes it on
pub pair_passes_on : (bytes : List ℕ) (pairs : PairTable) (left right : ℕ) → reply_of bytes (Ok pairs) left right ≡ number_reply (pair_number bytes pairs left right)
unfolding reply_of
pair_passes_on bytes pairs left right = refl

-- a search that ends without the pair
pub absent-uncovered : (bytes : List ℕ) (first count left right : ℕ) → searched bytes first Keys'.Pairs count (key_of left right) ≡ Spot'.Absent
    → pair_number bytes (Ordered first count) left right ≡ Err NotCovered
unfolding pair_number ordered_number number_in
absent-uncovered bytes first count left right e = ap (number_in bytes first) e

-- of class pairs the left glyph's lookup speaks first, then the right one's, then the number's read
module _ (bytes : List ℕ) (rows columns array left right : ℕ) where
  pub left_speaks_first : (why : Why) → lookup_at (drop rows bytes) left ≡ Err why
      → pair_number bytes (Classes rows columns array Crate) left right ≡ Err why
  unfolding pair_number class_number
  left_speaks_first why e = rw (in_crate (drop rows bytes) left ∙ e, class_number)

  pub right_speaks_next : (row : ℕ) (why : Why) → lookup_at (drop rows bytes) left ≡ Ok row → lookup_at (drop columns bytes) right ≡ Err why
      → pair_number bytes (Classes rows columns array Crate) left right ≡ Err why
  unfolding pair_number class_number number_in_row
  right_speaks_next row why e f = rw (in_crate (drop rows bytes) left ∙ e, in_crate (drop columns bytes) right ∙ f, class_number)

  pub number_speaks_last : (row column : ℕ) → lookup_at (drop rows bytes) left ≡ Ok row → lookup_at (drop columns bytes) right ≡ Ok column
      → pair_number bytes (Classes rows columns array Crate) left right ≡ number_at bytes (array + row + column)
  unfolding pair_number class_number number_in_row
  number_speaks_last row column e f = rw (in_crate (drop rows bytes) left ∙ e, in_crate (drop columns bytes) right ∙ f, class_number)

-- two neighbours without a number add nothing
pub pass_drops : (number : (left right : ℕ) → Result ℤ Why) (glyphs : List ℕ) (place : ℕ) (why : Why)
    → number (get_or glyphs place 0) (get_or glyphs (suc place) 0) ≡ Err why
    → pairs_below every_place number glyphs (suc (suc place)) ≡ pairs_below every_place number glyphs (suc place)
unfolding pairs_below last_below
pass_drops number glyphs place why e = rw e (append-nil (pairs_below every_place number glyphs (suc place)))
