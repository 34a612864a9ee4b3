-- The loop of the survey, and what makes a record bad.
use Rattle.std.specs.Prelude.{Option, Some, None}
use Prim.Native.Nat.{ℕ, zero, suc, ◌+◌, ◌<◌, ◌≤◌}
use mathlib.Core.Path.{◌≡◌, refl, sym, ◌∙◌, ap}
use mathlib.Core.Bool.{Bool, true, false}
use mathlib.Core.List.{List}
use native.Mathlib.Numerals.{add-one}
use native.Mathlib.Omega.{arith}
use lib.Dec.{leb}
use borrow.Author.Tests.{le-leb, lt-leb}
use Rattle.laws.specs.Lists.{both}
use Rattle.parse.specs.Reads.{inside}
use Rattle.tables.specs.Records.{stride_of, record_place, last_at}
use Rattle.tables.specs.Survey.{record_in, record_at, floor_of, in_order, scan, scanned}
use Rattle.tables.specs.declared.records.Kind.{Kind}
use Rattle.tables.specs.declared.survey.Record.{Record}
use Rattle.tables.specs.declared.survey.Surveyed.{Surveyed}
use Rattle.tables.specs.declared.survey.Surveyed.TheVariants.{Sorted, Bad}

-- what is left to scan gives what the whole scan gives
pub record Scanning (good : ℕ → Bool) (count : ℕ) (whole : Surveyed) (i : ℕ) : Type 0 where
  pub left : ℕ
  pub exactly : i + left ≡ count
  pub same : scan good left i ≡ whole

pub scan-start : (good : ℕ → Bool) (count : ℕ) → Scanning good count (scan good count 0) 0
scan-start good count = record { left = count; exactly = omega arith; same = refl }

scan_step : (good : ℕ → Bool) (left i : ℕ) → good i ≡ true → scan good (suc left) i ≡ scan good left (suc i)
unfolding scan
scan_step good left i e = rw (e, scan)

scan-stop : (good : ℕ → Bool) (left i : ℕ) → good i ≡ false → scan good (suc left) i ≡ Bad i
unfolding scan
scan-stop good left i e = rw (e, scan)

scan-none : (good : ℕ → Bool) (i : ℕ) → scan good 0 i ≡ Sorted
unfolding scan
scan-none good i = refl

module _ {good : ℕ → Bool} {count i : ℕ} {whole : Surveyed} (s : Scanning good count whole i) where
  one_more : i < count → (n : ℕ) × (s.left ≡ suc n)
  one_more h = go s.left refl
    where
      go : (n : ℕ) → s.left ≡ n → (m : ℕ) × (s.left ≡ suc m)
      go zero e = absurd (omega (arith, s.exactly))
      go (suc m) e = (m, e)

  at_last : (n : ℕ) → s.left ≡ n → scan good n i ≡ whole
  at_last n e = rw e at s.same

  pub scan-next : i < count → good i ≡ true → Scanning good count whole (i + 1)
  scan-next h e =
      let (n, l) = one_more h in
      record {
        left = n;
        exactly = omega (arith, s.exactly);
        same = rw (add-one i) (sym (scan_step good n i e) ∙ at_last (suc n) l);
      }

  pub scan-bad : i < count → good i ≡ false → Bad i ≡ whole
  scan-bad h e = let (n, l) = one_more h in sym (scan-stop good n i e) ∙ at_last (suc n) l

  pub scan-done : count ≤ i → Sorted ≡ whole
  scan-done h = sym (scan-none good i) ∙ at_last 0 (omega (arith, s.exactly))

-- a record that was read has the last glyph that stands there
whole-last : (bytes : List ℕ) (kind : Kind) (place : ℕ) {r : Record} → record_in bytes kind place ≡ Some r → r.last ≡ last_at bytes place
unfolding record_in
whole-last bytes kind place {r} e = go (inside bytes place (stride_of kind)) refl
  where
    go : (t : Bool) → inside bytes place (stride_of kind) ≡ t → r.last ≡ last_at bytes place
    go true i = cc
    go false i = cc

-- the survey's loop at record i: its floor is the definition's
pub record Surveying (bytes : List ℕ) (kind : Kind) (count floor i : ℕ) : Type 0 where
  pub scanning : Scanning (in_order bytes kind) count (scanned bytes kind count) i
  pub at_floor : floor ≡ floor_of bytes kind i

pub surveying_start : (bytes : List ℕ) (kind : Kind) (count : ℕ) → Surveying bytes kind count 0 0
unfolding scanned floor_of
surveying_start bytes kind count = record { scanning = scan-start (in_order bytes kind) count; at_floor = refl }

both_false : (t : Bool) → both t false ≡ false
both_false true = refl
both_false false = refl

module _ {bytes : List ℕ} {kind : Kind} {count floor i : ℕ} (s : Surveying bytes kind count floor i) (h : i < count) {o : Option Record} (e : o ≡ record_at bytes kind i) where
  pub bad_cut : o ≡ None → Bad i ≡ scanned bytes kind count
  unfolding in_order
  bad_cut f = scan-bad s.scanning h (rw (sym e ∙ f, in_order))

  module _ {r : Record} (f : o ≡ Some r) where
    pub bad_low : r.first < floor → Bad i ≡ scanned bytes kind count
    unfolding in_order
    bad_low k = scan-bad s.scanning h (rw (sym e ∙ f, ← s.at_floor, lt-leb floor r.first k, in_order))

    pub bad_turned : r.last < r.first → Bad i ≡ scanned bytes kind count
    unfolding in_order
    bad_turned k = scan-bad s.scanning h (rw (sym e ∙ f, lt-leb r.first r.last k, in_order) (both_false (leb (floor_of bytes kind i) r.first)))

    pub surveying_next : floor ≤ r.first → r.first ≤ r.last → Surveying bytes kind count (r.last + 1) (i + 1)
    unfolding in_order floor_of record_at
    surveying_next k l =
        record {
          scanning = scan-next s.scanning h (rw (sym e ∙ f, ← s.at_floor, le-leb floor r.first k, le-leb r.first r.last l, in_order));
          at_floor = rw (add-one i, add-one r.last) (ap suc (whole-last bytes kind (record_place 12 kind i) (sym e ∙ f)));
        }

pub surveying_done : {bytes : List ℕ} {kind : Kind} {count floor i : ℕ} → Surveying bytes kind count floor i → count ≤ i
    → Sorted ≡ scanned bytes kind count
surveying_done s h = scan-done s.scanning h
