-- The loop that tests every line.
use Prim.Native.Nat.{ℕ, ◌+◌, ◌-◌, ◌<◌, ◌≤◌}
use mathlib.Core.Path.{◌≡◌, ◌∙◌, sym, ap, ap₂}
use mathlib.Core.Bool.{Bool, true, false, not}
use mathlib.Core.List.{List}
use native.Mathlib.Numerals.{add-one}
use native.Mathlib.Omega.{arith}
use lib.IntN.{ℤ}
use lib.ListN.{length, get_or, take, drop}
use borrow.Author.Tests.{not-true, not-false}
use Rattle.laws.specs.Lists.{every}
use Rattle.laws.proofs.Lists.{every-none, every_more, every_fails}
use Rattle.line.specs.Line.{Line, line_of}
use Rattle.kerning.specs.Line.{is_taken}
use Rattle.reel.specs.Parts.{place_of, part_of}
use Rattle.reel.specs.Work.{Inside, span_line}
use Rattle.reel.specs.declared.Span.{Span}
use Rattle.reel.proofs.Parts.{place_first, place_next, part_inside}
use Rattle.report.specs.Report.{Lines, count_of, line_at, along_at, are_taken}
use Rattle.report.specs.Work.{Cut, span_along}

size_again : (at size : ℕ) → at + size - at ≡ size
size_again at size = omega arith

-- a line lent by its part
module _ (span : Span) (glyphs tags homes : List ℕ) (along : List ℤ) (used : ℕ) where
  pub taken-there : {r : Bool}
      → r ≡ is_taken
      (line_of
      (take (span.at + span.room - span.at) (drop span.at glyphs))
      (take (span.at + span.room - span.at) (drop span.at tags))
      (take (span.from + span.count - span.from) (drop span.from homes))
      used)
      (take (span.at + span.room - span.at) (drop span.at along))
      → r ≡ is_taken (span_line span glyphs tags homes used) (span_along span along)
  unfolding span_line span_along
  taken-there e =
      e
      ∙ ap
      (λ (n : ℕ).
      is_taken (line_of (take n (drop span.at glyphs)) (take n (drop span.at tags)) (take (span.from + span.count - span.from) (drop span.from homes)) used)
      (take n (drop span.at along)))
      (size_again span.at span.room)
      ∙ ap
      (λ (n : ℕ).
      is_taken (line_of (take span.room (drop span.at glyphs)) (take span.room (drop span.at tags)) (take n (drop span.from homes)) used)
      (take span.room (drop span.at along)))
      (size_again span.from span.count)

-- so far every line is taken
pub record Scanned (r : Lines) (at from i : ℕ) : Type 0 where
  pub cut : Cut r
  pub within : i ≤ count_of r
  pub few : i ≤ 255
  pub at_place : at ≡ place_of r.rooms i
  pub from_place : from ≡ place_of r.characters i
  pub all : every (λ k. is_taken (line_at r k) (along_at r k)) i ≡ true

module _ (r : Lines) where
  pub scanned-start : Cut r → Scanned r 0 0 0
  scanned-start c =
      record {
        cut = c;
        within = omega arith;
        few = omega arith;
        at_place = sym (place_first r.rooms);
        from_place = sym (place_first r.characters);
        all = every-none _;
      }

  module _ {at from i : ℕ} (s : Scanned r at from i) (h : i < count_of r) where
    abbrev here : Span
    here = record { at = at; room = get_or r.rooms i 0; from = from; count = get_or r.characters i 0 }

    pub glyphs-inside : Inside here (length r.glyphs) (length r.tags) (length r.homes)
    glyphs-inside =
        let g = part_inside r.rooms i h in
        let c = part_inside r.characters i (omega (arith, h, s.cut.all-characters)) in
        record {
          glyphs_fit = omega (arith, g, s.at_place, s.cut.whole-glyphs);
          tags_fit = omega (arith, g, s.at_place, s.cut.whole-tags);
          homes_fit = omega (arith, c, s.from_place, s.cut.whole-homes);
        }

    pub along-inside : at + get_or r.rooms i 0 ≤ length r.along
    along-inside = omega (arith, part_inside r.rooms i h, s.at_place, s.cut.whole-along)

    abbrev line_from : (at from : ℕ) → Line
    line_from at from =
        line_of
        (take (get_or r.rooms i 0) (drop at r.glyphs))
        (take (get_or r.rooms i 0) (drop at r.tags))
        (take (get_or r.characters i 0) (drop from r.homes))
        (get_or r.used i 0)

    this : {t : Bool} → t ≡ is_taken (span_line here r.glyphs r.tags r.homes (get_or r.used i 0)) (span_along here r.along)
        → t ≡ is_taken (line_at r i) (along_at r i)
    unfolding span_line span_along line_at along_at part_of
    this e =
        e
        ∙ ap₂ (λ a f. is_taken (line_from a f) (take (get_or r.rooms i 0) (drop a r.along))) s.at_place s.from_place

    module _ {t : Bool} (e : t ≡ is_taken (span_line here r.glyphs r.tags r.homes (get_or r.used i 0)) (span_along here r.along)) where
      pub scanned_fails : not t ≡ true → false ≡ are_taken r
      unfolding are_taken
      scanned_fails n = sym (every_fails (λ k. is_taken (line_at r k) (along_at r k)) (count_of r) i (sym (this e) ∙ not-true _ n) h)

      pub scanned-next : not t ≡ false → Scanned r (at + get_or r.rooms i 0) (from + get_or r.characters i 0) (i + 1)
      scanned-next y =
          record {
            cut = s.cut;
            within = omega arith;
            few = omega (arith, s.cut.few, h);
            at_place = ap (λ (n : ℕ). n + get_or r.rooms i 0) s.at_place ∙ place_next r.rooms i;
            from_place = ap (λ (n : ℕ). n + get_or r.characters i 0) s.from_place ∙ place_next r.characters i;
            all =
                ap (every (λ k. is_taken (line_at r k) (along_at r k))) (add-one i)
                ∙ every_more (λ k. is_taken (line_at r k) (along_at r k)) i s.all (sym (this e) ∙ not-false _ y);
          }

  pub scanned-done : {at from i : ℕ} → Scanned r at from i → count_of r ≤ i → true ≡ are_taken r
  unfolding are_taken
  scanned-done {at} {from} {i} s h = sym (ap (every (λ k. is_taken (line_at r k) (along_at r k))) (sym ended) ∙ s.all)
    where
      ended : i ≡ count_of r
      ended = omega (arith, h, s.within)
