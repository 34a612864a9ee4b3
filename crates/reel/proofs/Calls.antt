-- Each way out of the code leaves what the definitions say.
use Prim.Native.Nat.{ℕ, ◌+◌, ◌-◌, ◌≤◌}
use mathlib.Core.Path.{◌≡◌, ◌∙◌, ap}
use mathlib.Core.Bool.{true, false}
use mathlib.Core.List.{List, ◌++◌}
use native.Mathlib.Omega.{arith}
use lib.ListN.{take, drop}
use borrow.Rule.Slice.PartMut.{mid_of, put_mid}
use Rattle.answers.specs.declared.Answer.TheVariants as Answer'
use Rattle.answers.specs.declared.Refusal.TheVariants as Refusal'
use Rattle.line.specs.Line.{Line, line_of}
use Rattle.morx.specs.Calls.{run_call, run_leaves}
use Rattle.morx.specs.Work.{run_reply_of}
use Rattle.morx.specs.declared.Choices.{Choices}
use Rattle.morx.specs.declared.RunReply.{RunReply}
use Rattle.reel.specs.Reel.{Reel, is_lent, lines_of, reel_answer, reel_leaves}
use Rattle.reel.specs.Morx.{run_by, table_leaves}
use Rattle.reel.specs.Work.{span_line, over}
use Rattle.reel.specs.declared.Span.{Span}
use Rattle.reel.proofs.Going.{Going, going_done}
use Rattle.reel.proofs.Kept.{run_keeps}

size_again : (at size : ℕ) → at + size - at ≡ size
size_again at size = omega arith

put_over : (at size : ℕ) (xs : List ℕ) {ys zs : List ℕ} → ys ≡ zs → put_mid at (at + size - at) xs ys ≡ over at size xs zs
unfolding over
put_over at size xs {ys} {zs} e =
    ap (λ (n : ℕ). take at xs ++ (ys ++ drop n (drop at xs))) (size_again at size) ∙ ap (λ (part : List ℕ). take at xs ++ (part ++ drop size (drop at xs))) e

-- the run of a part
module _ (table : List ℕ) (start : ℕ) (choices : Choices) (requests : List ℕ) (span : Span) (glyphs tags homes : List ℕ) (used : ℕ) where
  abbrev lent_line : Line
  lent_line =
      line_of
      (mid_of span.at (span.at + span.room - span.at) glyphs)
      (mid_of span.at (span.at + span.room - span.at) tags)
      (mid_of span.from (span.from + span.count - span.from) homes)
      used

  abbrev there : Line
  there = span_line span glyphs tags homes used

  lent_there : lent_line ≡ there
  unfolding span_line
  lent_there =
      ap (λ (n : ℕ). line_of (mid_of span.at n glyphs) (mid_of span.at n tags) (mid_of span.from (span.from + span.count - span.from) homes) used)
      (size_again span.at span.room)
      ∙ ap (λ (n : ℕ). line_of (mid_of span.at span.room glyphs) (mid_of span.at span.room tags) (mid_of span.from n homes) used)
      (size_again span.from span.count)

  pub part_reply : {reply : RunReply} → reply ≡ run_reply_of (run_call table start choices lent_line requests) lent_line
      → reply ≡ run_reply_of (run_call table start choices there requests) there
  part_reply r = r ∙ ap (λ (l : Line). run_reply_of (run_call table start choices l requests) l) lent_there

  -- one of its slices
  pub part_left : (at size : ℕ) (slice : List ℕ) (of : Line → List ℕ) {after : List ℕ} → after ≡ of (run_leaves table start choices lent_line requests)
      → put_mid at (at + size - at) slice after ≡ over at size slice (of (run_leaves table start choices there requests))
  part_left at size slice of e = put_over at size slice (e ∙ ap (λ (l : Line). of (run_leaves table start choices l requests)) lent_there)

-- what stands in the slices that were lent
pub record Left (after left : Reel) : Type 0 where
  pub used : after.used ≡ left.used
  pub answers : after.answers ≡ left.answers
  pub heads : after.heads ≡ left.heads
  pub glyphs : after.glyphs ≡ left.glyphs
  pub tags : after.tags ≡ left.tags
  pub homes : after.homes ≡ left.homes

left_by : {r s : Reel} → r ≡ s → Left r s
left_by e =
    record {
      used = ap (λ (x : Reel). x.used) e;
      answers = ap (λ (x : Reel). x.answers) e;
      heads = ap (λ (x : Reel). x.heads) e;
      glyphs = ap (λ (x : Reel). x.glyphs) e;
      tags = ap (λ (x : Reel). x.tags) e;
      homes = ap (λ (x : Reel). x.homes) e;
    }

module _ (table : List ℕ) (start : ℕ) (choices : Choices) (requests : List ℕ) where
  -- the loop over all lines
  pub all-ran : (r₀ r : Reel) (at from i : ℕ) → Going (run_by table start choices requests) r₀ r at from i → lines_of r₀ ≤ i
      → Left r (table_leaves table start choices requests r₀)
  unfolding table_leaves
  all-ran r₀ r at from i g h = left_by (going_done (run_by table start choices requests) (run_keeps table start choices requests) r₀ r at from i g h)

  -- a call that is refused
  pub no_reel : (r : Reel) → is_lent r ≡ false → Left r (table_leaves table start choices requests r)
  unfolding table_leaves reel_leaves
  no_reel r e = left_by (rw e)

pub answers-reel : (r : Reel) → is_lent r ≡ false → Answer'.Refused Refusal'.Reel ≡ reel_answer r
unfolding reel_answer
answers-reel r e = rw e

pub answers-done : (r : Reel) → is_lent r ≡ true → Answer'.Done ≡ reel_answer r
unfolding reel_answer
answers-done r e = rw e
