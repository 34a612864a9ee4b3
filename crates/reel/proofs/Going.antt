-- The loop over the lines: after i turns the first i lines have been run.
use Prim.Native.Nat.{ℕ, suc, ◌+◌, ◌<◌, ◌≤◌}
use mathlib.Core.Path.{◌≡◌, refl, ◌∙◌, sym, ap, subst}
use mathlib.Core.List.{List}
use native.Mathlib.Numerals.{add-one}
use native.Mathlib.Omega.{arith}
use lib.ListN.{length, get_or, set}
use Rattle.answers.specs.Numbers.{number_of}
use Rattle.line.specs.Line.{Line}
use Rattle.morx.specs.Run.{Ran}
use Rattle.morx.specs.Calls.{run_call, run_leaves}
use Rattle.morx.specs.Work.{run_reply_of}
use Rattle.morx.specs.declared.Choices.{Choices}
use Rattle.morx.specs.declared.RunReply.{RunReply}
use Rattle.reel.specs.Parts.{place_of, part_of, with_part}
use Rattle.reel.specs.Reel.{Reel, reel_of, Lent, lines_of, parts_of, heads_behind, ran_part, reel_leaves}
use Rattle.reel.specs.Runs.{with_line, run_line, run_lines}
use Rattle.reel.specs.Morx.{run_by}
use Rattle.reel.specs.Work.{Inside, span_line, over, Keeps}
use Rattle.reel.specs.declared.Span.{Span}
use Rattle.reel.proofs.Parts.{place_first, place_next}
use Rattle.reel.proofs.Lines.{reel_by, glyphs_fit, tags_fit, homes_fit}
use Rattle.reel.proofs.Orders.{run_lent, in_turn}
use Rattle.reel.proofs.Kept.{run_keeps}

pub record Going (run : Line → Ran) (r₀ r : Reel) (at from i : ℕ) : Type 0 where
  pub lent₀ : Lent r₀
  pub lent : Lent r
  pub within : i ≤ lines_of r₀
  pub at_place : at ≡ place_of r₀.rooms i
  pub from_place : from ≡ place_of r₀.characters i
  pub so_far : run_lines run (λ k. k) i r₀ ≡ r

module _ (run : Line → Ran) where
  pub going_start : (r₀ : Reel) → Lent r₀ → Going run r₀ r₀ 0 0 0
  unfolding run_lines
  going_start r₀ v =
      record {
        lent₀ = v;
        lent = v;
        within = omega arith;
        at_place = sym (place_first r₀.rooms);
        from_place = sym (place_first r₀.characters);
        so_far = refl;
      }

  pub going_done : (keeps : Keeps run) (r₀ r : Reel) (at from i : ℕ) → Going run r₀ r at from i → lines_of r₀ ≤ i → r ≡ reel_leaves run r₀
  going_done keeps r₀ r at from i g h =
      sym g.so_far ∙ ap (λ (n : ℕ). run_lines run (λ k. k) n r₀) ended ∙ in_turn run keeps r₀ g.lent₀
    where
      ended : i ≡ lines_of r₀
      ended = omega (arith, h, g.within)

next-line : (run : Line → Ran) (r₀ : Reel) (i : ℕ) → run_lines run (λ k. k) (suc i) r₀ ≡ run_line run i (run_lines run (λ k. k) i r₀)
unfolding run_lines
next-line run r₀ i = refl

-- one turn
module _ (table : List ℕ) (start : ℕ) (choices : Choices) (requests : List ℕ) (rooms characters used answers heads glyphs tags homes : List ℕ) (i : ℕ) where
  abbrev now : Reel
  now = reel_of rooms characters used answers heads glyphs tags homes

  abbrev run : Line → Ran
  run = run_by table start choices requests

  -- where line i lies
  abbrev here : ℕ → ℕ → Span
  here at from = record { at = at; room = get_or rooms i 0; from = from; count = get_or characters i 0 }

  abbrev line_here : ℕ → ℕ → Line
  line_here at from = span_line (here at from) glyphs tags homes (get_or used i 0)

  module _ {reply : RunReply} {glyphs' tags' homes' : List ℕ} {answer heads' : ℕ}
      (n : answer ≡ number_of reply.answer)
      (m : heads' ≡ heads_behind reply.answer (get_or heads i 0) reply.heads) where
    turned-at : reply ≡ run_reply_of (run_call table start choices (line_here (place_of rooms i) (place_of characters i)) requests) (line_here (place_of rooms i) (place_of characters i))
        → glyphs' ≡ over (place_of rooms i) (get_or rooms i 0) glyphs (run_leaves table start choices (line_here (place_of rooms i) (place_of characters i)) requests).glyphs
        → tags' ≡ over (place_of rooms i) (get_or rooms i 0) tags (run_leaves table start choices (line_here (place_of rooms i) (place_of characters i)) requests).tags
        → homes' ≡ over (place_of characters i) (get_or characters i 0) homes (run_leaves table start choices (line_here (place_of rooms i) (place_of characters i)) requests).homes
        → reel_of rooms characters (set used i reply.used) (set answers i answer) (set heads i heads') glyphs' tags' homes' ≡ run_line run i now
    unfolding run_line with_line ran_part parts_of part_of with_part span_line over run_leaves
    turned-at r g t h =
        reel_by
        (ap (λ (x : RunReply). set used i x.used) r)
        (ap (set answers i) (n ∙ ap (λ (x : RunReply). number_of x.answer) r))
        (ap (set heads i) (m ∙ ap (λ (x : RunReply). heads_behind x.answer (get_or heads i 0) x.heads) r))
        g t h

    pub going_next : {r₀ : Reel} {at from : ℕ} → r₀.rooms ≡ rooms → r₀.characters ≡ characters → Going run r₀ now at from i → i < length rooms
        → reply ≡ run_reply_of (run_call table start choices (line_here at from) requests) (line_here at from)
        → glyphs' ≡ over at (get_or rooms i 0) glyphs (run_leaves table start choices (line_here at from) requests).glyphs
        → tags' ≡ over at (get_or rooms i 0) tags (run_leaves table start choices (line_here at from) requests).tags
        → homes' ≡ over from (get_or characters i 0) homes (run_leaves table start choices (line_here at from) requests).homes
        → Going run r₀ (reel_of rooms characters (set used i reply.used) (set answers i answer) (set heads i heads') glyphs' tags' homes') (at + get_or rooms i 0) (from + get_or characters i 0) (i + 1)
    going_next {r₀} {at} {from} er ec going h r g t o =
        let ea : at ≡ place_of rooms i = going.at_place ∙ ap (λ (x : List ℕ). place_of x i) er in
        let ef : from ≡ place_of characters i = going.from_place ∙ ap (λ (x : List ℕ). place_of x i) ec in
        let turn = turned-at (rw (ea, ef) at r) (rw (ea, ef) at g) (rw (ea, ef) at t) (rw (ea, ef) at o) in
        record {
          lent₀ = going.lent₀;
          lent = subst Lent (sym turn) (run_lent run (run_keeps table start choices requests) now going.lent i h);
          within = omega (arith, h, ap (λ (x : List ℕ). length x) er);
          at_place = ap (λ (x : ℕ). x + get_or rooms i 0) ea ∙ place_next rooms i ∙ ap (λ (x : List ℕ). place_of x (i + 1)) (sym er);
          from_place = ap (λ (x : ℕ). x + get_or characters i 0) ef ∙ place_next characters i ∙ ap (λ (x : List ℕ). place_of x (i + 1)) (sym ec);
          so_far = so_much r₀ going.so_far ∙ sym turn;
        }
      where
        so_much : (r₀ : Reel) → run_lines run (λ k. k) i r₀ ≡ now → run_lines run (λ k. k) (i + 1) r₀ ≡ run_line run i now
        so_much r₀ e = ap (λ (k : ℕ). run_lines run (λ j. j) k r₀) (add-one i) ∙ next-line run r₀ i ∙ ap (run_line run i) e

  -- the line lies in the slices
  pub inside : {r₀ : Reel} {at from : ℕ} → r₀.rooms ≡ rooms → r₀.characters ≡ characters → Going run r₀ now at from i → i < length rooms
      → Inside (here at from) (length glyphs) (length tags) (length homes)
  inside {r₀} {at} {from} er ec going h =
      let ea : at ≡ place_of rooms i = going.at_place ∙ ap (λ (x : List ℕ). place_of x i) er in
      let ef : from ≡ place_of characters i = going.from_place ∙ ap (λ (x : List ℕ). place_of x i) ec in
      record {
        glyphs_fit = omega (arith, ea, glyphs_fit now going.lent i h);
        tags_fit = omega (arith, ea, tags_fit now going.lent i h);
        homes_fit = omega (arith, ef, homes_fit now going.lent i h);
      }

  -- and the next one begins within what fits
  pub at-fits : {r₀ : Reel} {at from : ℕ} → r₀.rooms ≡ rooms → Going run r₀ now at from i → i < length rooms → at + get_or rooms i 0 ≤ length glyphs
  at-fits {r₀} {at} er going h =
      let ea : at ≡ place_of rooms i = going.at_place ∙ ap (λ (x : List ℕ). place_of x i) er in
      omega (arith, ea, glyphs_fit now going.lent i h)

  pub from_fits : {r₀ : Reel} {at from : ℕ} → r₀.characters ≡ characters → Going run r₀ now at from i → i < length rooms
      → from + get_or characters i 0 ≤ length homes
  from_fits {r₀} {at} {from} ec going h =
      let ef : from ≡ place_of characters i = going.from_place ∙ ap (λ (x : List ℕ). place_of x i) ec in
      omega (arith, ef, homes_fit now going.lent i h)
