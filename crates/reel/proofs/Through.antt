-- Demand 3 for each line of a reel by itself: it is demand 3 over the calls that the line sees.
use Rattle.std.specs.Prelude.{Ok}
use Prim.Native.Nat.{ℕ, ◌<◌}
use mathlib.Core.Path.{◌≡◌, refl, ◌∙◌, sym, ap, subst}
use mathlib.Core.List.{List, [], ◌∷◌}
use lib.ListN.{length, get_or}
use Rattle.answers.specs.Refuse.{refuse}
use Rattle.line.specs.Line.{Line, Valid}
use Rattle.line.specs.Entries.{fresh_of, fresh_tests}
use Rattle.line.specs.History.{FromLine, FromFresh, left_by, history_by}
use Rattle.line.proofs.FreshLaws.{fresh-valid}
use Rattle.morx.specs.Run.{Ran}
use Rattle.morx.specs.Calls.{run_leaves}
use Rattle.morx.specs.Sequence.{Call, leaves, makes}
use Rattle.morx.specs.declared.Choices.{Choices}
use Rattle.morx.proofs.Demand3.{demand3, fresh-demand3}
use Rattle.reel.specs.Reel.{Reel, Lent, lines_of, Part, parts_of, ran_part}
use Rattle.reel.specs.Runs.{Fills, with_line}
use Rattle.reel.specs.Work.{Keeps}
use Rattle.reel.specs.Morx.{run_by, table_leaves}
use Rattle.reel.specs.Through.{Another, Step, step_leaves, steps_leave, calls_of}
use Rattle.reel.proofs.Lines.{own-fills, with_lent, line_same, line_other}
use Rattle.reel.proofs.Orders.{reel_lent, reel-rooms, reel-characters, reel_lines}
use Rattle.reel.proofs.Kept.{run_keeps}

-- a call on a valid line leaves a valid one in its slices
call_valid : (call : Call) (l : Line) → Valid l → Valid (leaves call l)
unfolding left_by history_by
call_valid call l v = (demand3 (call ∷ []) l v).valid

call_fills : (s : Reel) (k : ℕ) (call : Call) (l : Line) → Valid l → Fills s k l → Fills s k (leaves call l)
unfolding left_by history_by
call_fills s k call l v f =
    let d = demand3 (call ∷ []) l v in
    record {
      glyphs = d.same ∙ f.glyphs;
      tags = d.valid.paired ∙ d.same ∙ f.glyphs;
      homes = d.all ∙ f.homes;
    }

with_rooms : (s : Reel) (j : ℕ) (p : Part) → (with_line s j p).rooms ≡ s.rooms
unfolding with_line
with_rooms s j p = refl

with_characters : (s : Reel) (j : ℕ) (p : Part) → (with_line s j p).characters ≡ s.characters
unfolding with_line
with_characters s j p = refl

module _ (r : Reel) (k : ℕ) (h : k < lines_of r) where
  -- a reel that is lent as r is, with a line k
  record As (s : Reel) (l : Line) : Type 0 where
    pub lent : Lent s
    pub rooms : s.rooms ≡ r.rooms
    pub characters : s.characters ≡ r.characters
    pub line : (parts_of s k).line ≡ l

  inside : (s : Reel) (l : Line) → As s l → k < lines_of s
  inside s l a = subst (λ (rooms : List ℕ). k < length rooms) (sym a.rooms) h

  -- a reel is the line's run
  by_reel : (table : List ℕ) (start : ℕ) (choices : Choices) (requests : List ℕ) (s : Reel) (l : Line) → As s l
      → As (table_leaves table start choices requests s) (leaves (Call.run table start choices requests) l)
  unfolding table_leaves leaves run_leaves ran_part
  by_reel table start choices requests s l a =
      record {
        lent = reel_lent run keeps s a.lent;
        rooms = reel-rooms run keeps s a.lent ∙ a.rooms;
        characters = reel-characters run keeps s a.lent ∙ a.characters;
        line =
            ap (λ (p : Part). p.line) (reel_lines run keeps s a.lent k (inside s l a))
            ∙ ap (λ (x : Line). run_leaves table start choices x requests) a.line;
      }
    where
      run : Line → Ran
      run = run_by table start choices requests

      keeps : Keeps (run_by table start choices requests)
      keeps = run_keeps table start choices requests

  by_single : (call : Call) (s : Reel) (l : Line) → Valid l → As s l
      → As (with_line s k (record { line = leaves call (parts_of s k).line; answer = (parts_of s k).answer; heads = (parts_of s k).heads })) (leaves call l)
  by_single call s l v a =
      record {
        lent = with_lent s a.lent k (inside s l a) p fills;
        rooms = with_rooms s k p ∙ a.rooms;
        characters = with_characters s k p ∙ a.characters;
        line = ap (λ (q : Part). q.line) (line_same s a.lent k (inside s l a) p fills) ∙ ap (leaves call) a.line;
      }
    where
      p : Part
      p = record { line = leaves call (parts_of s k).line; answer = (parts_of s k).answer; heads = (parts_of s k).heads }

      fills : Fills s k (leaves call (parts_of s k).line)
      fills = call_fills s k call (parts_of s k).line (subst Valid (sym a.line) v) (own-fills s a.lent k (inside s l a))

  by_other : (j : ℕ) (p : Part) → Another r k j p → (s : Reel) (l : Line) → As s l → As (with_line s j p) l
  by_other j p o s l a =
      record {
        lent = with_lent s a.lent j there p fills;
        rooms = with_rooms s j p ∙ a.rooms;
        characters = with_characters s j p ∙ a.characters;
        line = ap (λ (q : Part). q.line) (line_other s a.lent j there p fills k (λ e. o.another (sym e))) ∙ a.line;
      }
    where
      there : j < lines_of s
      there = subst (λ (rooms : List ℕ). j < length rooms) (sym a.rooms) o.line

      fills : Fills s j p.line
      fills =
          record {
            glyphs = o.fills.glyphs ∙ ap (λ (rooms : List ℕ). get_or rooms j 0) (sym a.rooms);
            tags = o.fills.tags ∙ ap (λ (rooms : List ℕ). get_or rooms j 0) (sym a.rooms);
            homes = o.fills.homes ∙ ap (λ (characters : List ℕ). get_or characters j 0) (sym a.characters);
          }

  by_steps : (steps : List (Step r k)) (s : Reel) (l : Line) → Valid l → As s l → As (steps_leave r k steps s) (left_by leaves makes (calls_of r k steps) l)
  unfolding steps_leave step_leaves calls_of left_by
  by_steps [] s l v a = a
  by_steps (Step.reel table start choices requests ∷ steps) s l v a =
      by_steps steps _ _ (call_valid (Call.run table start choices requests) l v) (by_reel table start choices requests s l a)
  by_steps (Step.single call ∷ steps) s l v a = by_steps steps _ _ (call_valid call l v) (by_single call s l v a)
  by_steps (Step.other j p o ∷ steps) s l v a = by_steps steps _ l v (by_other j p o s l a)

  module _ (lent : Lent r) (steps : List (Step r k)) where
    -- the line afterwards is what its calls leave of it
    pub line_through : Valid (parts_of r k).line → (parts_of (steps_leave r k steps r) k).line ≡ left_by leaves makes (calls_of r k steps) (parts_of r k).line
    line_through v = (by_steps steps r (parts_of r k).line v (record { lent = lent; rooms = refl; characters = refl; line = refl })).line

    -- so demand 3 holds of it, from any valid line, and so from one that was read
    pub reel-demand3 : Valid (parts_of r k).line
        → FromLine (parts_of r k).line (history_by leaves makes (calls_of r k steps) (parts_of r k).line) (parts_of (steps_leave r k steps r) k).line
    reel-demand3 v =
        subst (FromLine (parts_of r k).line (history_by leaves makes (calls_of r k steps) (parts_of r k).line)) (sym (line_through v))
        (demand3 (calls_of r k steps) (parts_of r k).line v)

    -- and from a fresh one
    pub reel-fresh-demand3 : (glyphs tags homes : List ℕ) → refuse (fresh_tests glyphs tags homes) ≡ Ok tt → (parts_of r k).line ≡ fresh_of glyphs tags homes
        → FromFresh (length glyphs) (length homes) (history_by leaves makes (calls_of r k steps) (fresh_of glyphs tags homes)) (parts_of (steps_leave r k steps r) k).line
    reel-fresh-demand3 glyphs tags homes taken e =
        subst (FromFresh (length glyphs) (length homes) (history_by leaves makes (calls_of r k steps) (fresh_of glyphs tags homes)))
        (sym (line_through (subst Valid (sym e) (fresh-valid glyphs tags homes taken)) ∙ ap (left_by leaves makes (calls_of r k steps)) e))
        (fresh-demand3 glyphs tags homes taken (calls_of r k steps))
