-- The lone verb: its ways out, and that it makes the changes that it says, which are legal.
use Rattle.std.specs.Prelude.{Result, Ok, Err}
use Prim.Native.Nat.{ℕ, ◌%◌, ◌≤◌}
use mathlib.Core.Path.{◌≡◌, refl, ◌∙◌, sym}
use mathlib.Core.Bool.{Bool, true, false, cond}
use mathlib.Core.List.{List, [], ◌∷◌}
use native.Mathlib.Omega.{arith}
use lib.Dec.{eqb}
use lib.ListN.{length}
use Rattle.answers.specs.Refuse.{refuse}
use Rattle.answers.specs.declared.Refusal.{Refusal}
use Rattle.line.specs.Line.{Line, line_of, Valid}
use Rattle.line.specs.Edits.{inserted, added}
use Rattle.line.specs.Changes.{Change, edits_of, history_of, apply_all}
use Rattle.line.specs.Entries.{verb_tests, verb_makes, made_by, verb_changes, verb_call}
use Rattle.line.specs.History.{Fits}
use Rattle.line.proofs.Refusals.{passed-line}

-- a lone verb that is not refused has a valid line
pub verb_valid : (l : Line) (start end : ℕ) → refuse (verb_tests l start end) ≡ Ok tt → Valid l
unfolding verb_tests
verb_valid l start end e = passed-line l _ e

-- so the used part is in both slices
pub verb_fits : (glyphs tags homes : List ℕ) (used start end : ℕ) {check : Result Unit Refusal} → check ≡ refuse (verb_tests (line_of glyphs tags homes used) start end)
    → check ≡ Ok tt → (used ≤ length glyphs) × (used ≤ length tags)
verb_fits glyphs tags homes used start end e i =
    let v : Valid (line_of glyphs tags homes used) = verb_valid (line_of glyphs tags homes used) start end (sym e ∙ i) in
    omega arith

-- a lone verb inserts nothing
verb_inserts : (l : Line) (verb start end : ℕ) → inserted (history_of (verb_changes l verb start end)) ≡ 0
unfolding verb_changes verb_makes made_by history_of edits_of inserted added
verb_inserts l verb start end = by_check (refuse (verb_tests l start end))
  where
    by_number : (b : Bool) → inserted (history_of (cond b [] (Change.window start end verb ∷ []))) ≡ 0
    by_number true = refl
    by_number false = refl

    by_check : (c : Result Unit Refusal) → inserted (history_of (made_by c (verb_makes verb start end))) ≡ 0
    by_check (Ok tt) = by_number (eqb (verb % 16) 0)
    by_check (Err why) = refl

pub verb-legal : (l : Line) → Valid l → (verb start end : ℕ) → Fits (verb_changes l verb start end) l
verb-legal l v verb start end = rw (verb_inserts l verb start end) (omega (arith, v.within))

pub verb-made : (l : Line) (verb start end : ℕ) → (verb_call l verb start end).line ≡ apply_all (verb_changes l verb start end) l
unfolding verb_call
verb-made l verb start end = refl
