-- Demand 3: the line stays valid, every character belongs to exactly one place, the one that the history gives, and the length is
-- the starting length and the glyphs inserted, never above the room. It holds over changes and over calls, from any valid line
-- and from a fresh one. A pass that comes later owes an `Honest`: which changes it makes, and that they are legal.
use Rattle.std.specs.Prelude.{Ok}
use Prim.Native.Nat.{ℕ}
use mathlib.Core.Path.{◌≡◌}
use mathlib.Core.List.{List}
use lib.ListN.{length}
use Rattle.answers.specs.Refuse.{refuse}
use Rattle.line.specs.Line.{Line, Valid}
use Rattle.line.specs.Edits.{Edit}
use Rattle.line.specs.Changes.{Change, history_of, apply_all}
use Rattle.line.specs.Entries.{fresh_of, fresh_tests, LoneVerb, verb_call, verb_changes}
use Rattle.line.specs.History.{FromLine, FromFresh, Fits, Honest, left_by, history_by, start_of}
use Rattle.line.proofs.Histories.{By, by_changes, by_calls, placed, starts}
use Rattle.line.proofs.FreshLaws.{fresh-valid, fresh-characters, fresh_starts}
use Rattle.line.proofs.VerbLaws.{verb-made, verb-legal}

-- any legal changes, on any valid line
pub over-changes : (changes : List Change) (l : Line) → Valid l → Fits changes l → FromLine l (history_of changes) (apply_all changes l)
over-changes changes l v fits = placed (start_of l) (history_of changes) (starts l v) (by_changes changes l v fits)

-- any sequence of calls, on any valid line
module _ {Call : Type 0} (leaves : Call → Line → Line) (makes : Call → Line → List Change) (honest : Honest leaves makes) where
  pub over_calls : (calls : List Call) (l : Line) → Valid l → FromLine l (history_by leaves makes calls l) (left_by leaves makes calls l)
  over_calls calls l v = placed (start_of l) (history_by leaves makes calls l) (starts l v) (by_calls leaves makes honest calls l v)

-- the same on a line that `fresh` has made: each character starts at its own place, and the length is at first the characters typed
module _ (glyphs tags homes : List ℕ) (taken : refuse (fresh_tests glyphs tags homes) ≡ (Ok tt)) where
  as_typed : (history : List Edit) (l : Line) → By (fresh_of glyphs tags homes) history l → FromFresh (length glyphs) (length homes) history l
  unfolding fresh_of
  as_typed history l by =
      rw (fresh-characters glyphs tags homes taken) at (placed (λ c. c) history (fresh_starts glyphs tags homes taken) by)

  module _ {Call : Type 0} (leaves : Call → Line → Line) (makes : Call → Line → List Change) (honest : Honest leaves makes) where
    pub fresh-over_calls : (calls : List Call)
        → FromFresh (length glyphs) (length homes) (history_by leaves makes calls (fresh_of glyphs tags homes)) (left_by leaves makes calls (fresh_of glyphs tags homes))
    fresh-over_calls calls =
        as_typed (history_by leaves makes calls (fresh_of glyphs tags homes)) (left_by leaves makes calls (fresh_of glyphs tags homes))
        (by_calls leaves makes honest calls (fresh_of glyphs tags homes) (fresh-valid glyphs tags homes taken))

-- lone verbs are such calls
pub verbs_honest : Honest
    (λ (call : LoneVerb) l. (verb_call l call.verb call.start call.end).line)
    (λ (call : LoneVerb) l. verb_changes l call.verb call.start call.end)
verbs_honest =
    record {
      made = λ call l v. verb-made l call.verb call.start call.end;
      legal = λ call l v. verb-legal l v call.verb call.start call.end;
    }
