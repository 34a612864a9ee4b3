-- The machine's steps and lone insertions add their insertions to the history, and these fit the room.
use Rattle.std.specs.Prelude.{Option, Some, None, Result}
use Prim.Native.Nat.{ℕ}
use mathlib.Core.Path.{◌≡◌, refl}
use mathlib.Core.Bool.{Bool}
use mathlib.Core.List.{List}
use native.Mathlib.Omega.{arith}
use lib.ListN.{length}
use Rattle.state_tables.specs.declared.States.{States}
use Rattle.line.specs.Line.{Line, Valid}
use Rattle.line.specs.Edits.{added, inserted}
use Rattle.line.specs.Changes.{edits_of, history_of}
use Rattle.line.specs.History.{Fits}
use Rattle.answers.specs.Refuse.{refuse}
use Rattle.answers.specs.declared.Answer.{Answer}
use Rattle.machine.specs.Pass.{Passed}
use Rattle.machine.specs.Machine.{refused_pass}
use Rattle.machine.proofs.Having.{if_passed_lem}
use Rattle.machine.proofs.Fitting.{inserted-both, fitting}
use Rattle.insertion.specs.Lists.{count_of, changes_of}
use Rattle.insertion.specs.Insertion.{next}
use Rattle.insertion.specs.Calls.{insertion}
use Rattle.insertion.specs.Lone.{on_line, lone_insertion, insert_tests, insert_call}
use Rattle.insertion.specs.declared.Insertion.{Insertion}
use Rattle.insertion.specs.declared.InsertionState.{InsertionState}
use Rattle.insertion.specs.declared.InsertionStep.{InsertionStep}
use Rattle.insertion.proofs.Lists.{Tries, made, over, lies_from, entered_tries, length-glyphs_at}
use Rattle.insertion.proofs.Shapes.{next_fits}

-- an insertion adds as many places as it has glyphs
inserted_edit : (bytes : List ℕ) (edit : Option Insertion) → inserted (history_of (changes_of bytes edit)) ≡ count_of edit
unfolding history_of edits_of inserted added
inserted_edit bytes None = refl
inserted_edit bytes (Some edit) = omega (arith, length-glyphs_at bytes edit.glyphs edit.count)

pub step_fits : (classes : ℕ → ℕ) (bytes : List ℕ) (states : States) (s : InsertionState) (l : Line) (i g : ℕ) (e : Bool) → Valid l
    → Fits (insertion.step classes bytes states s l i g e).changes l
step_fits classes bytes states s l i g e v =
    let step : InsertionStep = next classes bytes states s l.used (length l.glyphs) i g e in
    let f = next_fits classes bytes states s l.used (length l.glyphs) i g e v.within refl in
    omega (
      arith,
      f.within,
      inserted-both (changes_of bytes step.marked) (changes_of bytes step.current),
      inserted_edit bytes step.marked,
      inserted_edit bytes step.current,
    )

-- a lone insertion fits where it is made, and else changes nothing
tried_fits : (table : List ℕ) (l : Line) → Valid l → {t : Result (Option Insertion) Answer} → Tries table l.used (length l.glyphs) t → Fits (on_line table t).changes l
tried_fits table l v (made edit f) = omega (arith, f.within, inserted_edit table edit)
tried_fits table l v (over answer n) = fitting.none l v

pub insert-fits : (table : List ℕ) (start count place : ℕ) (l : Line) → Valid l → Fits (insert_call table start count place l).changes l
unfolding insert_call lone_insertion
insert-fits table start count place l v =
    if_passed_lem (λ (p : Passed). Fits p.changes l) refused_pass (λ why. fitting.none l v)
    (refuse (insert_tests (length table) l place)) (lone_insertion table start count place l)
    (tried_fits table l v (entered_tries table place count l.used (length l.glyphs) v.within (lies_from table start count)))
