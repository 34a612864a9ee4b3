-- For the code alone; no entry and no promise rests on it, and nobody has to believe it. What the parts of the code answer and leave: an action's
-- numbers, those of actions, of an entry and of a step, and a run of steps.
use Rattle.std.specs.Prelude.{ℕ, zero, suc, ◌+◌, ◌≡◌, Bool, true, false, List, [], ◌++◌, leb, Option, Some, None}
use Rattle.answers.specs.declared.Answer.{Answer}
use Rattle.answers.specs.declared.Answer.TheVariants as Answer'
use Rattle.state_tables.specs.Classes.{class_of}
use Rattle.indexes.specs.Index.{classes_by}
use Rattle.state_tables.specs.declared.States.{States}
use Rattle.state_tables.specs.declared.entries.Entry.{Entry}
use Rattle.line.specs.Line.{Line}
use Rattle.line.specs.Changes.{apply_all}
use Rattle.machine.specs.Pass.{Stepped, Passed, is_done}
use Rattle.machine.specs.Work.{glyph_at}
use Rattle.ligature.specs.Ligature.{Ligation, stack_of, changes_of, ligations_of, stored_in, Acts, acts, Work, entered, Ran, over, ran, next}
use Rattle.ligature.specs.declared.actions.Action.{Action}
use Rattle.ligature.specs.declared.actions.Action.TheVariants.{Adds, Makes}
use Rattle.ligature.specs.declared.Stack.{Stack}
use Rattle.ligature.specs.declared.Reached.{Reached}
use Rattle.ligature.specs.declared.LigatureState.{LigatureState}
use Rattle.ligature.specs.declared.LigatureStep.{LigatureStep}

-- the sum after an action
abbrev pub sum_of : Option Action → ℕ
sum_of None = 0
sum_of (Some (Adds sum)) = sum
sum_of (Some (Makes sum ligature last)) = sum

-- the line after ligatures
abbrev pub ligated : List Ligation → Line → Line
ligated made l = apply_all (changes_of made) l

-- the cycle count behind actions and an entry that don't end the step
abbrev pub spent : (ended : Bool) → (cycles : ℕ) → Option ℕ
spent true cycles = None
spent false cycles = Some cycles

abbrev pub reached : Ran → Reached
reached r = record { answer = r.answer; state = r.state }

-- what stands behind a part of the code that is lent a stack and a line
pub record Stands (A : Type 0) : Type 0 where
  pub answer : A
  pub stack : Stack
  pub line : Line

-- its answer, the stack and the slices of the line that it leaves are these
pub record Leaves {A : Type 0} (w : Stands A) (answer : A) (stack : Stack) (glyphs homes : List ℕ) : Type 0 where
  pub answers : answer ≡ w.answer
  pub stands : stack ≡ w.stack
  pub written : glyphs ≡ w.line.glyphs
  pub joined : homes ≡ w.line.homes

-- behind an action at a slot
abbrev pub after_action : Action → (slot : ℕ) → Stack → Line → Stands Unit
after_action action slot stack l =
    record {
      answer = tt;
      stack = stack_of stack.places (stored_in (Some action) slot stack.glyphs) stack.depth;
      line = ligated (ligations_of (Some action) stack.places slot stack.depth) l;
    }

-- behind a list of actions, an entry and a step
abbrev pub after_acts : List ℕ → Stack → (number cycles : ℕ) → Line → Stands (Option ℕ)
after_acts bytes stack number cycles l =
    let a : Acts = acts bytes stack.places stack.depth 34 number stack.depth 0 cycles stack.glyphs [] in
    record { answer = spent a.ended a.cycles; stack = stack_of stack.places a.glyphs a.depth; line = ligated a.made l }

abbrev pub after_entry : List ℕ → Entry → Stack → Line → (index glyph cycles : ℕ) → Stands (Option ℕ)
after_entry bytes entry stack l index glyph cycles =
    let w : Work = entered bytes stack entry index glyph cycles in
    record { answer = spent w.ended w.cycles; stack = w.stack; line = ligated w.made l }

abbrev pub stands_after : Ran → Line → Stands Reached
stands_after r l = record { answer = reached r; stack = r.stack; line = ligated r.made l }

abbrev pub after_step : List ℕ → States → (class state : ℕ) → Stack → Line → (index glyph : ℕ) → Stands Reached
after_step bytes states class state stack l index glyph = stands_after (ran bytes states index glyph class 18 state stack 0 []) l

module _ (classes : ℕ → ℕ) (bytes : List ℕ) (states : States) where
  -- so many steps from a place on, behind those so far; one that is not DONE is the last
  unfoldable pub run_from : (steps : ℕ) → Ran → Line → (place glyph : ℕ) → (ends : Bool) → Ran
  run_from zero r l place glyph ends = r
  run_from (suc steps) r l place glyph ends =
      let n : Ran = next classes bytes states r.state r.stack place glyph ends in
      let k : Line = ligated n.made l in
      let all : Ran = over n.answer n.state n.stack (r.made ++ n.made) in
      elim (is_done n.answer) [
        | false ↦ all
        | true ↦ run_from steps all k (place + 1) (glyph_at k.glyphs k.used (place + 1)) (leb k.used (place + 1))
      ]

-- the pass and the lone step, by the classes of an index
unfoldable pub run : (lent : List ℕ) → List ℕ → States → (steps state : ℕ) → Stack → Line → (place glyph : ℕ) → (ends : Bool) → Ran
run lent bytes states steps state stack l place glyph ends =
    run_from (classes_by lent (class_of bytes states)) bytes states steps (over Answer'.Done state stack []) l place glyph ends

abbrev pub after_run : (lent : List ℕ) → List ℕ → States → (steps state : ℕ) → Stack → Line → (index glyph : ℕ) → (ends : Bool) → Stands Reached
after_run lent bytes states steps state stack l index glyph ends = stands_after (run lent bytes states steps state stack l index glyph ends) l

-- what a pass answers and leaves
pub record Ends (p : Passed) (l : Line) (answer : Answer) (glyphs homes : List ℕ) : Type 0 where
  pub answers : answer ≡ p.answer
  pub left : glyphs ≡ (apply_all p.changes l).glyphs
  pub joined : homes ≡ (apply_all p.changes l).homes

-- what a step hands back
abbrev pub step_of : Stepped LigatureState → LigatureStep
step_of r = record { answer = r.answer; state = r.state; advance = r.advance }
