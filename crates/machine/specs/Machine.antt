-- Passes and steps on a subtable of morx, for any machine.
use Rattle.std.specs.Prelude.{ℕ, ◌+◌, ◌≡◌, Bool, List, [], ◌∷◌, length, drop, Option}
use Rattle.answers.specs.Refuse.{Test, refuse}
use Rattle.answers.specs.declared.Refusal.{Refusal}
use Rattle.answers.specs.declared.Answer.TheVariants as Answer'
use Rattle.state_tables.specs.Classes.{class_of}
use Rattle.state_tables.specs.declared.States.{States}
use Rattle.line.specs.Line.{Line}
use Rattle.line.specs.Test.{line_test}
use Rattle.line.specs.Changes.{apply_all}
use Rattle.machine.specs.Head.{body_of}
use Rattle.machine.specs.Pass.{Step, Stepped, Passed, pass_from}
use Rattle.machine.specs.Call.{is_ready, pass_tests, if_passed, on_made, lone_step}

-- a kind of subtable: whether one that begins with these bytes can be used, and what the pass by it makes of a line that LINE has taken
pub record Subtable : Type 0 where
  pub is_open : List ℕ → Bool
  pub worked : List ℕ → Line → Passed

-- a refused pass answers so and changes nothing
abbrev pub refused_pass : Refusal → Passed
refused_pass why = record { answer = Answer'.Refused why; changes = [] }

module _ (subtable : Subtable) where
  -- a call of the pass on the subtable at `start`: TABLE, LINE, HEAD, then the pass
  unfoldable pub pass_call : List ℕ → (start : ℕ) → Line → Passed
  pass_call table start l =
      if_passed refused_pass (refuse (pass_tests (length table) l (subtable.is_open (drop start table)))) (subtable.worked (drop start table) l)

  -- the line that it leaves
  unfoldable pub call_leaves : List ℕ → (start : ℕ) → Line → Line
  call_leaves table start l = apply_all (pass_call table start l).changes l

-- a machine that goes over the places of a line, by a state table
pub record Machine (S : Type 0) : Type 0 where
  -- the state table of the subtable that begins with these bytes, where it can be used
  pub opened : List ℕ → Option States
  -- the state at the start of a pass
  pub fresh : S
  -- a step, by the classes of glyphs, the bytes from the state table on and that table
  pub step : (classes : ℕ → ℕ) → List ℕ → States → Step S
  -- as many steps as a pass may have left at a place
  pub rest : S → Line → (place : ℕ) → ℕ
  -- STATE: what refuses a state that is lent, on a line of so many places
  pub state_tests : S → (used : ℕ) → List Test

module _ {S : Type 0} (machine : Machine S) where
  -- the pass over a line, by any classes
  unfoldable pub passed_by : (classes : ℕ → ℕ) → List ℕ → States → Line → Passed
  passed_by classes bytes states l = pass_from (machine.step classes bytes states) (machine.rest machine.fresh l 0) machine.fresh l 0

  -- by those of the state table's own class table
  unfoldable pub passed : List ℕ → States → Line → Passed
  passed bytes states l = passed_by (class_of bytes states) bytes states l

  -- the bound on its steps is never reached: more of them change nothing
  abbrev pub Bounded : Line → Type 0
  Bounded l =
      (classes : ℕ → ℕ) (bytes : List ℕ) (states : States) (more : ℕ)
      → pass_from (machine.step classes bytes states) (more + machine.rest machine.fresh l 0) machine.fresh l 0 ≡ passed_by classes bytes states l

  -- the kind of subtable that the machine works by
  abbrev pub subtable_of : Subtable
  subtable_of =
      record {
        is_open = λ bytes. is_ready (machine.opened bytes);
        worked = λ bytes l. on_made refused_pass (machine.opened bytes) (λ states. passed (body_of bytes) states l);
      }

  -- a call of the step on the subtable at `start`; a refused one hands its state back as given, and changes nothing
  unfoldable pub step_call : List ℕ → (start : ℕ) → S → Line → (index glyph : ℕ) → (ends : Bool) → Stepped S
  step_call table start s l index glyph ends =
      lone_step machine.opened (λ why. record { answer = Answer'.Refused why; state = s; advance = 0; changes = [] })
      table start (line_test l ∷ []) l.used index (machine.state_tests s l.used)
      (λ classes bytes states. machine.step classes bytes states s l index glyph ends)

  -- the line that it leaves
  unfoldable pub step_leaves : List ℕ → (start : ℕ) → S → Line → (index glyph : ℕ) → (ends : Bool) → Line
  step_leaves table start s l index glyph ends = apply_all (step_call table start s l index glyph ends).changes l

-- a call of the step, as one of a sequence of calls
pub record StepCall (S : Type 0) : Type 0 where
  pub table : List ℕ
  pub start : ℕ
  pub state : S
  pub index : ℕ
  pub glyph : ℕ
  pub ends : Bool
