-- A pass over the places of a line, for any machine.
use Rattle.std.specs.Prelude.{ℕ, zero, suc, ◌+◌, Bool, true, false, cond, List, [], ◌++◌, ltb, get_or}
use Rattle.answers.specs.declared.Answer.{Answer}
use Rattle.answers.specs.declared.Answer.TheVariants as Answer'
use Rattle.line.specs.Line.{Line}
use Rattle.line.specs.Changes.{Change, apply_all}

-- the glyph number of the end call
abbrev pub deleted : ℕ
deleted = 0xFFFF

-- what a step answers: DONE with the advance, or why the pass ends; the state it hands back and the changes it made, in any case
pub record Stepped (S : Type 0) : Type 0 where
  pub answer : Answer
  pub state : S
  pub advance : ℕ
  pub changes : List Change

-- a step from a state, on a line, at an index with a glyph, at end of text or not
abbrev pub Step : Type 0 → Type 0
Step S = S → Line → (index glyph : ℕ) → (ends : Bool) → Stepped S

-- what a pass answers, and the changes it made
pub record Passed : Type 0 where
  pub answer : Answer
  pub changes : List Change

-- changes made before
abbrev pub after : List Change → Passed → Passed
after done rest = record { answer = rest.answer; changes = done ++ rest.changes }

-- whether an answer is DONE
abbrev pub is_done : Answer → Bool
is_done Answer'.Done = true
is_done Answer'.Nothing = false
is_done Answer'.Full = false
is_done Answer'.Ended = false
is_done Answer'.Limit = false
is_done (Answer'.Refused why) = false

-- the advance of a step that goes on to the next place whenever it is DONE
abbrev pub advance_of : Answer → ℕ
advance_of answer = cond (is_done answer) 1 0

module _ {S : Type 0} (step : Step S) where
  -- the step at a place of the line, with the glyph that stands there
  abbrev pub step_at : S → Line → ℕ → Stepped S
  step_at s l i = step s l i (get_or l.glyphs i 0) false

  -- the end call: the index is the length, the glyph is 0xFFFF
  abbrev pub end_call : S → Line → Stepped S
  end_call s l = step s l l.used deleted true

  -- from place i on: the step at each place below the used length, as it is at that time, then the end call, whose advance is ignored;
  -- a step that is not DONE ends the pass. `turns` bounds how many steps there are
  unfoldable pub pass_from : (turns : ℕ) → S → Line → ℕ → Passed
  pass_from zero s l i = record { answer = Answer'.Done; changes = [] }
  pass_from (suc turns) s l i =
      let here : Stepped S = step_at s l i in
      elim (ltb i l.used) [
        | false ↦ record { answer = (end_call s l).answer; changes = (end_call s l).changes }
        | true ↦
            elim (is_done here.answer) [
              | false ↦ record { answer = here.answer; changes = here.changes }
              | true ↦ after here.changes (pass_from turns here.state (apply_all here.changes l) (i + here.advance))
            ]
      ]
