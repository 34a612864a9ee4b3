-- What the public entries answer and leave: the fresh line and the lone verb.
use Rattle.answers.specs.declared.Refusal.{Refusal}
use Rattle.std.specs.Prelude.{ℕ, ◌%◌, not, List, [], ◌∷◌, ◌++◌, ltb, eqb, length, drop, Result, Ok, Err}
use Rattle.laws.specs.Choose.{if_eq}
use Rattle.answers.specs.Limits.{room_limit}
use Rattle.answers.specs.Refuse.{Test, refuse}
use Rattle.answers.specs.declared.Answer.{Answer}
use Rattle.line.specs.Line.{Line, line_of}
use Rattle.line.specs.Test.{line_test}
use Rattle.line.specs.Changes.{Change, numbers_from, apply_all}

-- the fresh line of as many characters as there are homes: tags and homes from 0 up, the glyphs and the rest of the tags as they were
unfoldable pub fresh_of : (glyphs tags homes : List ℕ) → Line
fresh_of glyphs tags homes =
    line_of glyphs (numbers_from 0 (length homes) ++ drop (length homes) tags) (numbers_from 0 (length homes)) (length homes)

-- LINE: lengths differ, the room is above the limit, or there are more characters than room
unfoldable pub fresh_tests : (glyphs tags homes : List ℕ) → List Test
fresh_tests glyphs tags homes =
    record { holds = not (eqb (length tags) (length glyphs)); refusal = Refusal.Line }
    ∷ record { holds = ltb room_limit (length glyphs); refusal = Refusal.Line }
    ∷ record { holds = ltb (length glyphs) (length homes); refusal = Refusal.Line }
    ∷ []

-- the reply of `fresh`, and the slices that it was lent
pub record FreshLeft : Type 0 where
  pub reply : Result ℕ Refusal
  pub tags : List ℕ
  pub homes : List ℕ

-- refused: all as it was; passed: the fresh line
unfoldable pub fresh_by : Result Unit Refusal → (glyphs tags homes : List ℕ) → FreshLeft
fresh_by (Ok tt) glyphs tags homes =
    let l : Line = fresh_of glyphs tags homes in
    record { reply = Ok l.used; tags = l.tags; homes = l.homes }
fresh_by (Err why) glyphs tags homes = record { reply = Err why; tags = tags; homes = homes }

-- the fresh line, by its tests
unfoldable pub fresh_call : (glyphs tags homes : List ℕ) → FreshLeft
fresh_call glyphs tags homes = fresh_by (refuse (fresh_tests glyphs tags homes)) glyphs tags homes

-- the answer of a reply: a used length is DONE
abbrev pub fresh_answer : Result ℕ Refusal → Answer
fresh_answer (Ok n) = Answer.Done
fresh_answer (Err why) = Answer.Refused why

-- the number lent for the used length, afterwards: the used length, or as it was
abbrev pub fresh_used : Result ℕ Refusal → ℕ → ℕ
fresh_used (Ok n) was = n
fresh_used (Err why) was = was

-- what a call on a line answers and leaves
pub record Left : Type 0 where
  pub answer : Answer
  pub line : Line

-- LINE, then PLACE: a window whose start is above its end or above the used length
unfoldable pub verb_tests : Line → (start end : ℕ) → List Test
verb_tests l start end =
    line_test l
    ∷ record { holds = ltb end start; refusal = Refusal.Place }
    ∷ record { holds = ltb l.used start; refusal = Refusal.Place }
    ∷ []

-- what a lone verb does to the line: its window, and nothing for number 0 modulo 16
unfoldable pub verb_makes : (verb start end : ℕ) → List Change
verb_makes verb start end = if_eq (verb % 16) 0 [] (Change.window start end verb ∷ [])

-- a refused call makes no changes
unfoldable pub made_by : Result Unit Refusal → List Change → List Change
made_by (Ok tt) changes = changes
made_by (Err why) changes = []

-- DONE, or the refusal
unfoldable pub answer_by : Result Unit Refusal → Answer
answer_by (Ok tt) = Answer.Done
answer_by (Err why) = Answer.Refused why

-- the changes of a call of the lone verb
unfoldable pub verb_changes : Line → (verb start end : ℕ) → List Change
verb_changes l verb start end = made_by (refuse (verb_tests l start end)) (verb_makes verb start end)

-- its answer, and the line that it leaves
unfoldable pub verb_call : Line → (verb start end : ℕ) → Left
verb_call l verb start end =
    record { answer = answer_by (refuse (verb_tests l start end)); line = apply_all (verb_changes l verb start end) l }

-- a call of the lone verb, as one of a sequence of calls
pub record LoneVerb : Type 0 where
  pub verb : ℕ
  pub start : ℕ
  pub end : ℕ
