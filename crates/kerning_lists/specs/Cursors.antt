-- A list of subtables as a cursor goes through it. Places are those of the whole table.
use Rattle.answers.specs.declared.Refusal.{Refusal}
use Rattle.std.specs.Prelude.{ℕ, zero, suc, ◌+◌, ◌-◌, List, [], ◌∷◌, Option, Some, None, Result, Ok, Err}
use Rattle.laws.specs.Choose.{if_eq}
use Rattle.answers.specs.Refuse.{Test, table_test}
use Rattle.answers.specs.declared.Answer.{Answer}
use Rattle.answers.specs.declared.Answer.TheVariants as Answer'
use Rattle.kerning_lists.specs.Walk.{on_head}
use Rattle.kerning_lists.specs.Run.{start_test}
use Rattle.kerning_lists.specs.declared.Subtable.{Subtable}
use Rattle.kerning_lists.specs.declared.Cursor.{Cursor}
use Rattle.kerning_lists.specs.declared.NextSubtable.{NextSubtable}

abbrev pub cursor : (place left version : ℕ) → Cursor
cursor place left version = record { place = place; left = left; version = version }

-- the cursor behind a subtable
abbrev pub behind : Subtable → Cursor → Cursor
behind subtable c = cursor subtable.next (c.left - 1) c.version

-- the next subtable, by the head at the cursor's place: none where the count is used up or the head can't be read
unfoldable pub next_by : Option Subtable → Cursor → Option NextSubtable
next_by head c = if_eq c.left 0 None (on_head head (λ subtable. Some (record { subtable = subtable; next = behind subtable c })) None)

-- the subtables from a cursor on, at most so many
unfoldable pub followed : (next : Cursor → Option NextSubtable) → (most : ℕ) → Cursor → List Subtable
followed next zero c = []
followed next (suc most) c =
    elim (next c) [
      | Some found ↦ found.subtable ∷ followed next most found.next
      | None ↦ []
    ]

-- a subtable as it is told behind so many bytes more
abbrev pub moved : (before : ℕ) → Subtable → Subtable
moved before s =
    record {
      passed_over = s.passed_over;
      turned = s.turned;
      format = s.format;
      body = before + s.body;
      next = before + s.next;
    }

-- the tests before a list's cursor: TABLE, HEAD
unfoldable pub list_tests : (table_length start : ℕ) → List Test
list_tests table_length start = table_test table_length ∷ start_test table_length start ∷ []

abbrev pub start_by : Result Unit Refusal → Cursor → Result Cursor Refusal
start_by (Ok tt) c = Ok c
start_by (Err why) c = Err why

abbrev pub reply_by : Result Unit Refusal → Option NextSubtable → Result (Option NextSubtable) Refusal
reply_by (Ok tt) next = Ok next
reply_by (Err why) next = Err why

-- the answers: the end of a list is DONE, too
abbrev pub start_answer : Result Cursor Refusal → Answer
start_answer (Ok c) = Answer'.Done
start_answer (Err why) = Answer'.Refused why

abbrev pub reply_answer : Result (Option NextSubtable) Refusal → Answer
reply_answer (Ok next) = Answer'.Done
reply_answer (Err why) = Answer'.Refused why
