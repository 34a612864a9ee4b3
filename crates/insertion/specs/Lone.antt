-- A lone insertion, of glyphs that lie anywhere in a table: its tests, what it answers and what it leaves.
use Rattle.std.specs.Prelude.{ℕ, List, [], ◌∷◌, length, Option, Result, Ok, Err}
use Rattle.answers.specs.Refuse.{Test, refuse, table_test}
use Rattle.answers.specs.declared.Answer.{Answer}
use Rattle.answers.specs.declared.Answer.TheVariants as Answer'
use Rattle.line.specs.Line.{Line}
use Rattle.line.specs.Test.{line_test}
use Rattle.line.specs.Changes.{apply_all}
use Rattle.machine.specs.Pass.{Passed}
use Rattle.machine.specs.Call.{place_test, if_passed}
use Rattle.machine.specs.Machine.{refused_pass}
use Rattle.insertion.specs.Lists.{list_from, entered_by, changes_of}
use Rattle.insertion.specs.declared.Insertion.{Insertion}

-- an insertion that is made is DONE, and one that is not changes nothing
abbrev pub on_line : List ℕ → Result (Option Insertion) Answer → Passed
on_line table (Ok edit) = record { answer = Answer'.Done; changes = changes_of table edit }
on_line table (Err answer) = record { answer = answer; changes = [] }

-- so many glyphs from the byte `start` of the table on, at a place of the line: made, or ENDED or FULL, as in a pass
unfoldable pub lone_insertion : List ℕ → (start count place : ℕ) → Line → Passed
lone_insertion table start count place l = on_line table (entered_by (list_from table start count) place count l.used (length l.glyphs))

-- TABLE, LINE, PLACE
unfoldable pub insert_tests : (table_length : ℕ) → Line → (place : ℕ) → List Test
insert_tests table_length l place = table_test table_length ∷ line_test l ∷ place_test l.used place ∷ []

-- a call: its tests, then the insertion
unfoldable pub insert_call : List ℕ → (start count place : ℕ) → Line → Passed
insert_call table start count place l =
    if_passed refused_pass (refuse (insert_tests (length table) l place)) (lone_insertion table start count place l)

-- the line that it leaves
unfoldable pub insert_leaves : List ℕ → (start count place : ℕ) → Line → Line
insert_leaves table start count place l = apply_all (insert_call table start count place l).changes l

-- a call, as one of a sequence of calls
pub record InsertCall : Type 0 where
  pub table : List ℕ
  pub start : ℕ
  pub count : ℕ
  pub place : ℕ
