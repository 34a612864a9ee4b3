-- What the exported cursors of kern and kerx leave in the numbers lent to them. A cursor crosses as the place of the next subtable, how many are
-- left, and the list's version.
use Rattle.answers.specs.declared.Refusal.{Refusal}
use Rattle.std.specs.Prelude.{ℕ, List, [], ◌∷◌, get_or, Option, Some, None, Result, Ok, Err}
use Rattle.laws.specs.Choose.{if_lt}
use Rattle.kerning_lists.specs.Cursors.{cursor}
use Rattle.kerning_lists.specs.Family.{Family, subtable_call}
use Rattle.kerning_lists.specs.declared.Cursor.{Cursor}
use Rattle.kerning_lists.specs.declared.NextSubtable.{NextSubtable}
use Rattle.firmware.specs.Steps.{flag_number}

-- a number that is wider than a version counts as the last version
unfoldable pub version_from : ℕ → ℕ
version_from number = if_lt 0xFFFF number 0xFFFF number

abbrev pub cursor_from : List ℕ → Cursor
cursor_from slots = cursor (get_or slots 0 0) (get_or slots 1 0) (version_from (get_or slots 2 0))

abbrev pub cursor_slots : Cursor → List ℕ
cursor_slots c = c.place ∷ c.left ∷ c.version ∷ []

-- the cursor at a list's start; a refusal leaves what was lent
abbrev pub start_cursor : Result Cursor Refusal → (was : List ℕ) → List ℕ
start_cursor (Ok c) was = cursor_slots c
start_cursor (Err why) was = was

-- the next subtable from the cursor that the numbers say
unfoldable pub next_after : Family → List ℕ → (slots : List ℕ) → Result (Option NextSubtable) Refusal
next_after family table slots = subtable_call family table (cursor_from slots)

-- the cursor goes behind a subtable, and stays at the end of its list
abbrev pub cursor_behind : Option NextSubtable → (was : List ℕ) → List ℕ
cursor_behind (Some found) was = cursor_slots found.next
cursor_behind None was = was

-- found, place, format, whether a run passes over it, whether one from left to right turns the line for it
abbrev pub fields_of : Option NextSubtable → List ℕ
fields_of (Some found) =
    1 ∷ found.subtable.body ∷ found.subtable.format ∷ flag_number found.subtable.passed_over ∷ flag_number found.subtable.turned ∷ []
fields_of None = 0 ∷ 0 ∷ 0 ∷ 0 ∷ 0 ∷ []

-- the numbers lent, afterwards; a refusal leaves them
abbrev pub reply_cursor : Result (Option NextSubtable) Refusal → (was : List ℕ) → List ℕ
reply_cursor (Ok next) was = cursor_behind next was
reply_cursor (Err why) was = was

abbrev pub reply_fields : Result (Option NextSubtable) Refusal → (was : List ℕ) → List ℕ
reply_fields (Ok next) was = fields_of next
reply_fields (Err why) was = was
