-- For the code alone; no entry and no promise rests on it, and nobody has to believe it. What the parts of the code leave and know: where an
-- insertion's glyphs end, and an entry that inserts nothing.
use Rattle.std.specs.Prelude.{ℕ, ◌≡◌, ◌+◌, ◌*◌, Bool, cond, not, List, eqb, Option, Some, None}
use Rattle.laws.specs.Bits.{is_set}
use Rattle.laws.specs.Lists.{both}
use Rattle.parse.specs.Reads.{u16_at}
use Rattle.answers.specs.declared.Answer.{Answer}
use Rattle.state_tables.specs.declared.entries.Entry.{Entry}
use Rattle.line.specs.Line.{Line}
use Rattle.line.specs.Changes.{Change, apply_all}
use Rattle.machine.specs.Pass.{Passed}
use Rattle.insertion.specs.declared.Insertion.{Insertion}
use Rattle.insertion.specs.declared.InsertionState.{InsertionState}

-- slices and a used length that changes leave of a line; homes are not lent to be written
pub record Left (changes : List Change) (l : Line) (glyphs tags : List ℕ) (used : ℕ) : Type 0 where
  pub glyphs-left : glyphs ≡ (apply_all changes l).glyphs
  pub tags-left : tags ≡ (apply_all changes l).tags
  pub used-left : used ≡ (apply_all changes l).used

-- what a pass answers and leaves
pub record Ends (p : Passed) (l : Line) (answer : Answer) (glyphs tags : List ℕ) (used : ℕ) : Type 0 where
  pub answers : answer ≡ p.answer
  pub left : Left p.changes l glyphs tags used

-- where an insertion's glyphs end in the bytes, two for each
abbrev pub end_of : Option Insertion → ℕ
end_of None = 0
end_of (Some edit) = edit.glyphs + edit.count * 2

-- whether an entry inserts nothing and advances
unfoldable pub is_quiet : List ℕ → Entry → Bool
is_quiet bytes entry =
    both (not (is_set entry.flags 0x4000)) (both (eqb (u16_at bytes entry.payload) 0xFFFF) (eqb (u16_at bytes (entry.payload + 2)) 0xFFFF))

-- the state that such an entry leads to
abbrev pub led_by : InsertionState → Entry → (place : ℕ) → InsertionState
led_by s entry place = record { state = entry.state; mark = cond (is_set entry.flags 0x8000) place s.mark; cycles = 0 }
