-- The insertion machine on a subtable: how that is opened, which states are refused, and the call of a lone step, which is told lengths alone.
use Rattle.state_tables.specs.declared.States.{States}
use Rattle.std.specs.Prelude.{ℕ, ◌+◌, ◌*◌, ◌-◌, Bool, List, [], ◌∷◌, ltb, length, Option, None}
use Rattle.answers.specs.Limits as Limits
use Rattle.answers.specs.Refuse.{Test}
use Rattle.answers.specs.declared.Refusal.TheVariants as Refusal'
use Rattle.answers.specs.declared.Answer.TheVariants as Answer'
use Rattle.parse.specs.Reads.{read_u32}
use Rattle.parse.specs.Use.{on_u32}
use Rattle.machine.specs.Head.{body_of}
use Rattle.machine.specs.Call as Call'
use Rattle.machine.specs.Call.{lone_step}
use Rattle.machine.specs.Machine.{Machine}
use Rattle.insertion.specs.Lists.{moved_by}
use Rattle.insertion.specs.Insertion.{fresh, stopped, next, stepped}
use Rattle.insertion.specs.declared.InsertionState.{InsertionState}
use Rattle.insertion.specs.declared.InsertionStep.{InsertionStep}

-- the state table of an insertion subtable, where the number at 16, behind its head, can be read too
unfoldable pub opened : List ℕ → Option States
opened bytes = on_u32 (read_u32 (body_of bytes) 16) (λ glyphs. Call'.opened bytes 5) None

-- STATE: the mark is above the length, or the cycle count above 17
unfoldable pub state_tests : InsertionState → (used : ℕ) → List Test
state_tests s used =
    record { holds = ltb used s.mark; refusal = Refusal'.State } ∷ record { holds = ltb 17 s.cycles; refusal = Refusal'.State } ∷ []

-- its room is the line's. As many steps as a pass may have left: 18 for each place of the room that it has not passed, less those that did
-- not advance, and the end call. Glyphs that are inserted take up room, so that the line's growth does not add any
abbrev pub insertion : Machine InsertionState
insertion =
    record {
      opened = opened;
      fresh = fresh;
      step = λ classes bytes states s l index glyph ends. stepped bytes (next classes bytes states s l.used (length l.glyphs) index glyph ends);
      rest = λ s l place. (length l.glyphs - place) * 18 + (18 - s.cycles);
      state_tests = state_tests;
    }

-- LINE of a lone step: the room is above the limit, or the length above the room
unfoldable pub room_tests : (used room : ℕ) → List Test
room_tests used room =
    record { holds = ltb Limits.room_limit room; refusal = Refusal'.Line } ∷ record { holds = ltb room used; refusal = Refusal'.Line } ∷ []

-- the step's insertions, with their glyphs counted from the table's beginning
abbrev pub from_table : ℕ → InsertionStep → InsertionStep
from_table by step =
    record {
      answer = step.answer;
      state = step.state;
      advance = step.advance;
      marked = moved_by by step.marked;
      current = moved_by by step.current;
    }

-- a lone step by the subtable at `start`, on a line of this length in this room; a refused one hands the state back as given
unfoldable pub step_call : List ℕ → (start : ℕ) → InsertionState → (used room index glyph : ℕ) → (ends : Bool) → InsertionStep
step_call table start s used room index glyph ends =
    lone_step opened (λ why. stopped (Answer'.Refused why) s None) table start (room_tests used room) used index (state_tests s used)
    (λ classes bytes states. from_table (start + 12) (next classes bytes states s used room index glyph ends))
