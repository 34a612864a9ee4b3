-- The insertion machine's step, as the crate's `next`.
use Rattle.std.specs.Prelude.{ℕ, ◌+◌, ◌/◌, ◌%◌, min, Bool, cond, List, Option, None}
use Rattle.laws.specs.Choose.{if_eq}
use Rattle.answers.specs.declared.Answer.{Answer}
use Rattle.answers.specs.declared.Answer.TheVariants as Answer'
use Rattle.parse.specs.Reads.{u16_at}
use Rattle.state_tables.specs.declared.States.{States}
use Rattle.state_tables.specs.declared.entries.Entry.{Entry}
use Rattle.state_tables.specs.Entries.{entry_of, on_entry}
use Rattle.laws.specs.Bits.{is_set}
use Rattle.machine.specs.Entry.{class_here}
use Rattle.machine.specs.Stall.{stalled}
use Rattle.machine.specs.declared.Stalled.{Stalled}
use Rattle.machine.specs.Pass.{Stepped}
use Rattle.insertion.specs.Lists.{insertion_of, on_tried, count_of, both_changes}
use Rattle.insertion.specs.declared.Insertion.{Insertion}
use Rattle.insertion.specs.declared.InsertionState.{InsertionState}
use Rattle.insertion.specs.declared.InsertionStep.{InsertionStep}

-- the state at the start of a pass
abbrev pub fresh : InsertionState
fresh = record { state = 0; mark = 0; cycles = 0 }

-- an insertion is before a place or behind it; above the length it is at the length
unfoldable pub insertion_place : (at : ℕ) → (before : Bool) → (used : ℕ) → ℕ
insertion_place at before used = min (cond before at (at + 1)) used

-- the entry's flags: 0x8000 sets the mark, 0x4000 is don't advance, 0x0800 and 0x0400 put the current and the marked glyphs before their
-- place; then five bits each, the counts of the current and of the marked glyphs
abbrev pub current_count : (flags : ℕ) → ℕ
current_count flags = flags / 32 % 32

abbrev pub marked_count : (flags : ℕ) → ℕ
marked_count flags = flags % 32

-- the advance is both counts plus 1, or the marked count alone where the stall rule does not advance
abbrev pub advance_of : (marked current one : ℕ) → ℕ
advance_of marked current one = if_eq one 0 marked (marked + current + 1)

-- the state that an entry leads to
abbrev pub with_state : InsertionState → (state : ℕ) → InsertionState
with_state s state = record { state = state; mark = s.mark; cycles = s.cycles }

-- the mark is set to the index as given where its flag says so
abbrev pub with_mark : InsertionState → (sets : Bool) → (index : ℕ) → InsertionState
with_mark s sets index = record { state = s.state; mark = cond sets index s.mark; cycles = s.cycles }

-- an answer before the insertion that would have been next
abbrev pub stopped : Answer → InsertionState → Option Insertion → InsertionStep
stopped answer s marked = record { answer = answer; state = s; advance = 0; marked = marked; current = None }

-- after both insertions the stall rule
unfoldable pub finished : InsertionState → (flags : ℕ) → (marked current : Option Insertion) → InsertionStep
finished s flags marked current =
    let to : Stalled = stalled s.cycles (is_set flags 0x4000) in
    record {
      answer = Answer'.Done;
      state = record { state = s.state; mark = s.mark; cycles = to.cycles };
      advance = advance_of (count_of marked) (count_of current) to.advance;
      marked = marked;
      current = current;
    }

-- after the marked glyphs the mark may be set, to the index as given; the current glyphs then go where the index stands after the
-- marked ones, in a line that is longer by them
unfoldable pub after_marked : List ℕ → InsertionState → (flags number : ℕ) → Option Insertion → (index used room : ℕ) → InsertionStep
after_marked bytes s flags number marked index used room =
    let s' : InsertionState = with_mark s (is_set flags 0x8000) index in
    on_tried
    (insertion_of bytes number (current_count flags)
    (insertion_place (index + count_of marked) (is_set flags 0x800) (used + count_of marked))
    (used + count_of marked) room)
    (λ current. finished s' flags marked current)
    (λ answer. stopped answer s' marked)

-- an entry leads to its state, and its payload is the numbers of two lists: the current glyphs', then the marked ones', which come first
unfoldable pub acted : List ℕ → InsertionState → Entry → (index used room : ℕ) → InsertionStep
acted bytes s entry index used room =
    let s' : InsertionState = with_state s entry.state in
    on_tried
    (insertion_of bytes (u16_at bytes (entry.payload + 2)) (marked_count entry.flags)
    (insertion_place s.mark (is_set entry.flags 0x400) used) used room)
    (λ marked. after_marked bytes s' entry.flags (u16_at bytes entry.payload) marked index used room)
    (λ answer. stopped answer s' None)

-- a step: class, then entry, then what the entry does; without an entry it is ENDED and the state as it was
unfoldable pub next : (classes : ℕ → ℕ) → List ℕ → States → InsertionState → (used room index glyph : ℕ) → (ends : Bool) → InsertionStep
next classes bytes states s used room index glyph ends =
    on_entry (entry_of bytes states s.state (class_here classes glyph ends) 4)
    (λ entry. acted bytes s entry index used room)
    (stopped Answer'.Ended s None)

-- as a step that changes a line
abbrev pub stepped : List ℕ → InsertionStep → Stepped InsertionState
stepped bytes step =
    record {
      answer = step.answer;
      state = step.state;
      advance = step.advance;
      changes = both_changes bytes step.marked step.current;
    }
