-- The rearrangement machine's step, as the crate's `next`.
use Rattle.std.specs.Prelude.{ℕ, ◌%◌, Bool, cond, List, [], ◌∷◌, Option, Some, None}
use Rattle.laws.specs.Bits.{is_set}
use Rattle.laws.specs.Choose.{if_lt, if_eq}
use Rattle.answers.specs.declared.Answer.{Answer}
use Rattle.answers.specs.declared.Answer.TheVariants as Answer'
use Rattle.state_tables.specs.declared.States.{States}
use Rattle.state_tables.specs.declared.entries.Entry.{Entry}
use Rattle.state_tables.specs.Entries.{entry_of, on_entry}
use Rattle.line.specs.Changes.{Change}
use Rattle.machine.specs.Entry.{class_here}
use Rattle.machine.specs.Stall.{stalled}
use Rattle.machine.specs.Pass.{Stepped}
use Rattle.rearrangement.specs.declared.RearrangementState.{RearrangementState}
use Rattle.rearrangement.specs.declared.RearrangementStep.{RearrangementStep}
use Rattle.rearrangement.specs.declared.Window.{Window}

-- the state at the start of a pass
abbrev pub fresh : RearrangementState
fresh = record { state = 0; first = 0; last = 0; cycles = 0 }

-- a mark is set to the index as given where its flag says so
abbrev pub mark_after : ℕ → ℕ → Bool → ℕ
mark_after was index sets = cond sets index was

-- a verb other than 0 works on the marked window, unless its start is above its end
unfoldable pub window_of : (first last verb : ℕ) → Option Window
window_of first last verb = if_eq verb 0 None (if_lt last first None (Some (record { first = first; last = last; verb = verb })))

-- the entry's flags: 0x8000 marks the first place, 0x2000 the last, the low four bits are the verb, 0x4000 is don't advance
unfoldable pub acted : RearrangementState → Entry → ℕ → RearrangementStep
acted s entry index =
    record {
      answer = Answer'.Done;
      state =
          record {
            state = entry.state;
            first = mark_after s.first index (is_set entry.flags 0x8000);
            last = mark_after s.last index (is_set entry.flags 0x2000);
            cycles = (stalled s.cycles (is_set entry.flags 0x4000)).cycles;
          };
      advance = (stalled s.cycles (is_set entry.flags 0x4000)).advance;
      edit =
          window_of (mark_after s.first index (is_set entry.flags 0x8000))
          (mark_after s.last index (is_set entry.flags 0x2000))
          (entry.flags % 16);
    }

-- an answer that makes no edit and leaves the state as it was, as ENDED where there is no entry
abbrev pub unmoved : RearrangementState → Answer → RearrangementStep
unmoved s answer = record { answer = answer; state = s; advance = 0; edit = None }

-- a step, with any classes: class, then entry, then what the entry does
unfoldable pub next : (classes : ℕ → ℕ) → List ℕ → States → RearrangementState → (index glyph : ℕ) → (ends : Bool) → RearrangementStep
next classes bytes states s index glyph ends =
    on_entry (entry_of bytes states s.state (class_here classes glyph ends) 0) (λ entry. acted s entry index) (unmoved s Answer'.Ended)

-- what a step does to the line
abbrev pub changes_of : Option Window → List Change
changes_of None = []
changes_of (Some w) = Change.window w.first w.last w.verb ∷ []

-- as a step that changes a line
abbrev pub stepped : RearrangementStep → Stepped RearrangementState
stepped step = record { answer = step.answer; state = step.state; advance = step.advance; changes = changes_of step.edit }
