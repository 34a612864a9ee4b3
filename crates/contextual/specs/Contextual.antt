-- The contextual machine's step, as the crate's `next`.
use Rattle.std.specs.Prelude.{ℕ, zero, suc, ◌+◌, Bool, true, false, cond, not, List, [], ◌++◌, eqb, Option}
use Rattle.laws.specs.Choose.{if_eq}
use Rattle.laws.specs.Lists.{both}
use Rattle.answers.specs.declared.Answer.{Answer}
use Rattle.answers.specs.declared.Answer.TheVariants as Answer'
use Rattle.parse.specs.Reads.{u16_at}
use Rattle.state_tables.specs.declared.States.{States}
use Rattle.state_tables.specs.declared.entries.Entry.{Entry}
use Rattle.state_tables.specs.Entries.{entry_of, on_entry}
use Rattle.laws.specs.Bits.{is_set}
use Rattle.machine.specs.Entry.{class_here}
use Rattle.machine.specs.Pass.{Stepped, advance_of}
use Rattle.contextual.specs.Substitutes.{Write, substitute_of, glyph_after, writes_of, changes_of}
use Rattle.contextual.specs.declared.Acted.{Acted}
use Rattle.contextual.specs.declared.ContextualState.{ContextualState}

-- the state at the start of a pass
abbrev pub fresh : ContextualState
fresh = record { state = 0; mark_set = false; mark_index = 0; mark_id = 0 }

-- at end of text with no mark set nothing happens
abbrev pub idle : ContextualState → Bool → Bool
idle s ends = both ends (not s.mark_set)

-- at index 0, but at end of text, the mark's place and glyph are the step's own; whether a mark is set stays
unfoldable pub begun : ContextualState → (index glyph : ℕ) → (ends : Bool) → ContextualState
begun s index glyph true = s
begun s index glyph false =
    if_eq index 0 (record { state = s.state; mark_set = s.mark_set; mark_index = 0; mark_id = glyph }) s

-- a substitution at the mark meets the current glyph where the mark is the step's own place
abbrev pub seen_glyph : Option ℕ → (here : Bool) → ℕ → ℕ
seen_glyph mark here current = cond here (glyph_after mark current) current

-- the new state; a mark that is set remembers the step's place and its current glyph
abbrev pub entered : ContextualState → (state : ℕ) → (sets : Bool) → (index current : ℕ) → ContextualState
entered s state true index current = record { state = state; mark_set = true; mark_index = index; mark_id = current }
entered s state false index current =
    record { state = state; mark_set = s.mark_set; mark_index = s.mark_index; mark_id = s.mark_id }

-- an entry's payload is the numbers of two lookups: the marked glyph, which is the one remembered, goes through the first, then the
-- current glyph through the second; flag 0x8000 then sets the mark
unfoldable pub acted : List ℕ → ContextualState → Entry → (index current : ℕ) → Acted
acted bytes s entry index current =
    let mark : (Option ℕ) = substitute_of bytes (u16_at bytes entry.payload) s.mark_id in
    let seen : ℕ = seen_glyph mark (eqb s.mark_index index) current in
    let own : (Option ℕ) = substitute_of bytes (u16_at bytes (entry.payload + 2)) seen in
    let after : ℕ = glyph_after own seen in
    record {
      mark = mark;
      own = own;
      state = entered s entry.state (is_set entry.flags 0x8000) index after;
      current = after;
    }

-- what a step answers, the state that it hands back, and its writes in order
pub record Ran : Type 0 where
  pub answer : Answer
  pub state : ContextualState
  pub writes : List Write

abbrev pub over : Answer → ContextualState → List Write → Ran
over answer s writes = record { answer = answer; state = s; writes = writes }

-- what an entry writes: at the mark, then at the step's own place
abbrev pub entry_writes : ContextualState → (index : ℕ) → Acted → List Write
entry_writes s index a = writes_of s.mark_index a.mark ++ writes_of index a.own

module _ (classes : ℕ → ℕ) (bytes : List ℕ) (states : States) (index : ℕ) where
  -- from an entry on, with so many left to look at and some writes done: no entry is ENDED; one without the flag 0x4000, don't
  -- advance, is the last; after any other the class is that of the current glyph, at end of text too. The crate's last glyph is the
  -- current one where an entry begins, at first and after a don't-advance
  unfoldable pub ran : (left : ℕ) → ContextualState → (class current : ℕ) → List Write → Ran
  ran zero s class current done = over Answer'.Done s done
  ran (suc left) s class current done =
      on_entry (entry_of bytes states s.state class 4)
      (λ entry.
      let a : Acted = acted bytes s entry index current in
      elim (is_set entry.flags 0x4000) [
        | false ↦ over Answer'.Done a.state (done ++ entry_writes s index a)
        | true ↦ ran left a.state (classes a.current) a.current (done ++ entry_writes s index a)
      ])
      (over Answer'.Ended s done)

-- a step looks at no more than 18 entries
unfoldable pub next : (classes : ℕ → ℕ) → List ℕ → States → ContextualState → (index glyph : ℕ) → (ends : Bool) → Ran
next classes bytes states s index glyph ends =
    elim (idle s ends) [
      | true ↦ over Answer'.Done s []
      | false ↦ ran classes bytes states index 18 (begun s index glyph ends) (class_here classes glyph ends) glyph []
    ]

abbrev pub stepped : Ran → Stepped ContextualState
stepped r = record { answer = r.answer; state = r.state; advance = advance_of r.answer; changes = changes_of r.writes }
