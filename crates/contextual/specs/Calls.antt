-- The contextual machine on a subtable: how that is opened, and which states are refused.
use Rattle.state_tables.specs.declared.States.{States}
use Rattle.std.specs.Prelude.{ℕ, ◌+◌, ◌-◌, List, [], ◌∷◌, ltb, Option, None}
use Rattle.answers.specs.Refuse.{Test}
use Rattle.answers.specs.declared.Refusal.TheVariants as Refusal'
use Rattle.parse.specs.Reads.{read_u32}
use Rattle.parse.specs.Use.{on_u32}
use Rattle.machine.specs.Head.{body_of}
use Rattle.machine.specs.Call as Call'
use Rattle.machine.specs.Machine.{Machine}
use Rattle.contextual.specs.Contextual.{fresh, next, stepped}
use Rattle.contextual.specs.declared.ContextualState.{ContextualState}

-- the state table of a contextual subtable, where the number at 16, behind its head, can be read too
unfoldable pub opened : List ℕ → Option States
opened bytes = on_u32 (read_u32 (body_of bytes) 16) (λ list. Call'.opened bytes 1) None

-- STATE: the mark's place is above the used length, set or not
unfoldable pub state_tests : ContextualState → (used : ℕ) → List Test
state_tests s used = record { holds = ltb used s.mark_index; refusal = Refusal'.State } ∷ []

-- as many steps as a pass may have left: one for each place, and the end call
abbrev pub contextual : Machine ContextualState
contextual =
    record {
      opened = opened;
      fresh = fresh;
      step = λ classes bytes states s l index glyph ends. stepped (next classes bytes states s index glyph ends);
      rest = λ s l place. (l.used - place) + 1;
      state_tests = state_tests;
    }
