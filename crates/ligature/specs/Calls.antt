-- The ligature machine on a subtable: how that is opened, and which states are refused.
use Rattle.state_tables.specs.declared.States.{States}
use Rattle.std.specs.Prelude.{ℕ, ◌+◌, ◌-◌, Bool, not, List, [], ◌∷◌, ltb, leb, get_or, Option, None}
use Rattle.laws.specs.Lists.{every}
use Rattle.answers.specs.Refuse.{Test}
use Rattle.answers.specs.declared.Refusal.TheVariants as Refusal'
use Rattle.parse.specs.Reads.{read_u32}
use Rattle.parse.specs.Use.{on_u32}
use Rattle.machine.specs.Head.{body_of}
use Rattle.machine.specs.Call as Call'
use Rattle.machine.specs.Machine.{Machine}
use Rattle.ligature.specs.Ligature.{fresh, stack_in, next, stepped}
use Rattle.ligature.specs.declared.LigatureState.{LigatureState}

-- the state table of a ligature subtable, where the numbers at 16, 20 and 24, behind its head, can be read too: the last can't without
-- the others
unfoldable pub opened : List ℕ → Option States
opened bytes = on_u32 (read_u32 (body_of bytes) 24) (λ ligatures. Call'.opened bytes 2) None

-- no place of a used slot is above the length
unfoldable pub are_inside : (places : List ℕ) → (depth used : ℕ) → Bool
are_inside places depth used = every (λ slot. leb (get_or places slot 0) used) depth

-- STATE: more than 32 slots are used, or the place of a used one is above the length
unfoldable pub state_tests : LigatureState → (used : ℕ) → List Test
state_tests s used =
    record { holds = ltb 32 s.depth; refusal = Refusal'.State }
    ∷ record { holds = not (are_inside s.places s.depth used); refusal = Refusal'.State }
    ∷ []

-- as many steps as a pass may have left: one for each place, and the end call
abbrev pub ligature : Machine LigatureState
ligature =
    record {
      opened = opened;
      fresh = fresh;
      step = λ classes bytes states s l index glyph ends. stepped (next classes bytes states s.state (stack_in s) index glyph ends);
      rest = λ s l place. (l.used - place) + 1;
      state_tests = state_tests;
    }
