-- The ligature machine's step, as the crate's `next`.
use Rattle.std.specs.Prelude.{ℕ, zero, suc, ◌+◌, ◌-◌, Bool, true, false, not, List, [], ◌∷◌, ◌++◌, ltb, leb, get_or, set, take, drop, Option, Some, None}
use Rattle.laws.specs.Lists.{both, either, tab}
use Rattle.answers.specs.declared.Answer.{Answer}
use Rattle.answers.specs.declared.Answer.TheVariants as Answer'
use Rattle.parse.specs.Reads.{u16_at}
use Rattle.state_tables.specs.declared.States.{States}
use Rattle.state_tables.specs.declared.entries.Entry.{Entry}
use Rattle.state_tables.specs.Entries.{entry_of, on_entry}
use Rattle.line.specs.Changes.{Change}
use Rattle.laws.specs.Bits.{is_set}
use Rattle.machine.specs.Entry.{class_here}
use Rattle.machine.specs.Pass.{Stepped, advance_of}
use Rattle.ligature.specs.Actions.{action_of}
use Rattle.ligature.specs.declared.actions.Action.{Action}
use Rattle.ligature.specs.declared.actions.Action.TheVariants as Action'
pub use Rattle.ligature.specs.declared.Stack.{Stack}
use Rattle.ligature.specs.declared.Turn.{Turn}
use Rattle.ligature.specs.declared.LigatureState.{LigatureState}

-- the stack: the places and the glyphs of its slots, of which the first `depth` are used
abbrev pub stack_of : (places glyphs : List ℕ) → (depth : ℕ) → Stack
stack_of places glyphs depth = record { places = places; glyphs = glyphs; depth = depth }

-- it has 32 slots
abbrev pub empty : List ℕ
empty = tab (λ slot. 0) 32

-- the state at the start of a pass
abbrev pub fresh : LigatureState
fresh = record { state = 0; places = empty; glyphs = empty; depth = 0 }

-- a ligature that was made: its place, its glyph, and the places of its components
pub record Ligation : Type 0 where
  pub at : ℕ
  pub glyph : ℕ
  pub parts : List ℕ

-- ligatures as changes of the line
unfoldable pub changes_of : List Ligation → List Change
changes_of [] = []
changes_of (l ∷ ls) = Change.ligature l.at l.glyph l.parts ∷ changes_of ls

-- the ligature that an action makes at a slot: its components are the places of the used slots above
abbrev pub ligations_of : Option Action → (places : List ℕ) → (slot depth : ℕ) → List Ligation
ligations_of None places slot depth = []
ligations_of (Some (Action'.Adds sum)) places slot depth = []
ligations_of (Some (Action'.Makes sum ligature last)) places slot depth =
    record { at = get_or places slot 0; glyph = ligature; parts = take (depth - (slot + 1)) (drop (slot + 1) places) } ∷ []

-- it takes the slot's glyph's place on the stack
abbrev pub stored_in : Option Action → (slot : ℕ) → List ℕ → List ℕ
stored_in None slot glyphs = glyphs
stored_in (Some (Action'.Adds sum)) slot glyphs = glyphs
stored_in (Some (Action'.Makes sum ligature last)) slot glyphs = set glyphs slot ligature

-- how the stack stands after an action: its slot is popped, but a ligature stays on it
abbrev pub turn_of : Option Action → (slot : ℕ) → Option Turn
turn_of None slot = None
turn_of (Some (Action'.Adds sum)) slot = Some (record { at = slot; sum = sum; last = false })
turn_of (Some (Action'.Makes sum ligature last)) slot = Some (record { at = slot + 1; sum = sum; last = last })

abbrev pub on_turn : {A : Type 0} → Option Turn → ((at sum : ℕ) → (last : Bool) → A) → A → A
on_turn (Some turn) use-it otherwise = use-it turn.at turn.sum turn.last
on_turn None use-it otherwise = otherwise

-- what a list of actions comes to: whether it ended the step, the used slots afterwards, the cycle count, the glyphs on the stack, and the
-- ligatures made
pub record Acts : Type 0 where
  pub ended : Bool
  pub depth : ℕ
  pub cycles : ℕ
  pub glyphs : List ℕ
  pub made : List Ligation

abbrev pub acted : (ended : Bool) → (depth cycles : ℕ) → List ℕ → List Ligation → Acts
acted ended depth cycles glyphs made = record { ended = ended; depth = depth; cycles = cycles; glyphs = glyphs; made = made }

module _ (bytes places : List ℕ) (depth : ℕ) where
  -- from an action on, with so many slots left and some ligatures made: the next slot down is the action's. One that ends the step leaves
  -- the depth as it was; the last one stops the list, and so does the cycle count when it is above 32, and an empty stack. There are
  -- at most 34 turns
  unfoldable pub acts : (turns number at sum cycles : ℕ) → (glyphs : List ℕ) → List Ligation → Acts
  acts zero number at sum cycles glyphs made = acted false at cycles glyphs made
  acts (suc turns) number zero sum cycles glyphs made = acted false 0 cycles glyphs made
  acts (suc turns) number (suc slot) sum cycles glyphs made =
      let action : Option Action = action_of bytes number (get_or glyphs slot 0) sum in
      let all : List Ligation = made ++ ligations_of action places slot depth in
      on_turn (turn_of action slot)
      (λ at total last.
      elim (either last (ltb 32 cycles)) [
        | true ↦ acted false at cycles (stored_in action slot glyphs) all
        | false ↦ acts turns (number + 1) at total (cycles + 1) (stored_in action slot glyphs) all
      ])
      (acted true depth cycles glyphs made)

-- what an entry comes to: whether it ended the step, the stack afterwards, the cycle count, and the ligatures made
pub record Work : Type 0 where
  pub ended : Bool
  pub stack : Stack
  pub cycles : ℕ
  pub made : List Ligation

abbrev pub work_of : (ended : Bool) → Stack → (cycles : ℕ) → List Ligation → Work
work_of ended stack cycles made = record { ended = ended; stack = stack; cycles = cycles; made = made }

-- the 33rd push finds the stack full
abbrev pub overflows : (sets : Bool) → (depth : ℕ) → Bool
overflows sets depth = both sets (leb 32 depth)

-- the step's place and glyph are pushed
abbrev pub pushed : (sets : Bool) → Stack → (index glyph : ℕ) → Stack
pushed false stack index glyph = stack
pushed true stack index glyph =
    stack_of (set stack.places stack.depth index) (set stack.glyphs stack.depth glyph) (stack.depth + 1)

-- actions begin at the top of the stack, with the sum 0
unfoldable pub performed : List ℕ → (performs : Bool) → (number : ℕ) → Stack → (cycles : ℕ) → Work
performed bytes false number stack cycles = work_of false stack cycles []
performed bytes true number stack cycles =
    let a : Acts = acts bytes stack.places stack.depth 34 number stack.depth 0 cycles stack.glyphs [] in
    work_of a.ended (stack_of stack.places a.glyphs a.depth) a.cycles a.made

-- the entry's flags: 0x8000 pushes, and the 33rd push ends the step; then 0x2000 performs the actions from the number in its payload on
unfoldable pub entered : List ℕ → Stack → Entry → (index glyph cycles : ℕ) → Work
entered bytes stack entry index glyph cycles =
    elim (overflows (is_set entry.flags 0x8000) stack.depth) [
      | true ↦ work_of true stack cycles []
      | false ↦
          performed bytes (is_set entry.flags 0x2000) (u16_at bytes entry.payload)
          (pushed (is_set entry.flags 0x8000) stack index glyph)
          cycles
    ]

-- what a step answers, the state and the stack that it leaves, and the ligatures it made, in order
pub record Ran : Type 0 where
  pub answer : Answer
  pub state : ℕ
  pub stack : Stack
  pub made : List Ligation

abbrev pub over : Answer → (state : ℕ) → Stack → List Ligation → Ran
over answer state stack made = record { answer = answer; state = state; stack = stack; made = made }

module _ (bytes : List ℕ) (states : States) (index glyph class : ℕ) where
  -- from an entry on, with some ligatures made: no entry is ENDED; one without the flag 0x4000, don't advance, is the last, and so is any
  -- after which the cycle count is above 16. The class stays. There are at most 18 turns
  unfoldable pub ran : (turns state : ℕ) → Stack → (cycles : ℕ) → List Ligation → Ran
  ran zero state stack cycles made = over Answer'.Done state stack made
  ran (suc turns) state stack cycles made =
      on_entry (entry_of bytes states state class 2)
      (λ entry.
      let work : Work = entered bytes stack entry index glyph cycles in
      elim work.ended [
        | true ↦ over Answer'.Ended entry.state work.stack (made ++ work.made)
        | false ↦
            elim (both (is_set entry.flags 0x4000) (not (ltb 16 work.cycles))) [
              | false ↦ over Answer'.Done entry.state work.stack (made ++ work.made)
              | true ↦ ran turns entry.state work.stack (work.cycles + 1) (made ++ work.made)
            ]
      ])
      (over Answer'.Ended state stack made)

-- a step, with any classes: the class of the place or of the end of text, then the entries, with one cycle count for them and their
-- actions
unfoldable pub next : (classes : ℕ → ℕ) → List ℕ → States → (state : ℕ) → Stack → (index glyph : ℕ) → (ends : Bool) → Ran
next classes bytes states state stack index glyph ends = ran bytes states index glyph (class_here classes glyph ends) 18 state stack 0 []

abbrev pub state_of : Ran → LigatureState
state_of r =
    record { state = r.state; places = r.stack.places; glyphs = r.stack.glyphs; depth = r.stack.depth }

abbrev pub stepped : Ran → Stepped LigatureState
stepped r = record { answer = r.answer; state = state_of r; advance = advance_of r.answer; changes = changes_of r.made }

-- a state's stack
abbrev pub stack_in : LigatureState → Stack
stack_in s = stack_of s.places s.glyphs s.depth
