-- The machine of kerx format 4, as the crate's `next`, over the bytes from its state table on.
use Rattle.answers.specs.declared.Refusal.{Refusal}
use Rattle.std.specs.Prelude.{ℕ, zero, suc, ◌+◌, ◌-◌, ◌*◌, ◌/◌, ◌%◌, Bool, true, false, not, cond, List, [], ◌∷◌, ltb, ℤ, ◌-ℤ◌, length, get_or, Option, Some, None, Result, Ok, Err}
use Rattle.laws.specs.Bits.{is_set}
use Rattle.laws.specs.Choose.{if_lt, if_eq}
use Rattle.laws.specs.Lists.{both}
use Rattle.answers.specs.Limits.{room_limit}
use Rattle.answers.specs.Refuse.{Test, refuse, table_test}
use Rattle.answers.specs.declared.Answer.{Answer}
use Rattle.answers.specs.declared.Answer.TheVariants as Answer'
use Rattle.answers.specs.declared.Refusal.TheVariants as Refusal'
use Rattle.parse.specs.Reads.{u16_at, read_u16, read_u32}
use Rattle.parse.specs.Use.{on_u16, on_u32}
use Rattle.tables.specs.declared.units.Reading.{Reading}
use Rattle.state_tables.specs.declared.States.{States}
use Rattle.state_tables.specs.declared.entries.Entry.{Entry}
use Rattle.state_tables.specs.Classes.{class_of}
use Rattle.indexes.specs.Index.{classes_by}
use Rattle.state_tables.specs.Entries.{entry_of, on_entry}
use Rattle.state_tables.specs.States.{extended_by}
use Rattle.machine.specs.Stall.{stalled}
use Rattle.machine.specs.Pass.{is_done}
use Rattle.kerning.specs.Heads.{is_short, is_tupled, refusal}
use Rattle.kerning.specs.Line.{is_modest}
use Rattle.anchors.specs.Anchors.{anchor_test, point_of}
use Rattle.anchors.specs.declared.Point.{Point}
use Rattle.anchor_machine.specs.Writes.{Write, writes_at, Anchored, after, nothing_written, are_long}
use Rattle.anchor_machine.specs.declared.Anchoring.{Anchoring}
use Rattle.kerning.specs.declared.heads.Unready.{Unready}
use Rattle.kerning.specs.declared.heads.Unready.TheVariants.{Short}
use Rattle.anchor_machine.specs.declared.Numbers.{Numbers}
use Rattle.anchor_machine.specs.declared.Numbers.TheVariants as Numbers'
use Rattle.anchor_machine.specs.declared.Written.{Written}
use Rattle.anchor_machine.specs.declared.AnchorState.{AnchorState}
use Rattle.anchor_machine.specs.declared.AnchorStep.{AnchorStep}

abbrev pub on_made : {A : Type 0} → Option States → (States → A) → A → A
on_made (Some states) use-it otherwise = use-it states
on_made None use-it otherwise = otherwise

-- the machine, where the state table's head and the flags behind it can be read: their highest two bits are the action type, their lowest 24 where the
-- control table begins
unfoldable pub opened : Reading → List ℕ → Result Anchoring Unready
opened reading bytes =
    on_made (extended_by reading bytes)
    (λ states. on_u32 (read_u32 bytes 16)
    (λ flags. Ok (record { states = states; reading = reading; action = flags / 0x40000000; control = flags % 0x1000000 }))
    (Err Short)) (Err Short)

-- the state at the start of a pass: before any mark the mark is place 0 with glyph 0
abbrev pub fresh : AnchorState
fresh = record { state = 0; mark = 0; glyph = 0; cycles = 0 }

-- the new state; 0x8000 sets the mark to this place and glyph, before the action
unfoldable pub marked : AnchorState → Entry → (index glyph : ℕ) → AnchorState
marked s entry index glyph =
    record {
      state = entry.state;
      mark = cond (is_set entry.flags 0x8000) index s.mark;
      glyph = cond (is_set entry.flags 0x8000) glyph s.glyph;
      cycles = s.cycles;
    }

-- an action's record: the number of a point of the marked glyph, and that of one of the current glyph, of 16 bits each
unfoldable pub numbers_at : List ℕ → (place : ℕ) → Numbers
numbers_at bytes place =
    on_u16 (read_u16 bytes place) (λ mark. on_u16 (read_u16 bytes (place + 2)) (λ current. Numbers'.At mark current) Numbers'.Short) Numbers'.Short

-- index 0xFFFF is no action, and the types other than 1 do nothing; the record lies at the control table plus twice the index
unfoldable pub numbers_of : List ℕ → Anchoring → (index : ℕ) → Numbers
numbers_of bytes anchoring index =
    if_eq index 0xFFFF Numbers'.None (if_eq anchoring.action 1 (numbers_at bytes (anchoring.control + index * 2)) Numbers'.None)

-- x and y are the marked glyph's point less the current glyph's; they are written if both points are there and the distance is below 255
unfoldable pub offset : (mark current : Option Point) → (back : ℕ) → Option Written
offset (Some mark) (Some current) back =
    if_lt back 255 (Some (record { x = mark.x -ℤ current.x; y = mark.y -ℤ current.y; back = back })) None
offset (Some mark) None back = None
offset None current back = None

-- what is written, in a state whose mark is set already
unfoldable pub written_by : (ankr : List ℕ) → Reading → AnchorState → (index glyph : ℕ) → Numbers → Option Written
written_by ankr reading s index glyph Numbers'.None = None
written_by ankr reading s index glyph Numbers'.Short = None
written_by ankr reading s index glyph (Numbers'.At mark current) =
    offset (point_of reading ankr s.glyph mark) (point_of reading ankr glyph current) (index - s.mark)

-- a step that ends here, in this state
abbrev pub stopped : AnchorState → Answer → AnchorStep
stopped s answer = record { answer = answer; state = s; advance = 0; written = None }

-- behind the action: the stall rule
unfoldable pub settled : AnchorState → (stays : Bool) → Option Written → AnchorStep
settled s stays written =
    record {
      answer = Answer'.Done;
      state = record { state = s.state; mark = s.mark; glyph = s.glyph; cycles = (stalled s.cycles stays).cycles };
      advance = (stalled s.cycles stays).advance;
      written = written;
    }

abbrev pub are_short : Numbers → Bool
are_short Numbers'.None = false
are_short Numbers'.Short = true
are_short (Numbers'.At mark current) = false

-- the action, in a state whose mark is set already: a record that can't be read ends the step; 0x4000 is don't advance
unfoldable pub settled_by : (ankr : List ℕ) → Reading → AnchorState → (stays : Bool) → (index glyph : ℕ) → Numbers → AnchorStep
settled_by ankr reading s stays index glyph numbers =
    cond (are_short numbers) (stopped s Answer'.Ended) (settled s stays (written_by ankr reading s index glyph numbers))

-- what an entry does: the mark, then the action
unfoldable pub acted : (ankr bytes : List ℕ) → Anchoring → AnchorState → Entry → (index glyph : ℕ) → AnchorStep
acted ankr bytes anchoring s entry index glyph =
    settled_by ankr anchoring.reading (marked s entry index glyph) (is_set entry.flags 0x4000) index glyph
    (numbers_of bytes anchoring (u16_at bytes entry.payload))

-- a step, with any classes: class, then entry, of which each has an index of 16 bits, then what the entry does
unfoldable pub next : (classes : ℕ → ℕ) → (ankr bytes : List ℕ) → Anchoring → AnchorState → (index glyph : ℕ) → AnchorStep
next classes ankr bytes anchoring s index glyph =
    on_entry (entry_of bytes anchoring.states s.state (classes glyph) 2) (λ entry. acted ankr bytes anchoring s entry index glyph) (stopped s Answer'.Ended)

-- The pass over the places of a line.
module _ (classes : ℕ → ℕ) (ankr bytes : List ℕ) (anchoring : Anchoring) (glyphs : List ℕ) (used : ℕ) where
  -- the step at a place of the line, with the glyph that stands there
  abbrev pub step_at : AnchorState → ℕ → AnchorStep
  step_at s i = next classes ankr bytes anchoring s i (get_or glyphs i 0)

  abbrev pub written : AnchorState → ℕ → List Write
  written s i = writes_at used i (step_at s i).written

  -- from place i on: the step at each place below the used length; one that is not DONE ends the pass. There is no end call. `turns` bounds how many
  -- steps there are
  unfoldable pub pass_from : (turns : ℕ) → AnchorState → ℕ → Anchored
  pass_from zero s i = nothing_written Answer'.Done
  pass_from (suc turns) s i =
      elim (ltb i used) [
        | false ↦ nothing_written Answer'.Done
        | true ↦
            elim (is_done (step_at s i).answer) [
              | false ↦ record { answer = (step_at s i).answer; writes = written s i }
              | true ↦ after (written s i) (pass_from turns (step_at s i).state (i + (step_at s i).advance))
            ]
      ]

-- as many steps as a pass may have left: 18 for each place, less those that did not advance
abbrev pub rest : (used : ℕ) → AnchorState → ℕ → ℕ
rest used s i = (used - i) * 18 + (18 - s.cycles)

-- the pass over a line, by any classes: from the fresh state and the first place
unfoldable pub passed_by : (classes : ℕ → ℕ) → (ankr bytes : List ℕ) → Anchoring → (glyphs : List ℕ) → (used : ℕ) → Anchored
passed_by classes ankr bytes anchoring glyphs used = pass_from classes ankr bytes anchoring glyphs used (rest used fresh 0) fresh 0

-- the classes of the machine's own class table
abbrev pub own_classes : List ℕ → Anchoring → ℕ → ℕ
own_classes bytes anchoring = class_of bytes anchoring.states

-- the pass over a line, by the classes of an index
unfoldable pub passed_indexed : (index ankr bytes : List ℕ) → Anchoring → (glyphs : List ℕ) → (used : ℕ) → Anchored
passed_indexed index ankr bytes anchoring glyphs used = passed_by (classes_by index (own_classes bytes anchoring)) ankr bytes anchoring glyphs used

-- the pass over a line
unfoldable pub passed : (ankr bytes : List ℕ) → Anchoring → (glyphs : List ℕ) → (used : ℕ) → Anchored
passed ankr bytes anchoring glyphs used = passed_by (own_classes bytes anchoring) ankr bytes anchoring glyphs used

-- the pass by what a head gives
unfoldable pub worked_by : (ankr bytes : List ℕ) → Result Anchoring Unready → (glyphs : List ℕ) → (used : ℕ) → Anchored
worked_by ankr bytes (Ok anchoring) glyphs used = passed ankr bytes anchoring glyphs used
worked_by ankr bytes (Err why) glyphs used = nothing_written (Answer'.Refused (refusal why))

-- the same by the classes of an index
unfoldable pub worked_indexed : (index ankr bytes : List ℕ) → Result Anchoring Unready → (glyphs : List ℕ) → (used : ℕ) → Anchored
worked_indexed index ankr bytes (Ok anchoring) glyphs used = passed_indexed index ankr bytes anchoring glyphs used
worked_indexed index ankr bytes (Err why) glyphs used = nothing_written (Answer'.Refused (refusal why))

-- the room of a step is its adjustments', and as long are the other three
unfoldable pub is_roomy : List ℤ → (x y : List ℤ) → (back : List ℕ) → (used : ℕ) → Bool
is_roomy along x y back used =
    if_lt room_limit (length along) false
    (if_lt (length along) used false (both (are_long (length along) x y back) (is_modest along)))

-- the tests of a lone step. LINE: a room above the limit, a length above the room, slices of another length, an adjustment beyond ±2^40; PLACE: the index
-- is above the length; STATE: a mark above the index, a cycle count above 17
unfoldable pub later_tests : (roomy : Bool) → (used index : ℕ) → AnchorState → (headless tupled : Bool) → List Test
later_tests roomy used index s headless tupled =
    record { holds = not roomy; refusal = Refusal'.Line }
    ∷ record { holds = ltb used index; refusal = Refusal'.Place }
    ∷ record { holds = ltb index s.mark; refusal = Refusal'.State }
    ∷ record { holds = ltb 17 s.cycles; refusal = Refusal'.State }
    ∷ record { holds = headless; refusal = Refusal'.Head }
    ∷ record { holds = tupled; refusal = Refusal'.Tuples }
    ∷ []

unfoldable pub step_tests : (table_length ankr_length : ℕ) → (roomy : Bool) → (used index : ℕ) → AnchorState → (headless tupled : Bool) → List Test
step_tests table_length ankr_length roomy used index s headless tupled =
    table_test table_length ∷ anchor_test ankr_length ∷ later_tests roomy used index s headless tupled

-- a refused step hands the state back as given, and writes nothing
abbrev pub stepped_by : Result Unit Refusal → AnchorState → AnchorStep → AnchorStep
stepped_by (Ok tt) s work = work
stepped_by (Err why) s work = stopped s (Answer'.Refused why)

abbrev pub on_opened : Result Anchoring Unready → AnchorState → (Anchoring → AnchorStep) → AnchorStep
on_opened (Ok anchoring) s work = work anchoring
on_opened (Err why) s work = stopped s (Answer'.Refused (refusal why))

-- a lone step
unfoldable pub step_call : (table_length : ℕ) → (ankr bytes : List ℕ) → Result Anchoring Unready → AnchorState → (used index glyph : ℕ) → List ℤ → (x y : List ℤ) → (back : List ℕ)
    → AnchorStep
step_call table_length ankr bytes opened s used index glyph along x y back =
    stepped_by (refuse (step_tests table_length (length ankr) (is_roomy along x y back used) used index s (is_short opened) (is_tupled opened))) s
    (on_opened opened s (λ anchoring. next (own_classes bytes anchoring) ankr bytes anchoring s index glyph))

-- what it writes
unfoldable pub step_writes : (table_length : ℕ) → (ankr bytes : List ℕ) → Result Anchoring Unready → AnchorState → (used index glyph : ℕ) → List ℤ → (x y : List ℤ) → (back : List ℕ)
    → List Write
step_writes table_length ankr bytes opened s used index glyph along x y back =
    writes_at used index (step_call table_length ankr bytes opened s used index glyph along x y back).written
