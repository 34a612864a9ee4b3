-- The machine of format 1, as the crate's two `next`, and its pass.
use Rattle.answers.specs.declared.Refusal.{Refusal}
use Rattle.std.specs.Prelude.{ℕ, zero, suc, ◌+◌, ◌*◌, ◌-◌, ◌%◌, ◌^◌, Bool, true, false, cond, not, List, [], ◌∷◌, ltb, leb, eqb, ℤ, length, get_or, set, Result, Ok, Err}
use Rattle.laws.specs.Choose.{if_lt, if_eq}
use Rattle.laws.specs.Lists.{both, every}
use Rattle.parse.specs.Reads.{u16_at}
use Rattle.answers.specs.Limits.{room_limit}
use Rattle.answers.specs.Refuse.{Test, refuse, table_test}
use Rattle.answers.specs.declared.Answer.{Answer}
use Rattle.answers.specs.declared.Answer.TheVariants as Answer'
use Rattle.answers.specs.declared.Refusal.TheVariants as Refusal'
use Rattle.state_tables.specs.declared.entries.Entry.{Entry}
use Rattle.state_tables.specs.Classes.{class_of}
use Rattle.indexes.specs.Index.{classes_by}
use Rattle.state_tables.specs.Entries.{entry_of, on_entry}
use Rattle.laws.specs.Bits.{is_set}
use Rattle.machine.specs.Stall.{stalled}
use Rattle.machine.specs.Pass.{is_done}
use Rattle.kerning.specs.Additions.{Addition, Kerned, after, nothing_added}
use Rattle.kerning.specs.Heads.{is_short, is_tupled}
use Rattle.kerning.specs.Line.{is_modest}
use Rattle.kerning.specs.Lists.{Walk, leaves, walk}
use Rattle.kerning.specs.declared.heads.Unready.{Unready}
use Rattle.kerning.specs.declared.heads.Unready.TheVariants.{Short, Tupled}
use Rattle.kerning.specs.declared.lists.Walked.{Walked}
use Rattle.kerning.specs.declared.lists.Rule.{Rule}
use Rattle.kerning.specs.declared.lists.Rule.TheVariants.{Odd, Never, Marked}
use Rattle.kerning_machine.specs.declared.Reading.{Reading}
use Rattle.kerning_machine.specs.declared.Reading.TheVariants.{Kern, Kerx, Manual}
use Rattle.kerning_machine.specs.declared.Start.{Start}
use Rattle.kerning_machine.specs.declared.Start.TheVariants as Start'
use Rattle.kerning_machine.specs.declared.Orders.{Orders}
use Rattle.kerning_machine.specs.declared.Kerning.{Kerning}
use Rattle.kerning_machine.specs.declared.KerningState.{KerningState}
use Rattle.kerning_machine.specs.declared.KerningStep.{KerningStep}

-- the state at the start of a pass
abbrev pub fresh : KerningState
fresh = record { state = 0; stack = 0 ∷ 0 ∷ 0 ∷ 0 ∷ 0 ∷ 0 ∷ 0 ∷ 0 ∷ []; depth = 0; cycles = 0 }

-- kern's entries are flags alone, kerx's have an index behind them
abbrev pub payload_of : Reading → ℕ
payload_of (Kern crossed) = 0
payload_of (Kerx values tuples) = 2
payload_of (Manual values) = 2

abbrev pub rule_of : Reading → Rule
rule_of (Kern crossed) = Odd crossed
rule_of (Kerx values tuples) = Never
rule_of (Manual values) = Marked

-- kerx: the tuple size is twice the tuple count, 0 of which counts as 1
unfoldable pub tuple_size : ℕ → ℕ
tuple_size tuples = if_eq tuples 0 2 (tuples * 2)

abbrev pub stride_of : Reading → ℕ
stride_of (Kern crossed) = 2
stride_of (Kerx values tuples) = tuple_size tuples
stride_of (Manual values) = 2

-- kern: the flags but the highest two are the list's place from the state table on; 0 is none
unfoldable pub kern_start : ℕ → Start
kern_start flags = if_eq (flags % 0x4000) 0 Start'.None (Start'.At (flags % 0x4000))

-- kerx, as the crate has it: (value table + index) times the tuple size, where that is a 64-bit number; 0xFFFF is none
unfoldable pub kerx_start : (values tuples index : ℕ) → Start
kerx_start values tuples index =
    if_eq index 0xFFFF Start'.None
    (if_lt ((values + index) * tuple_size tuples) (2 ^ 64) (Start'.At ((values + index) * tuple_size tuples)) Start'.Nowhere)

-- kerx in the manual's reading: the value table's place plus twice the index, counted from where the crate counts, the state table's start; 0xFFFF is none
unfoldable pub manual_start : (values index : ℕ) → Start
manual_start values index = if_eq index 0xFFFF Start'.None (Start'.At (values + index * 2))

-- an entry's flags: 0x8000 pushes the index, 0x4000 is don't advance; in kern, a whole flags word of 0 empties the stack, and in kerx 0x2000 does so
-- behind the list
unfoldable pub kern_orders : (flags : ℕ) → Orders
kern_orders flags =
    record { pushes = is_set flags 0x8000; clears = eqb flags 0; start = kern_start flags; resets = false; stays = is_set flags 0x4000 }

unfoldable pub indexed_orders : (flags : ℕ) → Start → Orders
indexed_orders flags start =
    record { pushes = is_set flags 0x8000; clears = false; start = start; resets = is_set flags 0x2000; stays = is_set flags 0x4000 }

unfoldable pub kerx_orders : (values tuples flags index : ℕ) → Orders
kerx_orders values tuples flags index = indexed_orders flags (kerx_start values tuples index)

unfoldable pub orders_of : List ℕ → Reading → Entry → Orders
orders_of bytes (Kern crossed) entry = kern_orders entry.flags
orders_of bytes (Kerx values tuples) entry = kerx_orders values tuples entry.flags (u16_at bytes entry.payload)
orders_of bytes (Manual values) entry = indexed_orders entry.flags (manual_start values (u16_at bytes entry.payload))

-- the 9th push
abbrev pub is_full : (pushes : Bool) → (depth : ℕ) → Bool
is_full pushes depth = both pushes (eqb depth 8)

-- the state with another depth of its stack; what the slots above it held stays in them
abbrev pub popped : KerningState → ℕ → KerningState
popped s depth = record { state = s.state; stack = s.stack; depth = depth; cycles = s.cycles }

-- the state with the index pushed, or with an empty stack, or as it is
unfoldable pub stacked : KerningState → (pushes clears : Bool) → (index : ℕ) → KerningState
stacked s true clears index = record { state = s.state; stack = set s.stack s.depth index; depth = s.depth + 1; cycles = s.cycles }
stacked s false true index = popped s 0
stacked s false false index = s

-- a step that ends here, in this state
abbrev pub stopped : KerningState → Answer → KerningStep
stopped s answer = record { answer = answer; state = s; advance = 0 }

-- what a list does: none leaves the stack; one at no 64-bit place ends the step, with an empty stack too
unfoldable pub walked_from : List ℕ → Reading → Start → (stack : List ℕ) → (depth used : ℕ) → Walk
walked_from bytes reading Start'.None stack depth used = leaves false depth []
walked_from bytes reading Start'.Nowhere stack depth used = leaves true depth []
walked_from bytes reading (Start'.At place) stack depth used = walk bytes (rule_of reading) (stride_of reading) stack used depth place

-- what a step answers, and its additions
pub record Stepped : Type 0 where
  pub step : KerningStep
  pub additions : List Addition

-- behind the list: kerx's reset, then the stall rule
unfoldable pub settled : KerningState → (resets stays : Bool) → KerningStep
settled s resets stays =
    record {
      answer = Answer'.Done;
      state =
          record {
            state = s.state;
            stack = s.stack;
            depth = cond resets 0 s.depth;
            cycles = (stalled s.cycles stays).cycles;
          };
      advance = (stalled s.cycles stays).advance;
    }

-- behind the list: one that ended the step leaves the state as it is then
unfoldable pub behind : Orders → KerningState → Walked → KerningStep
behind orders s left =
    cond left.ended (stopped (popped s left.depth) Answer'.Ended) (settled (popped s left.depth) orders.resets orders.stays)

unfoldable pub listed : Orders → KerningState → Walk → Stepped
listed orders s w = record { step = behind orders s w.left; additions = w.additions }

-- the state that an entry leads to
abbrev pub entered : KerningState → (state : ℕ) → KerningState
entered s state = record { state = state; stack = s.stack; depth = s.depth; cycles = s.cycles }

-- what an entry does then: the push (the 9th ends the step), the list, the reset, the stall rule
unfoldable pub acted : List ℕ → Reading → KerningState → Orders → (used index : ℕ) → Stepped
acted bytes reading s orders used index =
    cond (is_full orders.pushes s.depth)
    (record { step = stopped s Answer'.Ended; additions = [] })
    (let on : KerningState = stacked s orders.pushes orders.clears index in
    listed orders on (walked_from bytes reading orders.start on.stack on.depth used))

-- a step, with any classes: class, then entry, then the new state and what the entry does
unfoldable pub next : (classes : ℕ → ℕ) → List ℕ → Kerning → KerningState → (used index glyph : ℕ) → Stepped
next classes bytes kerning s used index glyph =
    on_entry (entry_of bytes kerning.states s.state (classes glyph) (payload_of kerning.reading))
    (λ entry. acted bytes kerning.reading (entered s entry.state) (orders_of bytes kerning.reading entry) used index)
    (record { step = stopped s Answer'.Ended; additions = [] })

-- The pass over the places of a line.
module _ (classes : ℕ → ℕ) (bytes : List ℕ) (kerning : Kerning) (glyphs : List ℕ) (used : ℕ) where
  -- the step at a place of the line, with the glyph that stands there
  abbrev pub step_at : KerningState → ℕ → Stepped
  step_at s i = next classes bytes kerning s used i (get_or glyphs i 0)

  -- from place i on: the step at each place below the used length; one that is not DONE ends the pass. There is no end call. `turns` bounds how many
  -- steps there are
  unfoldable pub pass_from : (turns : ℕ) → KerningState → ℕ → Kerned
  pass_from zero s i = nothing_added Answer'.Done
  pass_from (suc turns) s i =
      elim (ltb i used) [
        | false ↦ nothing_added Answer'.Done
        | true ↦
            elim (is_done (step_at s i).step.answer) [
              | false ↦ record { answer = (step_at s i).step.answer; additions = (step_at s i).additions }
              | true ↦ after (step_at s i).additions (pass_from turns (step_at s i).step.state (i + (step_at s i).step.advance))
            ]
      ]

-- as many steps as a pass may have left: 18 for each place, less those that did not advance
abbrev pub rest : (used : ℕ) → KerningState → ℕ → ℕ
rest used s i = (used - i) * 18 + (18 - s.cycles)

-- the pass over a line, by any classes: from the fresh state and the first place
unfoldable pub passed_by : (classes : ℕ → ℕ) → List ℕ → Kerning → (glyphs : List ℕ) → (used : ℕ) → Kerned
passed_by classes bytes kerning glyphs used = pass_from classes bytes kerning glyphs used (rest used fresh 0) fresh 0

-- the classes of the machine's own class table
abbrev pub own_classes : List ℕ → Kerning → ℕ → ℕ
own_classes bytes kerning = class_of bytes kerning.states

-- the pass over a line, by the classes of an index
unfoldable pub passed_indexed : (index : List ℕ) → List ℕ → Kerning → (glyphs : List ℕ) → (used : ℕ) → Kerned
passed_indexed index bytes kerning glyphs used = passed_by (classes_by index (own_classes bytes kerning)) bytes kerning glyphs used

-- the pass over a line
unfoldable pub passed : List ℕ → Kerning → (glyphs : List ℕ) → (used : ℕ) → Kerned
passed bytes kerning glyphs used = passed_by (own_classes bytes kerning) bytes kerning glyphs used

-- the pass by what a head gives, over the bytes from the state table on
unfoldable pub worked_by : List ℕ → Result Kerning Unready → (glyphs : List ℕ) → (used : ℕ) → Kerned
worked_by bytes (Ok kerning) glyphs used = passed bytes kerning glyphs used
worked_by bytes (Err Short) glyphs used = nothing_added (Answer'.Refused Refusal'.Head)
worked_by bytes (Err Tupled) glyphs used = nothing_added (Answer'.Refused Refusal'.Tuples)

-- the same by the classes of an index
unfoldable pub worked_indexed : (index : List ℕ) → List ℕ → Result Kerning Unready → (glyphs : List ℕ) → (used : ℕ) → Kerned
worked_indexed index bytes (Ok kerning) glyphs used = passed_indexed index bytes kerning glyphs used
worked_indexed index bytes (Err Short) glyphs used = nothing_added (Answer'.Refused Refusal'.Head)
worked_indexed index bytes (Err Tupled) glyphs used = nothing_added (Answer'.Refused Refusal'.Tuples)

-- every used slot's place is within the line or just behind it
unfoldable pub are_within : (stack : List ℕ) → (depth used : ℕ) → Bool
are_within stack depth used = every (λ k. leb (get_or stack k 0) used) depth

-- the room of a step is its adjustments'
unfoldable pub is_roomy : List ℤ → (used : ℕ) → Bool
is_roomy along used = if_lt room_limit (length along) false (if_lt (length along) used false (is_modest along))

-- the tests of a lone step. LINE: a room above the limit, a length above the room, an adjustment beyond ±2^40; PLACE: the index is above the length;
-- STATE: a stack above 8, a used slot's place above the length, a cycle count above 17
unfoldable pub later_tests : (used index : ℕ) → KerningState → List ℤ → (headless tupled : Bool) → List Test
later_tests used index s along headless tupled =
    record { holds = not (is_roomy along used); refusal = Refusal'.Line }
    ∷ record { holds = ltb used index; refusal = Refusal'.Place }
    ∷ record { holds = ltb 8 s.depth; refusal = Refusal'.State }
    ∷ record { holds = not (are_within s.stack s.depth used); refusal = Refusal'.State }
    ∷ record { holds = ltb 17 s.cycles; refusal = Refusal'.State }
    ∷ record { holds = headless; refusal = Refusal'.Head }
    ∷ record { holds = tupled; refusal = Refusal'.Tuples }
    ∷ []

unfoldable pub step_tests : (table_length used index : ℕ) → KerningState → List ℤ → (headless tupled : Bool) → List Test
step_tests table_length used index s along headless tupled = table_test table_length ∷ later_tests used index s along headless tupled

-- a refused step hands the state back as given
abbrev pub refused_step : KerningState → Answer → Stepped
refused_step s answer = record { step = stopped s answer; additions = [] }

abbrev pub stepped_by : Result Unit Refusal → KerningState → Stepped → Stepped
stepped_by (Ok tt) s work = work
stepped_by (Err why) s work = refused_step s (Answer'.Refused why)

abbrev pub on_opened : Result Kerning Unready → KerningState → (Kerning → Stepped) → Stepped
on_opened (Ok kerning) s work = work kerning
on_opened (Err Short) s work = refused_step s (Answer'.Refused Refusal'.Head)
on_opened (Err Tupled) s work = refused_step s (Answer'.Refused Refusal'.Tuples)

-- a lone step
unfoldable pub step_call : (table_length : ℕ) → List ℕ → Result Kerning Unready → KerningState → (used index glyph : ℕ) → List ℤ → Stepped
step_call table_length bytes opened s used index glyph along =
    stepped_by (refuse (step_tests table_length used index s along (is_short opened) (is_tupled opened))) s
    (on_opened opened s (λ kerning. next (own_classes bytes kerning) bytes kerning s used index glyph))
