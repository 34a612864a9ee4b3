-- For the code alone; no entry and no promise rests on it, and nobody has to believe it. What the code's parts are lent, and how they hand over a state
-- whose stack is lent.
use Rattle.std.specs.Prelude.{ℕ, ◌≡◌, ◌≤◌, ◌^◌, Bool, List, ℤ, length, Option, Some, None, Result, Ok, Err}
use Rattle.answers.specs.Limits.{room_limit}
use Rattle.answers.specs.declared.Answer.TheVariants as Answer'
use Rattle.answers.specs.declared.Refusal.{Refusal}
use Rattle.answers.specs.declared.Refusal.TheVariants.{Head, Tuples}
use Rattle.state_tables.specs.declared.States.{States}
use Rattle.kerning.specs.Bounds.{Within}
use Rattle.kerning.specs.declared.lists.Rule.{Rule}
use Rattle.kerning.specs.declared.heads.Unready.{Unready}
use Rattle.kerning.specs.declared.heads.Unready.TheVariants.{Short, Tupled}
use Rattle.kerning_machine.specs.Machine.{rule_of, stride_of, stopped}
use Rattle.kerning_machine.specs.declared.Kerning.{Kerning}
use Rattle.kerning_machine.specs.declared.Reading.{Reading}
use Rattle.kerning_machine.specs.declared.Reading.TheVariants.{Kern}
use Rattle.kerning_machine.specs.declared.KerningState.{KerningState}
use Rattle.kerning_machine.specs.declared.KerningStep.{KerningStep}

-- what a step is lent: a stack that is no deeper than it may be, an adjustment for each place, and none so large that the step's numbers leave 64 bits
abbrev pub CanStep : (depth used : ℕ) → (along : List ℤ) → Type 0
CanStep depth used along = (depth ≤ 8) × (used ≤ length along) × Within (2 ^ 61) along

-- what a pass is lent: a glyph and an adjustment for each place, no more places than a line may have, and no adjustment so large that the pass's numbers
-- leave 64 bits
abbrev pub CanPass : (glyphs : List ℕ) → (used : ℕ) → (along : List ℤ) → Type 0
CanPass glyphs used along = (used ≤ length glyphs) × (used ≤ length along) × (used ≤ room_limit) × Within (2 ^ 60) along

-- a reading whose lists end by this rule and have their numbers so far apart
abbrev pub ListsBy : Reading → Rule → (stride : ℕ) → Type 0
ListsBy reading rule stride = (rule_of reading ≡ rule) × (stride_of reading ≡ stride)

-- the state of numbers and a lent stack
abbrev pub standing : (state : ℕ) → (stack : List ℕ) → (depth cycles : ℕ) → KerningState
standing state stack depth cycles = record { state = state; stack = stack; depth = depth; cycles = cycles }

-- the step that left this state: one that says how far the next is, or one that ended
abbrev pub step_of : Option ℕ → KerningState → KerningStep
step_of (Some advance) s = record { answer = Answer'.Done; state = s; advance = advance }
step_of None s = stopped s Answer'.Ended

-- the machine of a step that the tests pass, or why it is refused
unfoldable pub readied : Result Unit Refusal → Result Kerning Unready → Result Kerning Refusal
readied (Err why) opened = Err why
readied (Ok tt) (Ok kerning) = Ok kerning
readied (Ok tt) (Err Short) = Err Head
readied (Ok tt) (Err Tupled) = Err Tuples

-- the machine that kern's pass knows
abbrev pub kern_of : States → (crossed : Bool) → Kerning
kern_of states crossed = record { states = states; reading = Kern crossed }
