-- Demand 1: any table bytes and any lent line get an answer, and the work ends; bad calls are refused by number and change nothing; a pass that ends
-- early or runs out of room leaves exactly the edits made before that point. The contracts of the exported entries say so: none has a `requires`,
-- each is proved to end, and each states its answer and all that was lent. Here is what shows that their definitions mean it.
use Rattle.std.specs.Prelude.{ℕ, ◌+◌, ◌<◌, ◌≤◌, ◌≡◌, Bool, true, false, List, [], ◌∷◌, map, ◌⊎◌, length, Ok, Err}
use Rattle.answers.specs.Refuse.{Test, refuse}
use Rattle.answers.specs.declared.Answer.TheVariants.{Done, Full, Limit}
use Rattle.line.specs.Line.{Line, Valid, Legal}
use Rattle.line.specs.Test.{Decides, is_valid, is_legal}
use Rattle.state_tables.specs.declared.States.{States}
use Rattle.machine.specs.Stall.{Falls, stalled}
use Rattle.machine.specs.Machine.{Bounded}
use Rattle.rearrangement.specs.Calls.{rearrangement}
use Rattle.contextual.specs.Calls.{contextual}
use Rattle.ligature.specs.declared.Stack.{Stack}
use Rattle.ligature.specs.Ligature as Ligature
use Rattle.ligature.specs.Calls.{ligature}
use Rattle.insertion.specs.Calls.{insertion}
use Rattle.kerning_machine.specs.Machine as KerningMachine
use Rattle.kerning_machine.specs.declared.Kerning.{Kerning}
use Rattle.anchor_machine.specs.Machine as AnchorMachine
use Rattle.anchor_machine.specs.declared.Anchoring.{Anchoring}
use Rattle.morx.specs.Heads.{Counted}
use Rattle.morx.specs.Run.{ran}
use Rattle.morx.specs.declared.Choices.{Choices}
use Rattle.kerning_lists.specs.Walk.{list_bytes}
use Rattle.kerning_lists.specs.Cursors.{followed, moved}
use Rattle.kerning_lists.specs.Family as Family'
use Rattle.kern.specs.Kern.{kern}
use Rattle.kerx.specs.Kerx.{kerx}
use Rattle.kerx.specs.Heads.{turned_round}
use Rattle.shaper.specs.Shaper.{input_of, shaper_room, shaped}

pub record Demand1 : Type 0 where
  -- a call without tests passes; the first test that holds refuses with its number, whatever comes behind; one that does not hold leaves it to the rest
  pub refuse-none : refuse [] ≡ Ok tt
  pub refuse-here : (t : Test) (ts : List Test) → t.holds ≡ true → refuse (t ∷ ts) ≡ Err t.refusal
  pub refuse-later : (t : Test) (ts : List Test) → t.holds ≡ false → refuse (t ∷ ts) ≡ refuse ts
  -- LINE is given exactly when it should be: the test decides whether a line is valid
  pub valid-exact : (l : Line) → Decides (Valid l) (is_valid l)
  -- and whether its used tags and homes are legal
  pub legal-exact : (tags homes : List ℕ) (used : ℕ) → Decides (Legal tags homes used) (is_legal tags homes used)
  -- the stall rule ends: a step advances within the line, or comes one nearer to the one that must
  pub stall_falls : (cycles used i : ℕ) (stays : Bool) → cycles ≤ 17 → i < used → Falls cycles used i (stalled cycles stays)
  -- a pass is defined with a bound on its steps, which is never reached: more of them change nothing
  pub rearrangement_turns : (l : Line) → Bounded rearrangement l
  pub contextual_turns : (l : Line) → Bounded contextual l
  pub ligature_turns : (l : Line) → Bounded ligature l
  pub insertion_turns : (l : Line) → Valid l → Bounded insertion l
  pub kerning_turns : (classes : ℕ → ℕ) (bytes : List ℕ) (kerning : Kerning) (glyphs : List ℕ) (used more : ℕ)
      → KerningMachine.pass_from classes bytes kerning glyphs used (more + KerningMachine.rest used KerningMachine.fresh 0) KerningMachine.fresh 0
      ≡ KerningMachine.passed_by classes bytes kerning glyphs used
  pub anchor_turns : (classes : ℕ → ℕ) (ankr bytes : List ℕ) (anchoring : Anchoring) (glyphs : List ℕ) (used more : ℕ)
      → AnchorMachine.pass_from classes ankr bytes anchoring glyphs used (more + AnchorMachine.rest used AnchorMachine.fresh 0) AnchorMachine.fresh 0
      ≡ AnchorMachine.passed_by classes ankr bytes anchoring glyphs used
  -- nor are those on the entries of a ligature's step and on a list of its actions
  pub entry_turns : (bytes : List ℕ) (states : States) (index glyph class more state : ℕ) (stack : Stack) (cycles : ℕ) (made : List Ligature.Ligation)
      → cycles ≤ 17
      → Ligature.ran bytes states index glyph class (more + 18) state stack cycles made ≡ Ligature.ran bytes states index glyph class 18 state stack cycles made
  pub action_turns : (bytes places : List ℕ) (depth more number at sum cycles : ℕ) (glyphs : List ℕ) (made : List Ligature.Ligation) → cycles ≤ 33
      → Ligature.acts bytes places depth (more + 34) number at sum cycles glyphs made ≡ Ligature.acts bytes places depth 34 number at sum cycles glyphs made
  -- a run of morx or of mort counts the heads of the walk: all of them (DONE), 65,535 of more (LIMIT), or those up to the subtable that ran full (FULL)
  pub heads-counted : (table : List ℕ) (start : ℕ) (choices : Choices) (l : Line) (requests : List ℕ)
      → Counted table start choices l requests (ran table start choices l requests)
  -- followed from a list's start, kern's cursor gives exactly the subtables of the run's walk, in the places of the whole table; so does kerx's
  pub kern-cursor_walks : (table : List ℕ) (start : ℕ)
      → followed (Family'.next_subtable kern table) (Family'.list_from kern table start).left (Family'.list_from kern table start)
      ≡ map (moved start) (Family'.walk_of kern false (list_bytes table start))
  pub kerx-cursor_walks : (table : List ℕ) (start : ℕ)
      → followed (Family'.next_subtable kerx table) (Family'.list_from kerx table start).left (Family'.list_from kerx table start)
      ≡ map (moved start) (Family'.walk_of kerx false (list_bytes table start))
  -- a run of kerx from right to left reads the same subtables, each turned the other way round
  pub walk-turned : (bytes : List ℕ) → Family'.walk_of kerx true bytes ≡ map turned_round (Family'.walk_of kerx false bytes)
  -- an input that the shaper takes is answered DONE, FULL or LIMIT
  pub shaped_runs : (input glyphs tags homes : List ℕ) (end : ℕ) → input_of input ≡ Ok end → length glyphs ≡ shaper_room
      → length tags ≡ shaper_room → length homes ≡ shaper_room
      → ((shaped input glyphs tags homes).reply.answer ≡ Done)
      ⊎ (((shaped input glyphs tags homes).reply.answer ≡ Full) ⊎ ((shaped input glyphs tags homes).reply.answer ≡ Limit))
