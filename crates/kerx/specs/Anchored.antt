-- Anchored passes and runs of kerx: format 4 besides, by an ankr table, with what is written to three slices beside the adjustments.
use Rattle.answers.specs.declared.Refusal.{Refusal}
use Rattle.std.specs.Prelude.{ℕ, Bool, false, not, cond, List, [], ◌∷◌, ◌++◌, ℤ, length, drop, Result, Ok, Err}
use Rattle.laws.specs.Backward.{backward}
use Rattle.laws.specs.Choose.{if_eq}
use Rattle.laws.specs.Lists.{both, tab}
use Rattle.answers.specs.Refuse.{Test, refuse, table_test}
use Rattle.answers.specs.declared.Answer.{Answer}
use Rattle.answers.specs.declared.Answer.TheVariants as Answer'
use Rattle.answers.specs.declared.Refusal.TheVariants as Refusal'
use Rattle.tables.specs.declared.units.Reading.{Reading}
use Rattle.line.specs.Line.{Line}
use Rattle.kerning.specs.Additions.{Addition, Kerned}
use Rattle.kerning.specs.Heads.{barred}
use Rattle.kerning.specs.declared.heads.Unready.{Unready}
use Rattle.kerning.specs.declared.heads.Unready.TheVariants.{Short}
use Rattle.kerning.specs.Line.{is_kernable, is_taken}
use Rattle.kerning.specs.declared.choices.Choices.{Choices}
use Rattle.kerx_machine.specs.Machine.{body_of, is_tupled}
use Rattle.anchors.specs.Anchors.{anchor_test}
use Rattle.anchor_machine.specs.Writes.{Write, Anchored, write_x, write_y, write_back, are_long}
use Rattle.anchor_machine.specs.Machine as Anchor'
use Rattle.anchor_machine.specs.declared.Anchoring.{Anchoring}
use Rattle.anchor_machine.specs.declared.AnchorState.{AnchorState}
use Rattle.anchor_machine.specs.declared.AnchorStep.{AnchorStep}
use Rattle.kerning_lists.specs.Walk.{on_head, list_bytes, visited}
use Rattle.kerning_lists.specs.Run.{Ran, zeros, mirrored, start_test}
use Rattle.kerning_lists.specs.Family.{walk_of, ran}
use Rattle.kerning_lists.specs.declared.Subtable.{Subtable}
use Rattle.kerx.specs.Heads.{head_in, list_of}
use Rattle.kerx.specs.Kerx.{worked, kerx}

-- the machine of format 4, whose state table begins where format 1's does
unfoldable pub anchors_of : List ℕ → (version : ℕ) → Reading → Result Anchoring Unready
anchors_of bytes version reading = barred (is_tupled bytes version reading) (Anchor'.opened reading (body_of bytes))

-- what an anchored pass answers, its additions and its writes
pub record Marked : Type 0 where
  pub answer : Answer
  pub additions : List Addition
  pub writes : List Write

-- a pass that adds alone, and one that writes alone
abbrev pub adding : Kerned → Marked
adding k = record { answer = k.answer; additions = k.additions; writes = [] }

abbrev pub writing : Anchored → Marked
writing a = record { answer = a.answer; additions = []; writes = a.writes }

abbrev pub neither : Answer → Marked
neither answer = record { answer = answer; additions = []; writes = [] }

-- the pass by the subtable that begins with these bytes, of this format: anchored marks, or what there is without them
unfoldable pub worked_with : (ankr bytes : List ℕ) → (version format : ℕ) → (glyphs : List ℕ) → (used : ℕ) → Choices → Marked
worked_with ankr bytes version format glyphs used choices =
    if_eq format 4 (writing (Anchor'.worked_by ankr (body_of bytes) (anchors_of bytes version choices.reading) glyphs used))
    (adding (worked bytes version format glyphs used choices))

-- a lone pass, by the format that the head tells
unfoldable pub passed_with : (ankr bytes : List ℕ) → (version : ℕ) → (glyphs : List ℕ) → (used : ℕ) → Choices → Marked
passed_with ankr bytes version glyphs used choices =
    on_head (head_in false version 0 bytes) (λ s. worked_with ankr bytes version s.format glyphs used choices) (neither (Answer'.Refused Refusal'.Head))

-- the tests of a lone pass: TABLE, ANCHOR, LINE; HEAD and TUPLES are answers of the pass
unfoldable pub pass_tests : (table_length ankr_length : ℕ) → (takes : Bool) → List Test
pass_tests table_length ankr_length takes =
    table_test table_length ∷ anchor_test ankr_length ∷ record { holds = not takes; refusal = Refusal'.Line } ∷ []

abbrev pub marked_by : Result Unit Refusal → Marked → Marked
marked_by (Ok tt) work = work
marked_by (Err why) work = neither (Answer'.Refused why)

-- LINE: what a pass tests without anchors, and slices of another length than the room
unfoldable pub takes_pass : Line → List ℤ → (x y : List ℤ) → (back : List ℕ) → Bool
takes_pass l along x y back = both (are_long (length l.glyphs) x y back) (is_taken l along)

unfoldable pub pass_call : (table ankr : List ℕ) → (start version : ℕ) → Line → List ℤ → (x y : List ℤ) → (back : List ℕ) → Choices → Marked
pass_call table ankr start version l along x y back choices =
    marked_by (refuse (pass_tests (length table) (length ankr) (takes_pass l along x y back))) (passed_with ankr (drop start table) version l.glyphs l.used choices)

-- a lone step by the subtable at `start`: HEAD for every format but 4
unfoldable pub machine_of : List ℕ → (version : ℕ) → Reading → Result Anchoring Unready
machine_of bytes version reading =
    on_head (head_in false version 0 bytes) (λ s. if_eq s.format 4 (anchors_of bytes version reading) (Err Short)) (Err Short)

unfoldable pub step_call : (table ankr : List ℕ) → (start version : ℕ) → AnchorState → (used index glyph : ℕ) → List ℤ → (x y : List ℤ) → (back : List ℕ) → Reading
    → AnchorStep
step_call table ankr start version s used index glyph along x y back reading =
    Anchor'.step_call (length table) ankr (body_of (drop start table)) (machine_of (drop start table) version reading) s used index glyph along x y back

unfoldable pub step_writes : (table ankr : List ℕ) → (start version : ℕ) → AnchorState → (used index glyph : ℕ) → List ℤ → (x y : List ℤ) → (back : List ℕ) → Reading
    → List Write
step_writes table ankr start version s used index glyph along x y back reading =
    Anchor'.step_writes (length table) ankr (body_of (drop start table)) (machine_of (drop start table) version reading) s used index glyph along x y back

-- writes to a line that was turned round, as writes to the line itself; a distance counts in walking order, and is not mirrored
unfoldable pub turned_marks : (used : ℕ) → List Write → List Write
turned_marks used [] = []
turned_marks used (w ∷ more) = record { place = mirrored used w.place; x = w.x; y = w.y; back = w.back } ∷ turned_marks used more

-- what one subtable writes: nothing where the run passes over it; where it is turned, what it writes to the line turned round, turned back
unfoldable pub marking : (work : Subtable → List ℕ → List Write) → (glyphs : List ℕ) → (used : ℕ) → Subtable → List Write
marking work glyphs used s =
    cond s.passed_over [] (cond s.turned (turned_marks used (work s (backward used glyphs))) (work s glyphs))

-- what all of some subtables write, one after the other
unfoldable pub markings : (work : Subtable → List ℕ → List Write) → (glyphs : List ℕ) → (used : ℕ) → List Subtable → List Write
markings work glyphs used [] = []
markings work glyphs used (s ∷ more) = marking work glyphs used s ++ markings work glyphs used more

-- what a subtable of a list writes to some glyphs
abbrev pub marks : (ankr bytes : List ℕ) → (version used : ℕ) → Choices → Subtable → (glyphs : List ℕ) → List Write
marks ankr bytes version used choices s glyphs = (worked_with ankr (drop s.body bytes) version s.format glyphs used choices).writes

-- what a run writes over the list that begins with these bytes
unfoldable pub run_marks : (ankr bytes : List ℕ) → (rtl : Bool) → (glyphs : List ℕ) → (used : ℕ) → Choices → List Write
run_marks ankr bytes rtl glyphs used choices =
    markings (marks ankr bytes (list_of bytes).version used choices) glyphs used (visited (walk_of kerx rtl bytes))

-- so many distances, all none
unfoldable pub nones : ℕ → List ℕ
nones n = tab (λ p. 0) n

-- what an anchored run answers, its heads and its adjustments, which are those of a run without anchors, and the three slices, whose used part is zeroed
-- first
pub record AnchoredRan : Type 0 where
  pub ran : Ran
  pub x : List ℤ
  pub y : List ℤ
  pub back : List ℕ

unfoldable pub ran_with : (ankr bytes : List ℕ) → (rtl : Bool) → (glyphs : List ℕ) → (used : ℕ) → List ℤ → (x y : List ℤ) → (back : List ℕ) → Choices → AnchoredRan
ran_with ankr bytes rtl glyphs used along x y back choices =
    record {
      ran = ran kerx bytes rtl glyphs used along choices;
      x = write_x (run_marks ankr bytes rtl glyphs used choices) (zeros used) ++ drop used x;
      y = write_y (run_marks ankr bytes rtl glyphs used choices) (zeros used) ++ drop used y;
      back = write_back (run_marks ankr bytes rtl glyphs used choices) (nones used) ++ drop used back;
    }

-- the tests of a run: TABLE, ANCHOR, LINE, HEAD
unfoldable pub run_tests : (table_length ankr_length start : ℕ) → (takes : Bool) → List Test
run_tests table_length ankr_length start takes =
    table_test table_length
    ∷ anchor_test ankr_length
    ∷ record { holds = not takes; refusal = Refusal'.Line }
    ∷ start_test table_length start
    ∷ []

unfoldable pub takes_run : Line → List ℤ → (x y : List ℤ) → (back : List ℕ) → Bool
takes_run l along x y back = both (are_long (length l.glyphs) x y back) (is_kernable l along)

-- a refused run counts no heads and changes nothing
abbrev pub ran_unless_refused : Result Unit Refusal → List ℤ → (x y : List ℤ) → (back : List ℕ) → AnchoredRan → AnchoredRan
ran_unless_refused (Ok tt) along x y back r = r
ran_unless_refused (Err why) along x y back r =
    record { ran = record { answer = Answer'.Refused why; heads = 0; along = along }; x = x; y = y; back = back }

unfoldable pub run_call : (table ankr : List ℕ) → (start : ℕ) → (rtl : Bool) → Line → List ℤ → (x y : List ℤ) → (back : List ℕ) → Choices → AnchoredRan
run_call table ankr start rtl l along x y back choices =
    ran_unless_refused (refuse (run_tests (length table) (length ankr) start (takes_run l along x y back))) along x y back
    (ran_with ankr (list_bytes table start) rtl l.glyphs l.used along x y back choices)
