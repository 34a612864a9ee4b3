-- The tests before a pass or a step, from what the code has tested; and what a call that they pass is.
use Rattle.std.specs.Prelude.{Option, Some, None, Result, Ok, Err}
use Prim.Native.Nat.{ℕ, ◌<◌, ◌≤◌}
use mathlib.Core.Path.{◌≡◌, sym, ◌∙◌, ap}
use mathlib.Core.Bool.{Bool, true, false, not}
use mathlib.Core.List.{List, [], ◌∷◌, ◌++◌}
use lib.ListN.{length, drop}
use borrow.Author.Tests.{lt-ltb, le-ltb, ltb-false}
use Rattle.answers.proofs.Refusals.{refuse-none, refuse-here, refuse-later, passed_here, passed_later, alone_refused, alone-passed}
use Rattle.answers.specs.Limits.{room_limit}
use Rattle.answers.specs.Refuse.{Test, refuse, table_test}
use Rattle.answers.specs.declared.Refusal.{Refusal}
use Rattle.answers.specs.declared.Refusal.TheVariants as Refusal'
use Rattle.state_tables.specs.declared.States.{States}
use Rattle.line.specs.Line.{Line, Valid}
use Rattle.line.specs.Changes.{apply_all}
use Rattle.state_tables.specs.Classes.{class_of}
use Rattle.line.specs.Test.{is_valid, line_test}
use Rattle.line.proofs.Refusals.{refuse-line, refuse_past_line, passed-line}
use Rattle.machine.specs.Call.{is_ready, head_test, pass_tests, place_test, step_tests, lone_step}
use Rattle.machine.specs.Pass as Pass'
use Rattle.machine.specs.Machine.{Subtable, Machine, refused_pass, pass_call, passed, subtable_of}

-- a line that a call has taken is valid; what follows is named in attributes
pub taken-line : (table_length : ℕ) (l : Line) (opens : Bool) → refuse (pass_tests table_length l opens) ≡ Ok tt → Valid l
unfolding pass_tests
taken-line table_length l opens e = passed-line l (head_test opens ∷ []) (passed_later (table_test table_length) (line_test l ∷ head_test opens ∷ []) e)

pub taken_within : (table_length : ℕ) (l : Line) (opens : Bool) → refuse (pass_tests table_length l opens) ≡ Ok tt → l.used ≤ length l.glyphs
taken_within table_length l opens e = (taken-line table_length l opens e).within

pub taken_paired : (table_length : ℕ) (l : Line) (opens : Bool) → refuse (pass_tests table_length l opens) ≡ Ok tt → length l.tags ≡ length l.glyphs
taken_paired table_length l opens e = (taken-line table_length l opens e).paired

pub taken_limited : (table_length : ℕ) (l : Line) (opens : Bool) → refuse (pass_tests table_length l opens) ≡ Ok tt → length l.glyphs ≤ 32768
unfolding room_limit
taken_limited table_length l opens e = (taken-line table_length l opens e).limited

-- what two passes that are the same answer and leave
pub same_answer : {whole some : Pass'.Passed} → whole ≡ some → some.answer ≡ whole.answer
same_answer e = ap (λ (w : Pass'.Passed). w.answer) (sym e)

pub same_left : {A : Type 0} (of : Line → A) (l : Line) {whole some : Pass'.Passed} → whole ≡ some
    → of (apply_all some.changes l) ≡ of (apply_all whole.changes l)
same_left of l e = ap (λ (w : Pass'.Passed). of (apply_all w.changes l)) (sym e)

-- a call of a pass, by what its code has: refused, or the work on the subtable
module _ (subtable : Subtable) (table : List ℕ) (start : ℕ) (l : Line) {bytes : List ℕ} {opens : Bool} {check : (Result Unit Refusal)}
    (b : bytes ≡ drop start table) (o : opens ≡ subtable.is_open bytes) (k : check ≡ refuse (pass_tests (length table) l opens)) where
  tested : check ≡ refuse (pass_tests (length table) l (subtable.is_open (drop start table)))
  tested = k ∙ ap (λ (b : Bool). refuse (pass_tests (length table) l b)) (o ∙ ap (λ (x : List ℕ). subtable.is_open x) b)

  pub call_refused : {why : Refusal} → check ≡ Err why → pass_call subtable table start l ≡ refused_pass why
  unfolding pass_call
  call_refused e = rw (sym tested ∙ e, pass_call)

  pub call_works : check ≡ Ok tt → pass_call subtable table start l ≡ subtable.worked bytes l
  unfolding pass_call
  call_works e = rw (sym tested ∙ e, pass_call) (ap (λ (x : List ℕ). subtable.worked x l) (sym b))

-- the work of a machine on a subtable, by what its code has: refused by HEAD, or its pass
module _ {S : Type 0} (machine : Machine S) (bytes : List ℕ) (l : Line) {made : (Option States)} (m : made ≡ machine.opened bytes) where
  pub work_headless : made ≡ None → (subtable_of machine).worked bytes l ≡ refused_pass Refusal'.Head
  work_headless s = rw (sym m ∙ s)

  pub work-passed : {states : States} {body : List ℕ} → made ≡ Some states → body ≡ drop 12 bytes
      → (subtable_of machine).worked bytes l ≡ passed machine body states l
  work-passed {states} r d = rw (sym m ∙ r) (ap (λ (x : List ℕ). passed machine x states l) (sym d))

-- the tests before a step, from TABLE on
module _ (n : ℕ) (line_tests : List Test) (used index : ℕ) (state_tests : List Test) (made : Option States) {check : (Result Unit Refusal)} (e : check ≡ refuse (table_test n ∷ [])) where
  abbrev after_table : List Test
  after_table = line_tests ++ place_test used index ∷ (state_tests ++ head_test (is_ready made) ∷ [])

  pub table_refused : {why : Refusal} → check ≡ Err why → Err why ≡ refuse (step_tests n line_tests used index state_tests made)
  unfolding step_tests
  table_refused f = sym (alone_refused (table_test n) after_table _ (sym e ∙ f))

  pub table-passed : check ≡ Ok tt → refuse (step_tests n line_tests used index state_tests made) ≡ refuse after_table
  unfolding step_tests
  table-passed f = alone-passed (table_test n) after_table (sym e ∙ f)

-- the tests before a step that is lent the line, up to those of its state
module _ (n : ℕ) (l : Line) (index : ℕ) (state : List Test) (made : Option States) where
  abbrev late : List Test
  late = state ++ head_test (is_ready made) ∷ []

  abbrev behind : List Test
  behind = line_test l ∷ place_test l.used index ∷ late

  abbrev tests : List Test
  tests = step_tests n (line_test l ∷ []) l.used index state made

  module _ {check : (Result Unit Refusal)} (e : check ≡ refuse (table_test n ∷ [])) where
    module _ {taken : Bool} (f : check ≡ (Ok tt)) (t : taken ≡ is_valid l) where
      pub step_line : not taken ≡ true → Err Refusal'.Line ≡ refuse tests
      step_line h = sym (table-passed n (line_test l ∷ []) l.used index state made e f ∙ refuse-line l _ t h)

      module _ (h : not taken ≡ false) where
        to_place_lem : refuse tests ≡ refuse (place_test l.used index ∷ late)
        to_place_lem = table-passed n (line_test l ∷ []) l.used index state made e f ∙ refuse_past_line l _ t h

        pub step-place : l.used < index → Err Refusal'.Place ≡ refuse tests
        unfolding place_test
        step-place p = sym (to_place_lem ∙ refuse-here _ _ (lt-ltb l.used index p))

        pub past-place : index ≤ l.used → refuse tests ≡ refuse late
        unfolding place_test
        past-place p = to_place_lem ∙ refuse-later _ _ (le-ltb l.used index p)

  -- a line that a step has taken is valid, its index is not above the used length, and its later tests passed
  module _ (e : refuse tests ≡ (Ok tt)) where
    line-passed : refuse behind ≡ Ok tt
    unfolding step_tests
    line-passed = passed_later (table_test n) behind e

    pub stepped_line : Valid l
    stepped_line = passed-line l (place_test l.used index ∷ late) line-passed

    place-passed : refuse (place_test l.used index ∷ late) ≡ Ok tt
    place-passed = passed_later (line_test l) (place_test l.used index ∷ late) line-passed

    pub stepped-inside : index ≤ l.used
    unfolding place_test
    stepped-inside = ltb-false l.used index (passed_here (place_test l.used index) late place-passed)

    pub stepped-later : refuse late ≡ Ok tt
    stepped-later = passed_later (place_test l.used index) late place-passed

-- HEAD is the last test
pub head_refused : (made : Option States) → made ≡ None → refuse (head_test (is_ready made) ∷ []) ≡ Err Refusal'.Head
unfolding head_test
head_refused made m = refuse-here (head_test (is_ready made)) [] (rw m)

pub head_passed : (made : Option States) {states : States} → made ≡ Some states → refuse (head_test (is_ready made) ∷ []) ≡ Ok tt
unfolding head_test
head_passed made m = refuse-later (head_test (is_ready made)) [] (rw m) ∙ refuse-none

-- a lone step, by what its code has: refused, or the step on a state table
module _ {A : Type 0} (opened : List ℕ → Option States) (refused : Refusal → A) (table : List ℕ) (start : ℕ) (line_tests : List Test) (used index : ℕ)
    (state_tests : List Test) (step : (classes : ℕ → ℕ) → List ℕ → States → A) {bytes : List ℕ} {made : (Option States)} {check : (Result Unit Refusal)}
    (b : bytes ≡ drop start table) (m : made ≡ opened bytes) (k : check ≡ refuse (step_tests (length table) line_tests used index state_tests made)) where
  abbrev whole : A
  whole = lone_step opened refused table start line_tests used index state_tests step

  opened-at : made ≡ opened (drop start table)
  opened-at = m ∙ ap opened b

  step_tested : check ≡ refuse (step_tests (length table) line_tests used index state_tests (opened (drop start table)))
  step_tested = k ∙ ap (λ (h : Option States). refuse (step_tests (length table) line_tests used index state_tests h)) opened-at

  pub step_refused : {why : Refusal} → check ≡ Err why → whole ≡ refused why
  unfolding lone_step
  step_refused e = rw (sym step_tested ∙ e, lone_step)

  pub step_headless : check ≡ Ok tt → made ≡ None → whole ≡ refused Refusal'.Head
  unfolding lone_step
  step_headless e h = rw (sym step_tested ∙ e, sym opened-at ∙ h, lone_step)

  pub step-made : {states : States} {body : List ℕ} → check ≡ Ok tt → made ≡ Some states → body ≡ drop 12 bytes
      → whole ≡ step (class_of body states) body states
  unfolding lone_step
  step-made {states} e r d =
      rw (sym step_tested ∙ e, sym opened-at ∙ r, lone_step) (ap (λ (x : List ℕ). step (class_of x states) x states) (sym (d ∙ ap (drop 12) b)))
