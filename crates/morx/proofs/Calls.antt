-- The tests before a pass and a run, from what the code has tested; and what their calls answer and leave.
use Rattle.std.specs.Prelude.{Result, Ok, Err}
use Prim.Native.Nat.{ℕ, ◌≤◌}
use mathlib.Core.Path.{◌≡◌, refl, sym, ◌∙◌, ap, subst⁻¹}
use mathlib.Core.Bool.{Bool, true, false, not}
use mathlib.Core.List.{List, [], ◌∷◌}
use lib.ListN.{length, drop}
use borrow.Author.Tests.{ltb-false}
use Rattle.answers.specs.Refuse.{Test, refuse, table_test}
use Rattle.answers.specs.declared.Answer.TheVariants as Answer'
use Rattle.answers.specs.declared.Refusal.{Refusal}
use Rattle.answers.proofs.Refusals.{refuse-none, refuse-here, refuse-later, passed_here, passed_later, alone_refused, alone-passed}
use Rattle.line.specs.Line.{Line}
use Rattle.line.specs.Test.{is_valid, line_test}
use Rattle.line.specs.Changes.{apply_all}
use Rattle.line.proofs.Refusals.{passed-line}
use Rattle.line.proofs.Exact.{of_valid}
use Rattle.machine.specs.Pass as Pass
use Rattle.machine.specs.Call.{head_test, pass_tests}
use Rattle.machine.specs.Machine.{refused_pass, pass_call}
use Rattle.chains.specs.Entries.{start_test}
use Rattle.chains.specs.declared.Edition.{Edition}
use Rattle.morx.specs.Kinds.{kind_at, subtable_of_kind, any_subtable}
use Rattle.morx.specs.Run.{Ran, ran}
use Rattle.morx.specs.Calls.{request_test, run_tests, run_call}
use Rattle.morx.specs.Work.{line_tests, Leaves, RunLeaves}
use Rattle.morx.specs.declared.Choices.{Choices}
use Rattle.morx.specs.declared.Kind.{Kind}
use Rattle.morx.specs.declared.PassReply.{PassReply}
use Rattle.morx.specs.declared.RunReply.{RunReply}
use Rattle.morx.proofs.Closed.{closed_refused}

-- the first of two tests and then one more
two_refused : (s t u : Test) {why : Refusal} → refuse (s ∷ t ∷ []) ≡ Err why → refuse (s ∷ t ∷ u ∷ []) ≡ Err why
two_refused s t u {why} e = go s.holds refl
  where
    go : (b : Bool) → s.holds ≡ b → refuse (s ∷ t ∷ u ∷ []) ≡ Err why
    go true h = refuse-here s (t ∷ u ∷ []) h ∙ sym (refuse-here s (t ∷ []) h) ∙ e
    go false h = refuse-later s (t ∷ u ∷ []) h ∙ alone_refused t (u ∷ []) why (sym (refuse-later s (t ∷ []) h) ∙ e)

two-passed : (s t u : Test) → refuse (s ∷ t ∷ []) ≡ Ok tt → refuse (s ∷ t ∷ u ∷ []) ≡ refuse (u ∷ [])
two-passed s t u e = refuse-later s (t ∷ u ∷ []) (passed_here s (t ∷ []) e) ∙ alone-passed t (u ∷ []) (passed_later s (t ∷ []) e)

-- a line that a call has taken is valid, and a start not past the table
pub taken_valid : (length : ℕ) (l : Line) {check : (Result Unit Refusal)} → check ≡ refuse (line_tests length l) → check ≡ Ok tt → is_valid l ≡ true
unfolding line_tests
taken_valid length l k e = of_valid l (passed-line l [] (passed_later (table_test length) (line_test l ∷ []) (sym k ∙ e)))

pub run_taken : (table_length start : ℕ) (l : Line) (requests : List ℕ) {check : (Result Unit Refusal)} → check ≡ refuse (run_tests table_length start l requests) → check ≡ Ok tt
    → (is_valid l ≡ true) × (start ≤ table_length)
unfolding run_tests start_test
run_taken table_length start l requests k e =
    let few = passed_later (table_test table_length) (request_test requests ∷ line_test l ∷ start_test table_length start ∷ []) (sym k ∙ e) in
    let behind = passed_later (request_test requests) (line_test l ∷ start_test table_length start ∷ []) few in (
      of_valid l (passed-line l (start_test table_length start ∷ []) behind),
      ltb-false _ _ (passed_here (start_test table_length start) [] (passed_later (line_test l) (start_test table_length start ∷ []) behind)),
    )

-- the pass tests HEAD by opening the subtable: what can't be opened is refused by the pass itself
module _ (edition : Edition) (table : List ℕ) (start : ℕ) (l : Line) where
  abbrev bytes : List ℕ
  bytes = drop start table

  abbrev work : Pass.Passed
  work = (any_subtable edition).worked bytes l

  call_refused : {why : Refusal} → refuse (line_tests (length table) l) ≡ Err why → pass_call (any_subtable edition) table start l ≡ refused_pass why
  unfolding pass_call pass_tests line_tests
  call_refused e = rw (two_refused (table_test (length table)) (line_test l) (head_test ((any_subtable edition).is_open bytes)) e, pass_call)

  call_by : (opens : Bool) → (any_subtable edition).is_open bytes ≡ opens → refuse (line_tests (length table) l) ≡ Ok tt → pass_call (any_subtable edition) table start l ≡ work
  unfolding pass_call pass_tests line_tests head_test
  call_by true o e =
      rw (
        two-passed (table_test (length table)) (line_test l) (head_test ((any_subtable edition).is_open bytes)) e ∙ refuse-later (head_test ((any_subtable edition).is_open bytes)) [] (ap not o) ∙ refuse-none,
        pass_call,
      )
  call_by false o e =
      rw (two-passed (table_test (length table)) (line_test l) (head_test ((any_subtable edition).is_open bytes)) e ∙ refuse-here (head_test ((any_subtable edition).is_open bytes)) [] (ap not o), pass_call)
      (sym (closed_refused (kind_at edition bytes) bytes l o))

  call_taken : refuse (line_tests (length table) l) ≡ Ok tt → pass_call (any_subtable edition) table start l ≡ work
  call_taken = call_by ((any_subtable edition).is_open bytes) refl

-- a call of the pass
module _ (edition : Edition) (table : List ℕ) (start : ℕ) (l : Line) {check : (Result Unit Refusal)} (k : check ≡ refuse (line_tests (length table) l)) where
  pub pass_refused : {why : Refusal} → check ≡ Err why
      → Leaves (pass_call (any_subtable edition) table start l) l (record { answer = Answer'.Refused why; used = l.used }) l.glyphs l.tags l.homes
  unfolding apply_all
  pass_refused {why} e =
      let r = call_refused edition table start l (sym k ∙ e) in
      record {
        answers = ap (λ (p : Pass.Passed). p.answer) (sym r);
        line = ap (λ (p : Pass.Passed). apply_all p.changes l) (sym r);
      }

  pub pass_worked : {bytes : List ℕ} {kind : Kind} {reply : PassReply} {glyphs tags homes : List ℕ} → check ≡ Ok tt → bytes ≡ drop start table → kind ≡ kind_at edition bytes
      → Leaves ((subtable_of_kind kind).worked bytes l) l reply glyphs tags homes → Leaves (pass_call (any_subtable edition) table start l) l reply glyphs tags homes
  pass_worked {bytes} {kind} {reply} {glyphs} {tags} {homes} e b d left =
      let w : (subtable_of_kind kind).worked bytes l ≡ pass_call (any_subtable edition) table start l =
      ap (λ (x : Kind). (subtable_of_kind x).worked bytes l) d ∙ ap (λ (x : List ℕ). (any_subtable edition).worked x l) b ∙ sym (call_taken edition table start l (sym k ∙ e)) in
      record { answers = left.answers ∙ ap (λ (p : Pass.Passed). p.answer) w; line = left.line ∙ ap (λ (p : Pass.Passed). apply_all p.changes l) w }

-- a call of the run
module _ (table : List ℕ) (start : ℕ) (choices : Choices) (l : Line) (requests : List ℕ) {check : (Result Unit Refusal)} (k : check ≡ refuse (run_tests (length table) start l requests)) where
  pub run_refused : {why : Refusal} → check ≡ Err why
      → RunLeaves (run_call table start choices l requests) l (record { answer = Answer'.Refused why; used = l.used; heads = 0 }) l.glyphs l.tags l.homes
  unfolding run_call apply_all
  run_refused {why} e =
      let r : run_call table start choices l requests ≡ record { answer = Answer'.Refused why; changes = []; heads = 0 } = rw (sym k ∙ e, run_call) in
      record {
        answers = ap (λ (p : Ran). p.answer) (sym r);
        counted = ap (λ (p : Ran). p.heads) (sym r);
        line = ap (λ (p : Ran). apply_all p.changes l) (sym r);
      }

  pub run_worked : {reply : RunReply} {glyphs tags homes : List ℕ} → check ≡ Ok tt
      → RunLeaves (ran table start choices l requests) l reply glyphs tags homes → RunLeaves (run_call table start choices l requests) l reply glyphs tags homes
  unfolding run_call
  run_worked {reply} {glyphs} {tags} {homes} e left =
      let r : run_call table start choices l requests ≡ ran table start choices l requests = rw (sym k ∙ e, run_call) in
      subst⁻¹ (λ (p : Ran). RunLeaves p l reply glyphs tags homes) r left
