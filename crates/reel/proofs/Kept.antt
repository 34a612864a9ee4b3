-- A run of morx leaves the slices as long as they are, whatever line it is lent: a refused one changes nothing.
use Rattle.std.specs.Prelude.{Result, Ok, Err}
use Prim.Native.Nat.{ℕ}
use mathlib.Core.Path.{◌≡◌, refl, ◌∙◌, sym}
use mathlib.Core.List.{List, [], ◌∷◌}
use lib.ListN.{length}
use Rattle.answers.specs.Refuse.{refuse, table_test}
use Rattle.answers.specs.declared.Answer.TheVariants as Answer'
use Rattle.answers.specs.declared.Refusal.{Refusal}
use Rattle.answers.proofs.Refusals.{passed_later}
use Rattle.line.specs.Line.{Line, Valid}
use Rattle.line.specs.Test.{line_test}
use Rattle.line.specs.Changes.{Change, apply_all}
use Rattle.line.specs.History.{Fits}
use Rattle.line.proofs.Histories.{by_changes}
use Rattle.line.proofs.Refusals.{passed-line}
use Rattle.machine.specs.Call.{if_passed}
use Rattle.chains.specs.Entries.{start_test}
use Rattle.morx.specs.Run.{ran}
use Rattle.morx.specs.Calls.{request_test, run_tests, run_call}
use Rattle.morx.specs.declared.Choices.{Choices}
use Rattle.morx.proofs.Honesty.{run_fits}
use Rattle.reel.specs.Work.{SameRoom, Keeps}

-- changes that fit a valid line
pub fitting_kept : (changes : List Change) (l : Line) → Valid l → Fits changes l → SameRoom (apply_all changes l) l
fitting_kept changes l v fits =
    let by = by_changes changes l v fits in
    record { glyphs = by.same; tags = by.valid.paired ∙ by.same ∙ sym v.paired; homes = by.all }

none_kept : (l : Line) → SameRoom (apply_all [] l) l
unfolding apply_all
none_kept l = record { glyphs = refl; tags = refl; homes = refl }

module _ (table : List ℕ) (start : ℕ) (choices : Choices) (requests : List ℕ) where
  passed-valid : (l : Line) → refuse (run_tests (length table) start l requests) ≡ Ok tt → Valid l
  unfolding run_tests
  passed-valid l e =
      passed-line l (start_test (length table) start ∷ [])
      (passed_later (request_test requests) (line_test l ∷ start_test (length table) start ∷ [])
      (passed_later (table_test (length table)) (request_test requests ∷ line_test l ∷ start_test (length table) start ∷ []) e))

  pub run_keeps : Keeps (λ l. run_call table start choices l requests)
  unfolding run_call
  run_keeps = record { kept = λ l. go l (refuse (run_tests (length table) start l requests)) refl (run_fits table start choices l requests) }
    where
      go : (l : Line) (check : Result Unit Refusal) → refuse (run_tests (length table) start l requests) ≡ check
          → (Valid l → Fits (run_call table start choices l requests).changes l)
          → SameRoom (apply_all (if_passed (λ (why : Refusal). record { answer = Answer'.Refused why; changes = []; heads = 0 }) check (ran table start choices l requests)).changes l) l
      go l (Err why) e fits = none_kept l
      go l (Ok tt) e fits = fitting_kept (ran table start choices l requests).changes l (passed-valid l e) (rw e at (fits (passed-valid l e)))
