-- A call of the run: its tests, what it answers and what it leaves.
use Rattle.std.specs.Prelude.{ℕ, List, [], ◌∷◌, ltb, length}
use Rattle.answers.specs.Refuse.{Test, refuse, table_test}
use Rattle.answers.specs.declared.Answer.TheVariants as Answer'
use Rattle.answers.specs.declared.Refusal.TheVariants as Refusal'
use Rattle.line.specs.Line.{Line}
use Rattle.line.specs.Test.{line_test}
use Rattle.line.specs.Changes.{apply_all}
use Rattle.machine.specs.Call.{if_passed}
use Rattle.chains.specs.Entries.{start_test}
use Rattle.morx.specs.Run.{Ran, ran}
use Rattle.morx.specs.declared.Choices.{Choices}

-- the most features that a run may be asked for
unfoldable pub request_limit : ℕ
request_limit = 64

-- REQUEST: they are more
unfoldable pub request_test : (requests : List ℕ) → Test
request_test requests = record { holds = ltb request_limit (length requests); refusal = Refusal'.Request }

-- TABLE, REQUEST, LINE, HEAD: the start is past the table
unfoldable pub run_tests : (table_length start : ℕ) → Line → (requests : List ℕ) → List Test
run_tests table_length start l requests = table_test table_length ∷ request_test requests ∷ line_test l ∷ start_test table_length start ∷ []

-- a call of the run over the table at `start`; a refused one changes nothing and has counted no head
unfoldable pub run_call : List ℕ → (start : ℕ) → Choices → Line → (requests : List ℕ) → Ran
run_call table start choices l requests =
    if_passed (λ why. record { answer = Answer'.Refused why; changes = []; heads = 0 }) (refuse (run_tests (length table) start l requests)) (ran table start choices l requests)

-- the line that it leaves
unfoldable pub run_leaves : List ℕ → (start : ℕ) → Choices → Line → (requests : List ℕ) → Line
run_leaves table start choices l requests = apply_all (run_call table start choices l requests).changes l
