-- The run of document 01, of which no feature can be asked: a chain's default flags alone choose its subtables. A run without requests is this one.
use Rattle.std.specs.Prelude.{ℕ, zero, suc, true, false, List, [], ◌∷◌, length}
use Rattle.answers.specs.Limits.{head_limit}
use Rattle.answers.specs.Refuse.{Test, refuse, table_test}
use Rattle.answers.specs.declared.Answer.TheVariants as Answer'
use Rattle.line.specs.Line.{Line}
use Rattle.line.specs.Test.{line_test}
use Rattle.machine.specs.Pass.{Passed, is_done}
use Rattle.machine.specs.Call.{if_passed}
use Rattle.chains.specs.Entries.{start_test}
use Rattle.chains.specs.Walk.{walk_of}
use Rattle.chains.specs.declared.Head.{Head}
use Rattle.chains.specs.declared.Head.TheVariants as Head'
use Rattle.morx.specs.Run.{visit, visit_leaves, Ran, behind}
use Rattle.morx.specs.declared.Choices.{Choices}

-- the flags behind a head: a chain's default flags choose from there on
abbrev pub defaults_after : Head → ℕ → ℕ
defaults_after (Head'.Chain chain) flags = chain.flags
defaults_after (Head'.Subtable s) flags = flags

module _ (table : List ℕ) (choices : Choices) where
  -- over heads, with so many left to count
  unfoldable pub over_by_defaults : (left : ℕ) → (flags : ℕ) → List Head → Line → Ran
  over_by_defaults left flags [] l = record { answer = Answer'.Done; changes = []; heads = 0 }
  over_by_defaults zero flags (head ∷ heads) l = record { answer = Answer'.Limit; changes = []; heads = 0 }
  over_by_defaults (suc left) flags (head ∷ heads) l =
      let here : Passed = visit table choices flags head l in
      elim (is_done here.answer) [
        | false ↦ record { answer = here.answer; changes = here.changes; heads = 1 }
        | true ↦ behind here.changes (over_by_defaults left (defaults_after head flags) heads (visit_leaves table choices flags head l))
      ]

-- TABLE, LINE, HEAD
unfoldable pub default_tests : (table_length start : ℕ) → Line → List Test
default_tests table_length start l = table_test table_length ∷ line_test l ∷ start_test table_length start ∷ []

-- a call of the run over the table at `start`
unfoldable pub call_by_defaults : List ℕ → (start : ℕ) → Choices → Line → Ran
call_by_defaults table start choices l =
    if_passed (λ why. record { answer = Answer'.Refused why; changes = []; heads = 0 }) (refuse (default_tests (length table) start l))
    (over_by_defaults table choices head_limit 0 (walk_of choices.edition table start) l)
