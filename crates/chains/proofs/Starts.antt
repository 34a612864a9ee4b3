-- The tests before a table's chains, from what the code has tested.
use Rattle.std.specs.Prelude.{Result, Ok, Err}
use Prim.Native.Nat.{ℕ, ◌<◌, ◌≤◌}
use mathlib.Core.Path.{◌≡◌, sym, ◌∙◌}
use mathlib.Core.List.{[], ◌∷◌}
use borrow.Author.Tests.{lt-ltb, le-ltb, ltb-false}
use Rattle.answers.specs.Refuse.{refuse, table_test}
use Rattle.answers.specs.declared.Refusal.{Refusal}
use Rattle.answers.specs.declared.Refusal.TheVariants as Refusal'
use Rattle.answers.proofs.Refusals.{refuse-none, refuse-here, refuse-later, passed_here, passed_later, alone_refused, alone-passed}
use Rattle.chains.specs.Entries.{start_test, chains_tests}

module _ (length start : ℕ) {check : (Result Unit Refusal)} (e : check ≡ refuse (table_test length ∷ [])) where
  pub start-table : {why : Refusal} → check ≡ Err why → Err why ≡ refuse (chains_tests length start)
  unfolding chains_tests
  start-table f = sym (alone_refused (table_test length) (start_test length start ∷ []) _ (sym e ∙ f))

  pub start-past : check ≡ Ok tt → length < start → Err Refusal'.Head ≡ refuse (chains_tests length start)
  unfolding chains_tests start_test
  start-past f h =
      sym (alone-passed (table_test length) (start_test length start ∷ []) (sym e ∙ f) ∙ refuse-here (start_test length start) [] (lt-ltb _ _ h))

  pub start-inside : check ≡ Ok tt → start ≤ length → Ok tt ≡ refuse (chains_tests length start)
  unfolding chains_tests start_test
  start-inside f h =
      sym (alone-passed (table_test length) (start_test length start ∷ []) (sym e ∙ f) ∙ refuse-later (start_test length start) [] (le-ltb _ _ h) ∙ refuse-none)

-- a start that was taken is not past the table
pub taken_start : (length start : ℕ) {check : (Result Unit Refusal)} → check ≡ refuse (chains_tests length start) → check ≡ Ok tt → start ≤ length
unfolding chains_tests start_test
taken_start length start k e =
    ltb-false _ _ (passed_here (start_test length start) [] (passed_later (table_test length) (start_test length start ∷ []) (sym k ∙ e)))
