-- The tests of a run, from what the code has tested.
use Rattle.std.specs.Prelude.{Result, Ok, Err}
use Prim.Native.Nat.{ℕ, ◌<◌, ◌≤◌}
use mathlib.Core.Path.{◌≡◌, sym, ◌∙◌, ap}
use mathlib.Core.Bool.{Bool, true, false, not}
use mathlib.Core.List.{List, [], ◌∷◌}
use lib.IntN.{ℤ}
use borrow.Author.Tests.{lt-ltb, le-ltb, not-false}
use Rattle.answers.proofs.Refusals.{refuse-none, refuse-here, refuse-later, passed_here, passed_later, alone_refused, alone-passed}
use Rattle.answers.specs.Refuse.{Test, refuse, table_test}
use Rattle.answers.specs.declared.Refusal.{Refusal}
use Rattle.answers.specs.declared.Refusal.TheVariants as Refusal'
use Rattle.line.specs.Line.{Line}
use Rattle.kerning.specs.Line.{is_kernable, kernable_test}
use Rattle.kerning_lists.specs.Run.{start_test, run_tests}

module _ (length start : ℕ) (l : Line) (along : List ℤ) {check : (Result Unit Refusal)} (e : check ≡ refuse (table_test length ∷ [])) where
  abbrev behind : List Test
  behind = kernable_test l along ∷ start_test length start ∷ []

  pub tests_table : {why : Refusal} → check ≡ Err why → Err why ≡ refuse (run_tests length start l along)
  unfolding run_tests
  tests_table f = sym (alone_refused (table_test length) behind _ (sym e ∙ f))

  module _ (f : check ≡ (Ok tt)) {taken : Bool} (t : taken ≡ is_kernable l along) where
    to_line : refuse (run_tests length start l along) ≡ refuse behind
    unfolding run_tests
    to_line = alone-passed (table_test length) behind (sym e ∙ f)

    pub tests_line : not taken ≡ true → Err Refusal'.Line ≡ refuse (run_tests length start l along)
    unfolding kernable_test
    tests_line n = sym (to_line ∙ refuse-here (kernable_test l along) (start_test length start ∷ []) (ap not (sym t) ∙ n))

    module _ (n : not taken ≡ false) where
      to_start : refuse (run_tests length start l along) ≡ refuse (start_test length start ∷ [])
      unfolding kernable_test
      to_start = to_line ∙ refuse-later (kernable_test l along) (start_test length start ∷ []) (ap not (sym t) ∙ n)

      pub tests_start : length < start → Err Refusal'.Head ≡ refuse (run_tests length start l along)
      unfolding start_test
      tests_start h = sym (to_start ∙ refuse-here (start_test length start) [] (rw (lt-ltb length start h)))

      pub tests_passed : start ≤ length → Ok tt ≡ refuse (run_tests length start l along)
      unfolding start_test
      tests_passed h = sym (to_start ∙ refuse-later (start_test length start) [] (rw (le-ltb length start h)) ∙ refuse-none)

-- a run that passes them has a line that it takes
pub passed_kernable : (length start : ℕ) (l : Line) (along : List ℤ) → refuse (run_tests length start l along) ≡ Ok tt → is_kernable l along ≡ true
unfolding run_tests kernable_test
passed_kernable length start l along e =
    not-false _
    (passed_here (kernable_test l along) (start_test length start ∷ [])
    (passed_later (table_test length) (kernable_test l along ∷ start_test length start ∷ []) e))
