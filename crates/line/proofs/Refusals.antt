-- Which way a list of tests goes.
use Rattle.std.specs.Prelude.{Ok, Err}
use mathlib.Core.Path.{◌≡◌, ◌∙◌, sym, ap}
use mathlib.Core.Bool.{Bool, true, false, not}
use borrow.Author.Tests.{not-false}
use mathlib.Core.List.{List, ◌∷◌}
use Rattle.answers.specs.Refuse.{Test, refuse}
use Rattle.answers.specs.declared.Refusal.TheVariants.{Line}
use Rattle.line.specs.Line as L
use Rattle.line.specs.Line.{Valid}
use Rattle.line.specs.Test.{is_valid, line_test}
use Rattle.answers.proofs.Refusals.{refuse-here, refuse-later, passed_here}
use Rattle.line.proofs.Exact.{valid_of}

-- LINE among them: the LINE test's code, `taken`, decides it
module _ (l : L.Line) (ts : List Test) where
  pub refuse-line : {taken : Bool} → taken ≡ is_valid l → not taken ≡ true → refuse (line_test l ∷ ts) ≡ Err Line
  unfolding line_test
  refuse-line e n = refuse-here (line_test l) ts (ap not (sym e) ∙ n)

  pub refuse_past_line : {taken : Bool} → taken ≡ is_valid l → not taken ≡ false → refuse (line_test l ∷ ts) ≡ refuse ts
  unfolding line_test
  refuse_past_line e n = refuse-later (line_test l) ts (ap not (sym e) ∙ n)

  pub passed-line : refuse (line_test l ∷ ts) ≡ Ok tt → Valid l
  unfolding line_test
  passed-line e = valid_of l (not-false _ (passed_here (line_test l) ts e))
