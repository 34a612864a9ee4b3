-- What a line and adjustments have that they take.
use Rattle.std.specs.Prelude.{Ok}
use Prim.Native.Nat.{ℕ}
use mathlib.Core.Path.{◌≡◌}
use mathlib.Core.Bool.{true}
use mathlib.Core.List.{List, [], ◌∷◌}
use lib.Dec.{eqb}
use lib.IntN.{ℤ}
use lib.ListN.{length}
use borrow.Author.Tests.{not-false, eqb-true}
use Rattle.laws.proofs.Lists.{both_left, both_right}
use Rattle.answers.proofs.Refusals.{passed_here, passed_later}
use Rattle.answers.specs.Refuse.{refuse, table_test}
use Rattle.line.specs.Line.{Line, Valid}
use Rattle.line.specs.Test.{is_valid}
use Rattle.line.proofs.Exact.{valid_of}
use Rattle.kerning.specs.Bounds.{Within}
use Rattle.kerning.specs.Line.{bound, is_modest, is_kernable, is_taken, taken_test, kerning_tests}
use Rattle.kerning.proofs.Scans.{modest-within}

-- what a line and adjustments are that a run takes
pub record Kernable (l : Line) (along : List ℤ) : Type 0 where
  pub valid : Valid l
  pub long : length along ≡ length l.glyphs

-- and those that a lone pass takes
pub record Taken (l : Line) (along : List ℤ) : Type 0 where
  pub kernable : Kernable l along
  pub modest : Within bound along

pub kernable_of : (l : Line) (along : List ℤ) → is_kernable l along ≡ true → Kernable l along
unfolding is_kernable
kernable_of l along e =
    record { valid = valid_of l (both_right (eqb (length along) (length l.glyphs)) (is_valid l) e); long = eqb-true _ _ (both_left _ (is_valid l) e) }

pub taken_of : (l : Line) (along : List ℤ) → is_taken l along ≡ true → Taken l along
unfolding is_taken
taken_of l along e =
    record {
      kernable = kernable_of l along (both_left (is_kernable l along) (is_modest along) e);
      modest = modest-within along (both_right (is_kernable l along) (is_modest along) e);
    }

-- what a call that passes them has
pub taken_pass : (n : ℕ) (l : Line) (along : List ℤ) → refuse (kerning_tests n l along) ≡ Ok tt → Taken l along
unfolding kerning_tests taken_test
taken_pass n l along e = taken_of l along (not-false _ (passed_here (taken_test l along) [] (passed_later (table_test n) (taken_test l along ∷ []) e)))
