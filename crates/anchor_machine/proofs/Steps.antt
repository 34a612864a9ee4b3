-- What the tests of a lone step say of its room.
use Rattle.std.specs.Prelude.{Ok}
use Prim.Native.Nat.{ℕ, ◌≤◌}
use mathlib.Core.Path.{◌≡◌, refl, sym, ◌∙◌}
use mathlib.Core.Bool.{Bool, true, false, cond}
use mathlib.Core.List.{List}
use native.Mathlib.Omega.{arith}
use lib.Dec.{ltb, eqb}
use lib.IntN.{ℤ}
use lib.ListN.{length}
use borrow.Author.Tests.{not-false, ltb-false, eqb-true}
use Rattle.laws.specs.Lists.{both}
use Rattle.laws.proofs.Lists.{both_left, both_right}
use Rattle.answers.proofs.Refusals.{passed_here, passed_later}
use Rattle.answers.specs.Limits.{room_limit}
use Rattle.answers.specs.Refuse.{refuse}
use Rattle.kerning.specs.Line.{is_modest}
use Rattle.anchor_machine.specs.Writes.{are_long}
use Rattle.anchor_machine.specs.Machine.{is_roomy, later_tests, step_tests}
use Rattle.anchor_machine.specs.declared.AnchorState.{AnchorState}

-- in a room that is taken, a line's places are places of each slice
pub roomy_long : (along x y : List ℤ) (back : List ℕ) (used : ℕ) → is_roomy along x y back used ≡ true
    → (used ≤ length x) × (used ≤ length y) × (used ≤ length back)
unfolding is_roomy are_long
roomy_long along x y back used e = go (ltb room_limit (length along)) (ltb (length along) used) refl e
  where
    go : (t u : Bool) → ltb (length along) used ≡ u
        → cond t false (cond u false (both (both (eqb (length x) (length along)) (both (eqb (length y) (length along)) (eqb (length back) (length along)))) (is_modest along))) ≡ true
        → (used ≤ length x) × (used ≤ length y) × (used ≤ length back)
    go true u f g = absurd cc
    go false true f g = absurd cc
    go false false f g =
        let long = both_left (both (eqb (length x) (length along)) (both (eqb (length y) (length along)) (eqb (length back) (length along)))) (is_modest along) g in
        let first = both_left (eqb (length x) (length along)) (both (eqb (length y) (length along)) (eqb (length back) (length along))) long in
        let later = both_right (eqb (length x) (length along)) (both (eqb (length y) (length along)) (eqb (length back) (length along))) long in
        let second = both_left (eqb (length y) (length along)) (eqb (length back) (length along)) later in
        let third = both_right (eqb (length y) (length along)) (eqb (length back) (length along)) later in
        let h = ltb-false (length along) used f in (
          omega (arith, h, eqb-true (length x) (length along) first),
          omega (arith, h, eqb-true (length y) (length along) second),
          omega (arith, h, eqb-true (length back) (length along) third),
        )

pub step_ready : (n m : ℕ) (along x y : List ℤ) (back : List ℕ) (used index : ℕ) (s : AnchorState) (headless tupled : Bool) {roomy : Bool}
    → roomy ≡ is_roomy along x y back used → refuse (step_tests n m roomy used index s headless tupled) ≡ Ok tt
    → (used ≤ length x) × (used ≤ length y) × (used ≤ length back)
unfolding step_tests later_tests
step_ready n m along x y back used index s headless tupled q e =
    roomy_long along x y back used (sym q ∙ not-false _ (passed_here _ _ (passed_later _ _ (passed_later _ _ e))))
