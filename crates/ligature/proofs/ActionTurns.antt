-- More turns than a list of actions counts with change nothing.
use Rattle.std.specs.Prelude.{Option, Some, None}
use Prim.Native.Nat.{ℕ, zero, suc, ◌+◌, ◌≤◌}
use mathlib.Core.Path.{◌≡◌, refl, sym, ◌∙◌, ap}
use mathlib.Core.Bool.{Bool, true, false}
use mathlib.Core.List.{List, ◌++◌}
use native.Mathlib.Omega.{arith}
use lib.Dec.{ltb}
use lib.ListN.{get_or}
use borrow.Author.Tests.{ltb-false}
use Rattle.laws.specs.Lists.{either}
use Rattle.ligature.specs.Actions.{action_of}
use Rattle.ligature.specs.Ligature.{Ligation, ligations_of, stored_in, turn_of, Acts, acts}
use Rattle.ligature.specs.declared.Turn.{Turn}
use Rattle.ligature.proofs.Acting.{none_left, turn_ends, turn_stops, turn_goes}

-- neither of two tests
not_first : (a b : Bool) → either a b ≡ false → b ≡ false
not_first false b e = e
not_first true b e = let z : ◌≡◌ {A = ℕ} 0 1 = cc in absurd (omega arith)

module _ (bytes places : List ℕ) (depth more : ℕ) where
  abbrev from : (turns number at sum cycles : ℕ) → (glyphs : List ℕ) → List Ligation → Acts
  from turns number at sum cycles glyphs made = acts bytes places depth turns number at sum cycles glyphs made

  pub action_turns : (turns number at sum cycles : ℕ) (glyphs : List ℕ) (made : List Ligation) → cycles ≤ 33 → 34 ≤ turns + cycles
      → from (more + turns) number at sum cycles glyphs made ≡ from turns number at sum cycles glyphs made
  action_turns zero number at sum cycles glyphs made c h = absurd (omega (arith, c, h))
  action_turns (suc turns) number zero sum cycles glyphs made c h =
      none_left bytes places depth (more + suc turns) number sum cycles glyphs made ∙ sym (none_left bytes places depth (suc turns) number sum cycles glyphs made)
  action_turns (suc turns) number (suc slot) sum cycles glyphs made c h =
      let one : more + suc turns ≡ suc (more + turns) = omega arith in
      ap (λ (n : ℕ). from n number (suc slot) sum cycles glyphs made) one
      ∙ go (λ at total. action_turns turns (number + 1) at total (cycles + 1)) (turn_of (action_of bytes number (get_or glyphs slot 0) sum) slot) refl
    where
      go : ((at total : ℕ) (gs : List ℕ) (ms : List Ligation) → cycles + 1 ≤ 33 → 34 ≤ turns + (cycles + 1)
          → from (more + turns) (number + 1) at total (cycles + 1) gs ms ≡ from turns (number + 1) at total (cycles + 1) gs ms)
          → (t : Option Turn) → turn_of (action_of bytes number (get_or glyphs slot 0) sum) slot ≡ t
          → from (suc (more + turns)) number (suc slot) sum cycles glyphs made ≡ from (suc turns) number (suc slot) sum cycles glyphs made
      go later None e =
          turn_ends bytes places depth (more + turns) number slot sum cycles glyphs made e
          ∙ sym (turn_ends bytes places depth turns number slot sum cycles glyphs made e)
      go later (Some turn) e = stop (either turn.last (ltb 32 cycles)) refl
        where
          stop : (t : Bool) → either turn.last (ltb 32 cycles) ≡ t
              → from (suc (more + turns)) number (suc slot) sum cycles glyphs made ≡ from (suc turns) number (suc slot) sum cycles glyphs made
          stop true f =
              turn_stops bytes places depth (more + turns) number slot sum cycles glyphs made e f
              ∙ sym (turn_stops bytes places depth turns number slot sum cycles glyphs made e f)
          stop false f =
              let low = ltb-false 32 cycles (not_first turn.last (ltb 32 cycles) f) in
              turn_goes bytes places depth (more + turns) number slot sum cycles glyphs made e f
              ∙ later turn.at turn.sum (stored_in (action_of bytes number (get_or glyphs slot 0) sum) slot glyphs)
              (made ++ ligations_of (action_of bytes number (get_or glyphs slot 0) sum) places slot depth) (omega (arith, low)) (omega (arith, h))
              ∙ sym (turn_goes bytes places depth turns number slot sum cycles glyphs made e f)
