-- What a call has that its tests pass.
use Rattle.std.specs.Prelude.{Option, Ok}
use Prim.Native.Nat.{ℕ, ◌≤◌}
use mathlib.Core.Path.{◌≡◌}
use mathlib.Core.Bool.{Bool}
use mathlib.Core.List.{List, [], ◌∷◌}
use native.Mathlib.Omega.{arith}
use lib.ListN.{length}
use borrow.Author.Tests.{ltb-false}
use Rattle.answers.specs.Refuse.{refuse}
use Rattle.answers.proofs.Refusals.{passed_here}
use Rattle.state_tables.specs.declared.States.{States}
use Rattle.line.specs.Line.{Line, line_of}
use Rattle.line.specs.Test.{line_test}
use Rattle.machine.specs.Call.{pass_tests, step_tests}
use Rattle.machine.proofs.Calls.{taken-line, stepped_line, stepped-inside, stepped-later}
use Rattle.ligature.specs.Calls.{state_tests}
use Rattle.ligature.specs.declared.LigatureState.{LigatureState}

-- a pass: no more places than the slices have
pub taken_fits : (n : ℕ) (glyphs tags homes : List ℕ) (used : ℕ) (opens : Bool) → refuse (pass_tests n (line_of glyphs tags homes used) opens) ≡ Ok tt
    → (used ≤ length glyphs) × (used ≤ length tags)
taken_fits n glyphs tags homes used opens e =
    let v = taken-line n (line_of glyphs tags homes used) opens e in
    (v.within, omega (arith, v.within, v.paired))

-- a step: the same, its index among them, and a stack that is not too deep
pub stepped_fits : (n : ℕ) (glyphs tags homes : List ℕ) (used index : ℕ) (s : LigatureState) (made : Option States)
    → refuse (step_tests n (line_test (line_of glyphs tags homes used) ∷ []) used index (state_tests s used) made) ≡ Ok tt
    → (s.depth ≤ 32) × (used ≤ length glyphs) × (used ≤ length tags) × (index ≤ used)
unfolding state_tests
stepped_fits n glyphs tags homes used index s made e =
    let l : Line = line_of glyphs tags homes used in
    let v = stepped_line n l index (state_tests s used) made e in (
      ltb-false 32 s.depth (passed_here _ _ (stepped-later n l index (state_tests s used) made e)),
      v.within,
      omega (arith, v.within, v.paired),
      stepped-inside n l index (state_tests s used) made e,
    )
