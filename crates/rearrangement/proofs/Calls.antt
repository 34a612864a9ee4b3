-- A line that a call of the pass has taken.
use Rattle.std.specs.Prelude.{Ok}
use Prim.Native.Nat.{ℕ, ◌≤◌}
use mathlib.Core.Path.{◌≡◌}
use mathlib.Core.Bool.{Bool}
use mathlib.Core.List.{List}
use native.Mathlib.Omega.{arith}
use lib.ListN.{length}
use Rattle.answers.specs.Limits.{room_limit}
use Rattle.answers.specs.Refuse.{refuse}
use Rattle.line.specs.Line.{line_of}
use Rattle.machine.specs.Call.{pass_tests}
use Rattle.machine.proofs.Calls.{taken-line}

pub taken_fits : (table_length : ℕ) (glyphs tags homes : List ℕ) (used : ℕ) (opens : Bool)
    → refuse (pass_tests table_length (line_of glyphs tags homes used) opens) ≡ Ok tt
    → (used ≤ length glyphs) × (used ≤ length tags) × (used ≤ room_limit)
taken_fits table_length glyphs tags homes used opens e =
    let v = taken-line table_length (line_of glyphs tags homes used) opens e in
    omega (arith, v.within, v.paired, v.limited)
