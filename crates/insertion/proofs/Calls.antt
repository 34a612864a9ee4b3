-- What a call of a pass has that its tests pass.
use Rattle.std.specs.Prelude.{Ok}
use Prim.Native.Nat.{ℕ, ◌≤◌}
use mathlib.Core.Path.{◌≡◌}
use mathlib.Core.Bool.{Bool}
use mathlib.Core.List.{List}
use lib.ListN.{length}
use Rattle.answers.specs.Limits as Limits
use Rattle.answers.specs.Refuse.{refuse}
use Rattle.line.specs.Line.{line_of}
use Rattle.machine.specs.Call.{pass_tests}
use Rattle.machine.proofs.Calls.{taken-line}

pub taken_fits : (n : ℕ) (glyphs tags homes : List ℕ) (used : ℕ) (opens : Bool) → refuse (pass_tests n (line_of glyphs tags homes used) opens) ≡ Ok tt
    → (used ≤ length glyphs) × (length tags ≡ length glyphs) × (length glyphs ≤ Limits.room_limit)
taken_fits n glyphs tags homes used opens e =
    let v = taken-line n (line_of glyphs tags homes used) opens e in
    (v.within, v.paired, v.limited)
