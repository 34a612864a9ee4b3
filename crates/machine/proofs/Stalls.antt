-- The stall rule ends: each step advances, or comes one nearer to the one that must.
use Prim.Native.Nat.{ℕ, ◌<◌, ◌≤◌}
use mathlib.Core.Bool.{Bool, true, false}
use mathlib.Core.Logic.{⊎_elim}
use native.Mathlib.Omega.{arith}
use borrow.Author.Tests.{lt-ltb, le-ltb}
use Rattle.laws.proofs.Numbers.{lt-or-ge}
use Rattle.machine.specs.Stall.{stalled, Falls}

pub stall_falls : (cycles used i : ℕ) (stays : Bool) → cycles ≤ 17 → i < used → Falls cycles used i (stalled cycles stays)
unfolding stalled
stall_falls cycles used i false h k = record { sound = omega arith; within = omega arith; less = omega arith }
stall_falls cycles used i true h k =
    ⊎_elim
    (λ (p : 16 < cycles). rw (lt-ltb 16 cycles p, stalled) (record { sound = omega arith; within = omega arith; less = omega arith }))
    (λ (p : cycles ≤ 16). rw (le-ltb 16 cycles p, stalled) (record { sound = omega arith; within = omega arith; less = omega arith }))
    (lt-or-ge 16 cycles)
