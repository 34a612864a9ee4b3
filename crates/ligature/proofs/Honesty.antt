-- The machine's steps add their ligatures to the history, and these insert nothing.
use Prim.Native.Nat.{ℕ}
use mathlib.Core.Bool.{Bool}
use mathlib.Core.List.{List}
use Rattle.state_tables.specs.declared.States.{States}
use Rattle.line.specs.Line.{Line, Valid}
use Rattle.line.specs.History.{Fits}
use Rattle.machine.proofs.Quiet.{quiet_fits}
use Rattle.ligature.specs.Ligature.{stack_in, next}
use Rattle.ligature.specs.Calls.{ligature}
use Rattle.ligature.specs.declared.LigatureState.{LigatureState}
use Rattle.ligature.proofs.Ligations.{quiet_ligations}

pub step_fits : (classes : ℕ → ℕ) (bytes : List ℕ) (states : States) (s : LigatureState) (l : Line) (i g : ℕ) (e : Bool) → Valid l
    → Fits (ligature.step classes bytes states s l i g e).changes l
step_fits classes bytes states s l i g e v = quiet_fits _ l v (quiet_ligations (next classes bytes states s.state (stack_in s) i g e).made)
