-- The machine's steps add nothing to the history.
use Prim.Native.Nat.{ℕ}
use mathlib.Core.Bool.{Bool}
use mathlib.Core.List.{List}
use Rattle.state_tables.specs.declared.States.{States}
use Rattle.line.specs.Line.{Line, Valid}
use Rattle.line.specs.History.{Fits}
use Rattle.machine.proofs.Quiet.{quiet_fits}
use Rattle.contextual.specs.Contextual.{next}
use Rattle.contextual.specs.Calls.{contextual}
use Rattle.contextual.specs.declared.ContextualState.{ContextualState}
use Rattle.contextual.proofs.Writes.{quiet_writes}

pub step_fits : (classes : ℕ → ℕ) (bytes : List ℕ) (states : States) (s : ContextualState) (l : Line) (i g : ℕ) (e : Bool) → Valid l
    → Fits (contextual.step classes bytes states s l i g e).changes l
step_fits classes bytes states s l i g e v = quiet_fits _ l v (quiet_writes (next classes bytes states s i g e).writes)
