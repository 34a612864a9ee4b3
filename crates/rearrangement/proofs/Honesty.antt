-- The machine's steps add their windows to the history, and these insert nothing.
use Rattle.std.specs.Prelude.{Option, Some, None}
use Prim.Native.Nat.{ℕ}
use mathlib.Core.Path.{refl}
use mathlib.Core.Bool.{Bool}
use mathlib.Core.List.{List}
use Rattle.state_tables.specs.declared.States.{States}
use Rattle.line.specs.Line.{Line, Valid}
use Rattle.line.specs.Edits.{added, inserted}
use Rattle.line.specs.Changes.{edits_of, history_of}
use Rattle.line.specs.History.{Fits}
use Rattle.machine.proofs.Quiet.{Quiet, quiet_fits}
use Rattle.rearrangement.specs.Rearrangement.{next, changes_of}
use Rattle.rearrangement.specs.Calls.{rearrangement}
use Rattle.rearrangement.specs.declared.RearrangementState.{RearrangementState}
use Rattle.rearrangement.specs.declared.Window.{Window}

quiet_edit : (w : Option Window) → Quiet (changes_of w)
unfolding history_of edits_of inserted added
quiet_edit None = refl
quiet_edit (Some w) = refl

pub step_fits : (classes : ℕ → ℕ) (bytes : List ℕ) (states : States) (s : RearrangementState) (l : Line) (i g : ℕ) (e : Bool) → Valid l
    → Fits (rearrangement.step classes bytes states s l i g e).changes l
step_fits classes bytes states s l i g e v = quiet_fits _ l v (quiet_edit (next classes bytes states s i g e).edit)
