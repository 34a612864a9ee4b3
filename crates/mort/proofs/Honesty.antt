-- What the passes of the two kinds add to the history: on every valid line their changes are legal.
use Rattle.std.specs.Prelude.{Option, Some, None}
use Rattle.state_tables.specs.declared.States.{States}
use Prim.Native.Nat.{ℕ}
use mathlib.Core.Bool.{Bool, true, false, cond}
use mathlib.Core.List.{List, []}
use Rattle.answers.specs.declared.Refusal.TheVariants as Refusal'
use Rattle.tables.specs.Units.{lookup_by}
use Rattle.tables.specs.declared.units.Reading.TheVariants.{Manual}
use Rattle.state_tables.specs.States.{classic_at}
use Rattle.line.specs.Line.{Line, Valid}
use Rattle.line.specs.History.{Fits}
use Rattle.machine.specs.Machine.{refused_pass}
use Rattle.machine.proofs.Quiet.{quiet_none, quiet_fits}
use Rattle.machine.proofs.Fitting.{fitting}
use Rattle.rearrangement.specs.Calls.{rearrangement}
use Rattle.rearrangement.proofs.Honesty as Rearrangement'
use Rattle.noncontextual.specs.NonContextual as NonContextual
use Rattle.noncontextual.proofs.Honesty as NonContextual'
use Rattle.mort.specs.Mort.{has_kind, body_of, rearranged, old_rearrangement, old_non_contextual}
use Rattle.mort.proofs.Lent.{passed-has}

module _ (l : Line) (v : Valid l) where
  none-fits : Fits [] l
  none-fits = quiet_fits [] l v quiet_none

  rearranged-fits : (made : Option States) (body : List ℕ) → Fits (rearranged made body l).changes l
  rearranged-fits (Some states) body = passed-has Valid Fits fitting rearrangement Rearrangement'.step_fits body states l v
  rearranged-fits None body = none-fits

  pub rearrangement-fits : (bytes : List ℕ) → Fits (old_rearrangement.worked bytes l).changes l
  rearrangement-fits bytes = go (has_kind bytes 0)
    where
      go : (kind : Bool) → Fits (cond kind (rearranged (classic_at (body_of bytes)) (body_of bytes) l) (refused_pass Refusal'.Head)).changes l
      go true = rearranged-fits (classic_at (body_of bytes)) (body_of bytes)
      go false = none-fits

  pub noncontextual-fits : (bytes : List ℕ) → Fits (old_non_contextual.worked bytes l).changes l
  noncontextual-fits bytes = go (has_kind bytes 4)
    where
      go : (kind : Bool) → Fits (cond kind (NonContextual.passed (lookup_by Manual (body_of bytes)) l) (refused_pass Refusal'.Head)).changes l
      go true = quiet_fits _ l v (NonContextual'.quiet_pass (lookup_by Manual (body_of bytes)) l)
      go false = none-fits
