-- Machines whose every step fits the room: on every valid line their calls are legal.
use Prim.Native.Nat.{◌+◌}
use mathlib.Core.Path.{◌≡◌, ◌∙◌, ap}
use mathlib.Core.List.{List, [], ◌++◌}
use native.Mathlib.Omega.{arith}
use Rattle.line.specs.Line.{Valid}
use Rattle.line.specs.Edits.{inserted}
use Rattle.line.specs.Changes.{Change, history_of}
use Rattle.line.specs.History.{Fits}
use Rattle.line.proofs.Histories.{inserted-append, history_append, by_changes}
use Rattle.machine.proofs.Having.{Closed}
use Rattle.machine.proofs.Quiet.{quiet_none, quiet_fits}

pub inserted-both : (cs ds : List Change) → inserted (history_of (cs ++ ds)) ≡ inserted (history_of cs) + inserted (history_of ds)
inserted-both cs ds = ap inserted (history_append cs ds) ∙ inserted-append (history_of cs) (history_of ds)

pub fitting : Closed Valid Fits
fitting =
    record {
      none = λ l v. quiet_fits [] l v quiet_none;
      both = λ cs ds l v f g.
          let moved = by_changes cs l v f in
          omega (arith, inserted-both cs ds, moved.long, moved.same, g);
      kept = λ cs l v f. (by_changes cs l v f).valid;
    }
