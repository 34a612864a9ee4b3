-- What the passes of the two kinds are, by what lies behind the head.
use Rattle.std.specs.Prelude.{Some, None}
use Prim.Native.Nat.{ℕ}
use mathlib.Core.Path.{◌≡◌}
use mathlib.Core.Bool.{true}
use mathlib.Core.List.{List, []}
use Rattle.answers.specs.declared.Answer.TheVariants as Answer'
use Rattle.tables.specs.Units.{lookup_by}
use Rattle.tables.specs.declared.units.Reading.TheVariants.{Manual}
use Rattle.state_tables.specs.declared.States.{States}
use Rattle.state_tables.specs.States.{classic_at}
use Rattle.line.specs.Line.{Line}
use Rattle.machine.specs.Machine.{passed}
use Rattle.rearrangement.specs.Calls.{rearrangement}
use Rattle.noncontextual.specs.NonContextual as NonContextual
use Rattle.mort.specs.Mort.{has_kind, body_of, old_rearrangement, old_non_contextual}

module _ (bytes : List ℕ) (l : Line) where
  pub rearranges : {states : States} → has_kind bytes 0 ≡ true → classic_at (body_of bytes) ≡ Some states
      → old_rearrangement.worked bytes l ≡ passed rearrangement (body_of bytes) states l
  rearranges k m = rw (k, m)

  pub ends_closed : has_kind bytes 0 ≡ true → classic_at (body_of bytes) ≡ None
      → old_rearrangement.worked bytes l ≡ record { answer = Answer'.Ended; changes = [] }
  ends_closed k m = rw (k, m)

  pub substitutes : has_kind bytes 4 ≡ true → old_non_contextual.worked bytes l ≡ NonContextual.passed (lookup_by Manual (body_of bytes)) l
  substitutes k = rw k
