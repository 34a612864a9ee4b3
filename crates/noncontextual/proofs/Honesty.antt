-- The pass adds nothing to the history.
use Rattle.std.specs.Prelude.{Result, Ok, Err}
use Rattle.tables.specs.declared.lookup.Why.{Why}
use Prim.Native.Nat.{ℕ, zero, suc}
use mathlib.Core.Path.{refl}
use mathlib.Core.Bool.{Bool, true, false, cond}
use mathlib.Core.List.{List}
use lib.ListN.{get_or}
use Rattle.answers.specs.declared.Refusal.TheVariants as Refusal'
use Rattle.tables.specs.Lookup.{lookup_at}
use Rattle.line.specs.Line.{Line, Valid}
use Rattle.line.specs.Edits.{inserted}
use Rattle.line.specs.Changes.{edits_of, history_of}
use Rattle.line.specs.History.{Fits}
use Rattle.machine.specs.Head.{has_kind, body_of}
use Rattle.machine.proofs.Quiet.{Quiet, quiet_append, quiet_none, quiet_fits}
use Rattle.machine.specs.Machine.{refused_pass}
use Rattle.noncontextual.specs.NonContextual.{writes_of, writes_below, passed, noncontextual}

-- a glyph that is written moves nobody
quiet_writes : (place : ℕ) (found : Result ℕ Why) → Quiet (writes_of place found)
unfolding history_of edits_of inserted
quiet_writes place (Ok glyph) = refl
quiet_writes place (Err why) = refl

quiet_below : (lookup : ℕ → Result ℕ Why) (glyphs : List ℕ) (n : ℕ) → Quiet (writes_below lookup glyphs n)
unfolding writes_below
quiet_below lookup glyphs zero = quiet_none
quiet_below lookup glyphs (suc n) =
    quiet_append (writes_below lookup glyphs n) (writes_of n (lookup (get_or glyphs n 0)))
    (quiet_below lookup glyphs n) (quiet_writes n (lookup (get_or glyphs n 0)))

-- by any lookup
pub quiet_pass : (lookup : ℕ → Result ℕ Why) (l : Line) → Quiet (passed lookup l).changes
unfolding passed
quiet_pass lookup l = quiet_below lookup l.glyphs l.used

pub worked-fits : (bytes : List ℕ) (l : Line) → Valid l → Fits (noncontextual.worked bytes l).changes l
worked-fits bytes l v = quiet_fits _ l v (go (has_kind bytes 4))
  where
    go : (kind : Bool) → Quiet (cond kind (passed (lookup_at (body_of bytes)) l) (refused_pass Refusal'.Head)).changes
    go true = quiet_pass (lookup_at (body_of bytes)) l
    go false = quiet_none
