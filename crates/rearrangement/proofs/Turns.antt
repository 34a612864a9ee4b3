-- More turns than a pass counts with change nothing.
use Rattle.std.specs.Prelude.{Option, Some, None}
use Prim.Native.Nat.{ℕ, ◌≤◌}
use mathlib.Core.Path.{◌≡◌, refl}
use mathlib.Core.Bool.{false}
use mathlib.Core.List.{List}
use native.Mathlib.Omega.{arith}
use lib.ListN.{get_or}
use Rattle.state_tables.specs.declared.States.{States}
use Rattle.line.specs.Line.{Line}
use Rattle.line.specs.Changes.{apply, apply_all}
use Rattle.machine.specs.Machine.{Bounded}
use Rattle.machine.proofs.Stalls.{stall_falls}
use Rattle.machine.proofs.Turns.{Counts, bounded}
use Rattle.rearrangement.specs.Rearrangement.{changes_of, next}
use Rattle.rearrangement.specs.Calls.{rearrangement}
use Rattle.rearrangement.specs.declared.RearrangementState.{RearrangementState}
use Rattle.rearrangement.specs.declared.Window.{Window}
use Rattle.rearrangement.proofs.Passes.{stalls}

abbrev Sound : RearrangementState → Line → ℕ → Type 0
Sound s l i = s.cycles ≤ 17

used-kept : (w : Option Window) (l : Line) → (apply_all (changes_of w) l).used ≡ l.used
unfolding apply_all apply
used-kept None l = refl
used-kept (Some w) l = refl

counts : (classes : ℕ → ℕ) (bytes : List ℕ) (states : States) → Counts (rearrangement.step classes bytes states) Sound rearrangement.rest
counts classes bytes states =
    record {
      some = λ s l i ok. omega (arith, ok);
      sound = λ s l i ok h done.
          let (stays, c, a) = stalls classes bytes states s i (get_or l.glyphs i 0) false done in
          omega (arith, (stall_falls s.cycles l.used i stays ok h).sound, c);
      fewer = λ s l i ok h done.
          let (stays, c, a) = stalls classes bytes states s i (get_or l.glyphs i 0) false done in
          omega (
            arith,
            (stall_falls s.cycles l.used i stays ok h).less,
            c,
            a,
            used-kept (next classes bytes states s i (get_or l.glyphs i 0) false).edit l,
          );
    }

pub rearrangement_turns : (l : Line) → Bounded rearrangement l
rearrangement_turns l = bounded rearrangement Sound counts l (omega arith)
