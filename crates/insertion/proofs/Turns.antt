-- More turns than a pass counts with change nothing.
use Prim.Native.Nat.{ℕ, ◌<◌, ◌≤◌}
use mathlib.Core.Path.{◌≡◌}
use mathlib.Core.Bool.{true, false}
use mathlib.Core.List.{List}
use native.Mathlib.Omega.{arith}
use lib.ListN.{length, get_or}
use Rattle.state_tables.specs.declared.States.{States}
use Rattle.line.specs.Line.{Line, Valid}
use Rattle.line.specs.Changes.{apply_all, history_of}
use Rattle.line.proofs.Histories.{By, by_changes}
use Rattle.machine.specs.Pass.{is_done}
use Rattle.machine.specs.Machine.{Bounded}
use Rattle.machine.proofs.Turns.{Counts, bounded}
use Rattle.insertion.specs.Lists.{both_changes}
use Rattle.insertion.specs.Insertion.{next}
use Rattle.insertion.specs.Calls.{insertion}
use Rattle.insertion.specs.declared.InsertionState.{InsertionState}
use Rattle.insertion.specs.declared.InsertionStep.{InsertionStep}
use Rattle.insertion.proofs.Shapes.{Advances, next_shape, shape_advances}
use Rattle.insertion.proofs.Honesty.{step_fits}

-- no more steps than the stall rule lets stand, on a valid line
abbrev Sound : InsertionState → Line → ℕ → Type 0
Sound s l i = (s.cycles ≤ 17) × Valid l

module _ (classes : ℕ → ℕ) (bytes : List ℕ) (states : States) (s : InsertionState) (l : Line) (i : ℕ) (ok : Sound s l i) where
  abbrev step : InsertionStep
  step = next classes bytes states s l.used (length l.glyphs) i (get_or l.glyphs i 0) false

  advances : i < l.used → is_done step.answer ≡ true → Advances l.used (length l.glyphs) i s step
  advances h done =
      shape_advances l.used (length l.glyphs) i h ok.1.within
      (next_shape classes bytes states s l.used (length l.glyphs) i (get_or l.glyphs i 0) false ok.1.within) done ok.0

  left : By l (history_of (both_changes bytes step.marked step.current)) (apply_all (both_changes bytes step.marked step.current) l)
  left = by_changes (both_changes bytes step.marked step.current) l ok.1 (step_fits classes bytes states s l i (get_or l.glyphs i 0) false ok.1)

counts : (classes : ℕ → ℕ) (bytes : List ℕ) (states : States) → Counts (insertion.step classes bytes states) Sound insertion.rest
counts classes bytes states =
    record {
      some = λ s l i ok. omega (arith, ok.0);
      sound = λ s l i ok h done. ((advances classes bytes states s l i ok h done).sound, (left classes bytes states s l i ok).valid);
      fewer = λ s l i ok h done. omega (arith, (advances classes bytes states s l i ok h done).less, (left classes bytes states s l i ok).same);
    }

pub insertion_turns : (l : Line) → Valid l → Bounded insertion l
insertion_turns l v = bounded insertion Sound counts l (omega arith, v)
