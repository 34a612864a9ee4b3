-- More turns than a pass counts with change nothing.
use Prim.Native.Nat.{ℕ, ◌≤◌}
use mathlib.Core.Path.{◌≡◌}
use mathlib.Core.Bool.{true, false}
use mathlib.Core.List.{List}
use native.Mathlib.Omega.{arith}
use lib.ListN.{get_or}
use Rattle.answers.specs.declared.Answer.{Answer}
use Rattle.state_tables.specs.declared.States.{States}
use Rattle.line.specs.Line.{Line}
use Rattle.machine.specs.Pass.{is_done, advance_of}
use Rattle.machine.specs.Machine.{Bounded}
use Rattle.machine.proofs.Turns.{Counts, bounded}
use Rattle.ligature.specs.Ligature.{stack_in, next}
use Rattle.ligature.specs.Calls.{ligature}
use Rattle.ligature.specs.declared.LigatureState.{LigatureState}
use Rattle.ligature.proofs.Ligations.{used-kept}

-- any state will do
abbrev Sound : LigatureState → Line → ℕ → Type 0
Sound s l i = 0 ≤ 0

advances : (answer : Answer) → is_done answer ≡ true → advance_of answer ≡ 1
advances answer e = rw e

counts : (classes : ℕ → ℕ) (bytes : List ℕ) (states : States) → Counts (ligature.step classes bytes states) Sound ligature.rest
counts classes bytes states =
    record {
      some = λ s l i ok. omega arith;
      sound = λ s l i ok h done. omega arith;
      fewer = λ s l i ok h done.
          let r = next classes bytes states s.state (stack_in s) i (get_or l.glyphs i 0) false in
          omega (arith, advances r.answer done, used-kept r.made l);
    }

pub ligature_turns : (l : Line) → Bounded ligature l
ligature_turns l = bounded ligature Sound counts l (omega arith)
