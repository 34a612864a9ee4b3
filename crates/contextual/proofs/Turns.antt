-- More turns than a pass counts with change nothing.
use Prim.Native.Nat.{ℕ, ◌≤◌}
use mathlib.Core.Path.{◌≡◌, sym, ap}
use mathlib.Core.Bool.{true, false}
use mathlib.Core.List.{List}
use native.Mathlib.Omega.{arith}
use lib.ListN.{get_or}
use Rattle.answers.specs.declared.Answer.{Answer}
use Rattle.state_tables.specs.declared.States.{States}
use Rattle.line.specs.Line.{Line}
use Rattle.line.specs.Changes.{apply_all}
use Rattle.machine.specs.Pass.{is_done, advance_of}
use Rattle.machine.specs.Machine.{Bounded}
use Rattle.machine.proofs.Turns.{Counts, bounded}
use Rattle.contextual.specs.Substitutes.{Write, changes_of}
use Rattle.contextual.specs.Contextual.{next}
use Rattle.contextual.specs.Calls.{contextual}
use Rattle.contextual.specs.declared.ContextualState.{ContextualState}
use Rattle.contextual.proofs.Writes.{written-line}

-- any state will do
abbrev Sound : ContextualState → Line → ℕ → Type 0
Sound s l i = 0 ≤ 0

pub advances : (answer : Answer) → is_done answer ≡ true → advance_of answer ≡ 1
advances answer e = rw e

used-kept : (ws : List Write) (l : Line) → (apply_all (changes_of ws) l).used ≡ l.used
used-kept ws l = ap (λ (x : Line). x.used) (sym (written-line l.used ws l.glyphs l.tags l.homes))

counts : (classes : ℕ → ℕ) (bytes : List ℕ) (states : States) → Counts (contextual.step classes bytes states) Sound contextual.rest
counts classes bytes states =
    record {
      some = λ s l i ok. omega arith;
      sound = λ s l i ok h done. omega arith;
      fewer = λ s l i ok h done.
          let r = next classes bytes states s i (get_or l.glyphs i 0) false in
          omega (arith, advances r.answer done, used-kept r.writes l);
    }

pub contextual_turns : (l : Line) → Bounded contextual l
contextual_turns l = bounded contextual Sound counts l (omega arith)
