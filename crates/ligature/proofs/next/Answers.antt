use mathlib.Core.Path.{sym, ◌∙◌}
use borrow.Author.Tests.{lt-ltb}
use Rattle.ligature.proofs.Running.{running_start, running_none, running_ended, running_stops}
use Rattle.ligature.proofs.next.Goals as goal
use Rattle.ligature.proofs.next.Goals.{then-not-is_set-via-then-not-is_set, then-not-is_set-via-else-not-is_set+then-spent-gt-ENTRIES}

pub loop-entry-init : goal.loop-entry-init
loop-entry-init c = running_start _ _ _ _ _ _ _ _ c.requires.0

pub returns-in_default-clause-leaves : goal.returns-in_default-clause-leaves
returns-in_default-clause-leaves c = running_none _ _ _ _ _ _ _ _ c.loop-entry.invariant c.entry_of.ensures c.in_default.is

pub returns-in_default-enter-clause-leaves : goal.returns-in_default-enter-clause-leaves
returns-in_default-enter-clause-leaves c =
    running_ended _ _ _ _ _ _ _ _ c.loop-entry.invariant c.entry_of.ensures c.in-Some.is c.enter.ensures.leaves c.in_default-enter.is

pub returns-then-not-is_set-clause-leaves : goal.returns-then-not-is_set-clause-leaves
returns-then-not-is_set-clause-leaves c =
    running_stops _ _ _ _ _ _ _ _ c.loop-entry.invariant c.entry_of.ensures c.in-Some.is c.enter.ensures.leaves c.in-Some-enter.is
    (elim c.then-not-is_set.branch [
      | then-not-is_set-via-then-not-is_set w ↦ rw (sym c.is_set.ensures ∙ w.if-not-is_set.true)
      | then-not-is_set-via-else-not-is_set+then-spent-gt-ENTRIES w ↦ rw (sym c.is_set.ensures ∙ w.if-not-is_set.false, lt-ltb 16 _ w.if-spent-gt-ENTRIES.true)
    ])
