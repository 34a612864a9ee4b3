use native.Mathlib.Omega.{arith}
use borrow.Author.Rules.{rules}
use Rattle.report.proofs.Scanning.{scanned-start, glyphs-inside, along-inside, scanned_fails, scanned-next, scanned-done}
use mathlib.Core.Path.{ap}
use mathlib.Core.Bool.{not}
use Rattle.report.proofs.are_taken.Goals as goal

pub loop-i-init : goal.loop-i-init
loop-i-init c = scanned-start _ (search rules)

pub is_taken-requires : goal.is_taken-requires
is_taken-requires c =
    (glyphs-inside _ c.loop-i.invariant (omega arith), along-inside _ c.loop-i.invariant (omega arith))

pub returns-then-not-is_taken : goal.returns-then-not-is_taken
returns-then-not-is_taken c =
    scanned_fails _ c.loop-i.invariant (omega arith) c.is_taken.ensures (ap not c.if-not-is_taken.true)

pub overflow_add-at : goal.overflow_add-at
overflow_add-at c =
    omega (arith, along-inside _ c.loop-i.invariant (omega arith))

pub overflow_add-from : goal.overflow_add-from
overflow_add-from c =
    omega (arith, (glyphs-inside _ c.loop-i.invariant (omega arith)).homes_fit)

pub loop-i-preserved : goal.loop-i-preserved
loop-i-preserved c =
    scanned-next _ c.loop-i.invariant (omega arith) c.is_taken.ensures (ap not c.if-not-is_taken.false)

pub returns : goal.returns
returns c = search scanned-done
