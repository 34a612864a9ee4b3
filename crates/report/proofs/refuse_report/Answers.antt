use Rattle.report.proofs.Calls.{no_reel, is_cut, no_line, all_pass}
use mathlib.Core.Path.{ap}
use mathlib.Core.Bool.{not}
use Rattle.report.proofs.refuse_report.Goals as goal

pub returns-then-not-is_lent : goal.returns-then-not-is_lent
returns-then-not-is_lent c = no_reel _ _ _ _ c.is_lent.ensures (ap not c.if-not-is_lent.true)

pub are_taken-requires : goal.are_taken-requires
are_taken-requires c = is_cut _ _ _ _ c.is_lent.ensures (ap not c.if-not-is_lent.false)

pub returns-then-not-are_taken : goal.returns-then-not-are_taken
returns-then-not-are_taken c = no_line _ _ _ _ c.is_lent.ensures (ap not c.if-not-is_lent.false) c.are_taken.ensures (ap not c.if-not-are_taken.true)

pub returns : goal.returns
returns c = all_pass _ _ _ _ c.is_lent.ensures (ap not c.if-not-is_lent.false) c.are_taken.ensures (ap not c.if-not-are_taken.false)
