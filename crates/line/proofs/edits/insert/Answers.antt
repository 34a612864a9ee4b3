use native.Mathlib.Omega.{arith}
use Rattle.line.proofs.Room.{room_small}
use Rattle.line.proofs.Once.{length-numbers_from}
use Rattle.line.proofs.Loops.{length-glyphs_of, filled}
use Rattle.line.proofs.Returns.{spliced-none}
use Rattle.line.proofs.edits.insert.Goals as goal

pub returns-then-count-eq0-clause-glyphs : goal.returns-then-count-eq0-clause-glyphs
returns-then-count-eq0-clause-glyphs c = spliced-none _ _ _ _ (length-glyphs_of _) c.if-count-eq0.true (omega arith)

pub returns-then-count-eq0-clause-tags : goal.returns-then-count-eq0-clause-tags
returns-then-count-eq0-clause-tags c = spliced-none _ _ _ _ (length-numbers_from _ _) c.if-count-eq0.true (omega arith)

pub number-requires : goal.number-requires
number-requires c = omega (arith, room_small)

pub returns-clause-glyphs : goal.returns-clause-glyphs
returns-clause-glyphs c = search (filled, length-glyphs_of)

pub returns-clause-tags : goal.returns-clause-tags
returns-clause-tags c = search (filled, length-numbers_from)
