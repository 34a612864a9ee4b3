use Rattle.line.proofs.Loops.{Pasting}
use Rattle.line.specs.Changes.{glyphs_of}
use lib.ListN.{length}
use Prim.Native.Nat.{◌/◌}
use Rattle.line.proofs.edits.put.Given as goal

abbrev pub invariant-loop-k : goal.invariant-loop-k
invariant-loop-k l = Pasting l.initial.glyphs l.at (glyphs_of l.new) (length l.new / 2) l.glyphs l.k
