use Prim.Native.Nat.{◌-◌}
use mathlib.Core.Path.{◌∙◌}
use native.Mathlib.Omega.{arith}
use Rattle.line.proofs.Loops.{raised_within, raised_part}
use Rattle.line.proofs.edits.raise.Goals as goal

pub returns-then-count-eq1 : goal.returns-then-count-eq1
returns-then-count-eq1 c =
    raised_part _ _ _ c.requires.0 c.if-count-eq1.true (c.copy_within.ensures.after ∙ raised_within 0 (c.args.used - c.args.at) 1 _ (omega arith))

pub returns-else-count-eq1 : goal.returns-else-count-eq1
returns-else-count-eq1 c = c.copy_within-else-count-eq1.ensures.after ∙ raised_within _ _ _ _ c.requires.0
