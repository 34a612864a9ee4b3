use native.Mathlib.Omega.{arith}
use mathlib.Core.Path.{◌∙◌}
use lib.Dec.{leb}
use lib.ListN.{take}
use Rattle.std.proofs.Common.{rules, tests}
use Rattle.std.proofs.lemmas.Iterator.{YieldsList-from_slice}
use Rattle.std.proofs.lemmas.Iterator.Search.{all_from_yields_List}
use Rattle.kerning_machine.specs.Machine.{are_within}
use Rattle.kerning_machine.proofs.Slots.{all_every}
use Rattle.kerning_machine.proofs.are_within.Goals as goal

pub returns : goal.returns
unfolding are_within
returns c =
    all_from_yields_List (λ x. leb x c.args.used) _ _ c.all.result c.all.ensures.ran (YieldsList-from_slice (take c.args.depth c.args.stack) cc) (λ x b q k. search (rules, tests))
    ∙ all_every (λ x. leb x c.args.used) 0 c.args.stack c.args.depth (omega (arith, c.requires))
