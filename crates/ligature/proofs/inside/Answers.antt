use Rattle.std.proofs.Common.{rules, take, arith, ◌≤◌, ◌<◌}
use borrow.Author.Tests.{tests}
use Rattle.std.proofs.lemmas.Iterator.{cases_from_all, YieldsList-from_slice}
use Rattle.ligature.proofs.Slots.{inside_by}
use Rattle.ligature.proofs.inside.Goals as goal

pub returns : goal.returns
returns c =
    inside_by c.args.places.now c.args.depth c.args.used (omega arith)
    (cases_from_all _ _ _ (λ x. x ≤ c.args.used) (λ x. c.args.used < x) c.all.ensures.ran
    (YieldsList-from_slice (take c.args.depth c.args.places.now) cc) (λ x q k. search (rules, tests)) (λ x q k. search (rules, tests)))
