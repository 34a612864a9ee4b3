use Prim.Native.Nat.{◌<◌, ◌≤◌}
use borrow.Author.Tests.{tests}
use Rattle.std.proofs.Common.{rules, ℤ, nat_abs}
use Rattle.std.proofs.lemmas.Iterator.{cases_from_all, YieldsList-from_slice}
use Rattle.kerning.specs.Line.{bound}
use Rattle.kerning.proofs.Scans.{modest_is}
use Rattle.kerning.proofs.modest.Goals as goal

pub returns : goal.returns
returns c =
    modest_is _
    (cases_from_all _ _ _ (λ (z : ℤ). nat_abs z ≤ bound) (λ (z : ℤ). bound < nat_abs z) c.all.ensures.ran (YieldsList-from_slice c.args.along.now cc)
    (λ x q k. search (rules, tests)) (λ x q k. search (rules, tests)))
