use Rattle.std.proofs.Common.{rules}
use Rattle.noncontextual.proofs.Passes.{passed_each, found_or}
use Rattle.noncontextual.proofs.sized.pass_by.Goals as goal

pub returns : goal.returns
returns c = passed_each _ _ _ _ _ c.requires (search rules) (λ k h. let t = c.each.ensures.told k h in search (rules, found_or)) c.each.ensures.kept
