use borrow.Author.Rules.{rules}
use Rattle.insertion.proofs.Lists.{insertion_fits}
use Rattle.insertion.proofs.InsertionState.act.Goals as goal

pub follow-requires : goal.follow-requires
follow-requires c = let f = insertion_fits _ _ _ _ _ _ _ (search rules) c.insertion_of-tried.ensures c.in-Ok.is in (search rules, f.within, search rules)
