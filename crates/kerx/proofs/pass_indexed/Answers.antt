use Rattle.kerx.proofs.Called.{pass-lies}
use Rattle.kerx.proofs.pass_indexed.Goals as goal

pub pass_indexed_in-requires : goal.pass_indexed_in-requires
pass_indexed_in-requires c = pass-lies _ _ _ _ _ _ _ _ _ _ c.takes_pass-takes.ensures c.refuse_pass.ensures c.in_default.is
