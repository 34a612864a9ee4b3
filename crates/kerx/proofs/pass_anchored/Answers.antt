use Rattle.kerx.proofs.Called.{pass-lies}
use Rattle.kerx.proofs.pass_anchored.Goals as goal

pub pass_with-requires : goal.pass_with-requires
pass_with-requires c = pass-lies _ _ _ _ _ _ _ _ _ _ c.takes_pass-takes.ensures c.refuse_pass.ensures c.in_default.is
