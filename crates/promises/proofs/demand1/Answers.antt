use Rattle.promises.proofs.Demands as Demands
use Rattle.promises.proofs.demand1.Goals as goal

pub returns : goal.returns
returns c = Demands.demand1
