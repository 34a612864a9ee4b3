use Rattle.kerning_lists.proofs.Calls.{zeroed_ready}
use Rattle.kern.proofs.run_part.Goals as goal

pub run_list-requires : goal.run_list-requires
run_list-requires c = zeroed_ready c.zero.ensures c.requires.0 c.requires.1
