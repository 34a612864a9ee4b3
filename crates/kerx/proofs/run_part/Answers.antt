use Rattle.kerning_lists.proofs.Calls.{zeroed_ready_line}
use Rattle.kerx.proofs.Marking.{zeroed_lent}
use Rattle.kerx.proofs.run_part.Goals as goal

pub run_list-requires : goal.run_list-requires
run_list-requires c =
    let r = zeroed_ready_line c.zero.ensures c.requires.0 c.requires.1 c.requires.2 in
    (r.0, r.1, r.2, r.3, r.4, zeroed_lent c.requires.3 c.zero.ensures c.zero-2.ensures.x c.zero-2.ensures.y c.zero-2.ensures.back)
