use Rattle.insertion.proofs.Lone.{insert_valid, insert-fits}
use Rattle.insertion.proofs.insert.Goals as goal

pub put-requires : goal.put-requires
put-requires c =
    let v = insert_valid _ _ _ c.refuse_insert.ensures c.in_default.is in
    let f = insert-fits _ _ _ _ _ c.refuse_insert.ensures c.in_default.is c.list_from-listed.ensures c.enter-tried.ensures c.in-Ok.is in
    (f.inside, f.within, v.paired, v.limited)
