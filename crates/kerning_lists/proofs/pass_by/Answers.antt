use Rattle.kerning_lists.proofs.Calls.{pass_ready, pass-modest}
use Rattle.kerning_lists.proofs.pass_by.Goals as goal

pub pass_in-requires : goal.pass_in-requires
pass_in-requires g c =
    let r = pass_ready _ _ _ _ _ _ c.refuse_pass.ensures c.in_default.is in
    (r.inside, r.long, r.limited, pass-modest _ _ _ _ _ _ c.refuse_pass.ensures c.in_default.is)
