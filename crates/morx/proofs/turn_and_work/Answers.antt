use mathlib.Core.Bool.{true}
use Rattle.morx.proofs.Leaves.{valid_line, fits_tags}
use Rattle.morx.proofs.Visits.{straight, worked_valid, turned_back}
use Rattle.morx.proofs.turn_and_work.Goals as goal

pub returns-then-not-turned : goal.returns-then-not-turned
returns-then-not-turned c = straight _ _ _ _ _ _ _ c.if-not-turned.true c.work.ensures

pub turn_back-requires : goal.turn_back-requires
turn_back-requires c =
    let v = valid_line (worked_valid true _ _ _ _ _ _ c.requires c.reverse.ensures.glyphs c.reverse.ensures.tags c.work-reply.ensures) in
    (v.within, fits_tags v)

pub returns : goal.returns
returns c =
    turned_back _ _ _ _ _ _ _ c.requires c.reverse.ensures.glyphs c.reverse.ensures.tags c.work-reply.ensures c.if-not-turned.false c.turn_back.ensures.glyphs c.turn_back.ensures.tags
