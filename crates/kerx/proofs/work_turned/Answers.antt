use mathlib.Core.Path.{◌∙◌, ap}
use lib.ListN.{length}
use Rattle.kerning.proofs.Adding.{length-add_all}
use Rattle.kerx.proofs.Works.{back_again, added-back, turned_ready, line-fits, along-fits}
use Rattle.kerx.proofs.Marking.{lent_turned, marked-back}
use Rattle.kerx.proofs.work_turned.Goals as goal

pub work_in_run-requires : goal.work_in_run-requires
work_in_run-requires c =
    let r = turned_ready _ _ _ c.reverse.ensures.glyphs c.turn.ensures c.requires.0 c.requires.2 c.requires.3 c.requires.4 in
    (r.0, r.1, r.2, r.3, lent_turned c.requires.5 c.turn-2.ensures.x c.turn-2.ensures.y c.turn-2.ensures.back)

pub reverse-requires-2 : goal.reverse-requires-2
reverse-requires-2 c =
    line-fits _ _ _ c.reverse.ensures.glyphs c.reverse.ensures.tags c.requires.0 c.requires.1

pub turn-requires-3 : goal.turn-requires-3
turn-requires-3 c =
    along-fits _ _ _ c.turn.ensures c.work_in_run.ensures.along c.requires.2

pub shape_of-glyphs : goal.shape_of-glyphs
shape_of-glyphs c =
    ap length (back_again _ _ c.requires.0 c.reverse.ensures.glyphs c.reverse-2.ensures.glyphs)

pub shape_of-tags : goal.shape_of-tags
shape_of-tags c =
    ap length (back_again _ _ c.requires.1 c.reverse.ensures.tags c.reverse-2.ensures.tags)

pub shape_of-along : goal.shape_of-along
shape_of-along c =
    ap length (added-back _ _ _ _ _ _ _ c.requires.2 c.reverse.ensures.glyphs c.turn.ensures c.work_in_run.ensures.along c.turn-3.ensures) ∙ length-add_all _ _

pub returns : goal.returns
returns c =
    let w = marked-back c.requires.5 c.turn-2.ensures.x c.turn-2.ensures.y c.turn-2.ensures.back _ _ _ _ _ _ c.reverse.ensures.glyphs (record { xs = c.work_in_run.ensures.x; ys = c.work_in_run.ensures.y; backs = c.work_in_run.ensures.back }) c.turn-4.ensures.x c.turn-4.ensures.y c.turn-4.ensures.back in
    record { glyphs = back_again _ _ c.requires.0 c.reverse.ensures.glyphs c.reverse-2.ensures.glyphs; tags = back_again _ _ c.requires.1 c.reverse.ensures.tags c.reverse-2.ensures.tags; along = added-back _ _ _ _ _ _ _ c.requires.2 c.reverse.ensures.glyphs c.turn.ensures c.work_in_run.ensures.along c.turn-3.ensures; x = w.xs; y = w.ys; back = w.backs }
