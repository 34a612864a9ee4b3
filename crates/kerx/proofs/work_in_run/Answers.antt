use mathlib.Core.Path.{◌∙◌}
use Rattle.kerx.proofs.Marking.{lent_none}
use Rattle.kerx.proofs.Anchoring.{adds_here}
use Rattle.kerx.proofs.work_in_run.Goals as goal

pub returns-then-x-used : goal.returns-then-x-used
returns-then-x-used c =
    let w = lent_none c.requires.4 _ c.if-x-used.true in
    record { along = c.work.ensures.along; x = w.xs; y = w.ys; back = w.backs }

pub returns : goal.returns
returns c =
    record { along = c.work_with.ensures.along ∙ adds_here _ _ _ _ _ _ _ _; x = c.work_with.ensures.x; y = c.work_with.ensures.y; back = c.work_with.ensures.back }
