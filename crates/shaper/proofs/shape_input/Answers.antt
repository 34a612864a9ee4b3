use native.Mathlib.Omega.{arith}
use mathlib.Core.Path.{sym}
use Rattle.shaper.proofs.Shaping.{taken, lent_fits, lent_homes, lent_limited, shapes}
use Rattle.shaper.proofs.shape_input.Goals as goal

pub slice_bounds-table-count : goal.slice_bounds-table-count
slice_bounds-table-count c = (taken _ _ c.requires.0).behind

pub slice_bounds-table-start : goal.slice_bounds-table-start
slice_bounds-table-start c = (taken _ _ c.requires.0).behind

pub slice_bounds-table-end : goal.slice_bounds-table-end
slice_bounds-table-end c = omega (arith, (taken _ _ c.requires.0).fits)

pub overflow_add-new : goal.overflow_add-new
overflow_add-new c =
    omega (arith, (taken _ _ c.requires.0).fits)

pub slice_bounds-new-count : goal.slice_bounds-new-count
slice_bounds-new-count c =
    omega (arith, (taken _ _ c.requires.0).fits)

pub slice_bounds-new-start : goal.slice_bounds-new-start
slice_bounds-new-start c =
    (taken _ _ c.requires.0).fits

pub slice_bounds-shape_line-end : goal.slice_bounds-shape_line-end
slice_bounds-shape_line-end c = search lent_fits

pub slice_bounds-shape_line-end-2 : goal.slice_bounds-shape_line-end-2
slice_bounds-shape_line-end-2 c =
    sym (lent_homes _ _ c.requires.0 _ c.requires.3)

pub shape_line-reply-requires : goal.shape_line-reply-requires
shape_line-reply-requires c =
    (lent_homes _ _ c.requires.0 _ c.requires.3, lent_fits _ _ c.requires.0 c.requires.1, lent_fits _ _ c.requires.0 c.requires.2, lent_limited _ _ c.requires.0)

pub returns : goal.returns
returns c =
    record { reply = (shapes _ _ _ _ _ (c.shape_line-reply.ensures.reply, (c.shape_line-reply.ensures.glyphs, (c.shape_line-reply.ensures.tags, c.shape_line-reply.ensures.homes)))).0; glyphs = (shapes _ _ _ _ _ (c.shape_line-reply.ensures.reply, (c.shape_line-reply.ensures.glyphs, (c.shape_line-reply.ensures.tags, c.shape_line-reply.ensures.homes)))).1.0; tags = (shapes _ _ _ _ _ (c.shape_line-reply.ensures.reply, (c.shape_line-reply.ensures.glyphs, (c.shape_line-reply.ensures.tags, c.shape_line-reply.ensures.homes)))).1.1.0; homes = (shapes _ _ _ _ _ (c.shape_line-reply.ensures.reply, (c.shape_line-reply.ensures.glyphs, (c.shape_line-reply.ensures.tags, c.shape_line-reply.ensures.homes)))).1.1.1 }
