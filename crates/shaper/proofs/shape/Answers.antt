use Rattle.shaper.specs.Shaper.{shaper_room}
use mathlib.Core.Path.{sym, ◌∙◌}
use Rattle.shaper.proofs.Shaping.{shape_refused, shape_taken}
use borrow.Author.Rules.{rules}
use Rattle.shaper.proofs.shape.Goals as goal

pub returns-in-Err : goal.returns-in-Err
returns-in-Err c = record { reply = (shape_refused _ _ _ _ c.read_input.ensures c.in-Err.is).0; glyphs = (shape_refused _ _ _ _ c.read_input.ensures c.in-Err.is).1.0; tags = (shape_refused _ _ _ _ c.read_input.ensures c.in-Err.is).1.1.0; homes = (shape_refused _ _ _ _ c.read_input.ensures c.in-Err.is).1.1.1 }

pub shape_input-requires : goal.shape_input-requires
unfolding shaper_room
shape_input-requires c =
    (sym c.read_input.ensures ∙ c.in-Ok.is, search rules, search rules, search rules)

pub returns-in-Ok : goal.returns-in-Ok
returns-in-Ok c =
    record { reply = (shape_taken _ _ _ _ c.read_input.ensures c.in-Ok.is (c.shape_input.ensures.reply, (c.shape_input.ensures.glyphs, (c.shape_input.ensures.tags, c.shape_input.ensures.homes)))).0; glyphs = (shape_taken _ _ _ _ c.read_input.ensures c.in-Ok.is (c.shape_input.ensures.reply, (c.shape_input.ensures.glyphs, (c.shape_input.ensures.tags, c.shape_input.ensures.homes)))).1.0; tags = (shape_taken _ _ _ _ c.read_input.ensures c.in-Ok.is (c.shape_input.ensures.reply, (c.shape_input.ensures.glyphs, (c.shape_input.ensures.tags, c.shape_input.ensures.homes)))).1.1.0; homes = (shape_taken _ _ _ _ c.read_input.ensures c.in-Ok.is (c.shape_input.ensures.reply, (c.shape_input.ensures.glyphs, (c.shape_input.ensures.tags, c.shape_input.ensures.homes)))).1.1.1 }
