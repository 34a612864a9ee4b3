use native.Mathlib.Omega.{arith}
use Rattle.line.proofs.Room.{room_small}
use Rattle.shaper.proofs.Shaping.{started}
use Rattle.shaper.proofs.shape_line.Goals as goal

-- LOST slice-aggregate-run
-- slice-aggregate-run : tie.Need-slice-aggregate-run
-- slice-aggregate-run c = search rules

pub number-requires : goal.number-requires
number-requires c = (omega arith, omega (arith, room_small))

pub returns : goal.returns
returns c =
    record { reply = (started _ _ _ _ c.requires.0 c.insert.ensures.glyphs c.insert.ensures.tags c.number.ensures _ _ _ _ _ (c.run.ensures.reply, (c.run.ensures.glyphs, (c.run.ensures.tags, c.run.ensures.homes)))).0; glyphs = (started _ _ _ _ c.requires.0 c.insert.ensures.glyphs c.insert.ensures.tags c.number.ensures _ _ _ _ _ (c.run.ensures.reply, (c.run.ensures.glyphs, (c.run.ensures.tags, c.run.ensures.homes)))).1.0; tags = (started _ _ _ _ c.requires.0 c.insert.ensures.glyphs c.insert.ensures.tags c.number.ensures _ _ _ _ _ (c.run.ensures.reply, (c.run.ensures.glyphs, (c.run.ensures.tags, c.run.ensures.homes)))).1.1.0; homes = (started _ _ _ _ c.requires.0 c.insert.ensures.glyphs c.insert.ensures.tags c.number.ensures _ _ _ _ _ (c.run.ensures.reply, (c.run.ensures.glyphs, (c.run.ensures.tags, c.run.ensures.homes)))).1.1.1 }
