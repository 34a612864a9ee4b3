use Rattle.stored.proofs.Got.{glyph_next, glyphs_done, tag_next, tags_done}
use Rattle.line.proofs.Loops.{pasting_start}
use Rattle.stored.proofs.reading.get_places.Goals as goal

pub loop-p-init : goal.loop-p-init
loop-p-init c = (pasting_start _ _ _ _, pasting_start _ _ _ _)

pub loop-p-preserved : goal.loop-p-preserved
loop-p-preserved c = (search glyph_next, search tag_next)

pub shape_of-glyphs : goal.shape_of-glyphs
shape_of-glyphs c = c.loop-p.invariant.0.long

pub shape_of-tags : goal.shape_of-tags
shape_of-tags c = c.loop-p.invariant.1.long

pub returns : goal.returns
returns c = record { glyphs = search glyphs_done; tags = search tags_done }
