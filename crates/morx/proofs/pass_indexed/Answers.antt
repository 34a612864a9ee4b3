use Rattle.line.specs.Line.{line_of}
use Rattle.morx.specs.Indexed.{indexed_leaves}
use Rattle.morx.proofs.Leaves.{left_reply, left_glyphs, left_tags, left_homes}
use Rattle.morx.proofs.Indexing.{index_worked}
use Rattle.morx.proofs.pass_indexed.Goals as goal

pub returns : goal.returns
unfolding indexed_leaves
returns c =
    let left = index_worked _ _ (line_of _ _ _ _) _ _ c.from-bytes.ensures c.kind_at-kind.ensures c.from-body.ensures c.has_classes.ensures c.is_another-another.ensures c.opens.ensures c.refuse_indexed.ensures c.in_default.is c.work_by.ensures in
    record { reply = left_reply _ _ _ _ _ _ left; glyphs = left_glyphs _ _ _ _ _ _ left; tags = left_tags _ _ _ _ _ _ left; homes = left_homes _ _ _ _ _ _ left }
