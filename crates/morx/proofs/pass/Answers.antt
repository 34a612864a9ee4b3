use Rattle.line.specs.Line.{line_of}
use Rattle.machine.specs.Machine.{call_leaves}
use Rattle.morx.proofs.Leaves.{left_reply, left_glyphs, left_tags, left_homes}
use Rattle.morx.proofs.Calls.{pass_worked}
use Rattle.morx.proofs.pass.Goals as goal

pub returns : goal.returns
unfolding call_leaves
returns c =
    let left = pass_worked _ _ _ (line_of _ _ _ _) c.refuse_line.ensures c.in_default.is c.from-bytes.ensures c.kind_at.ensures c.work.ensures in
    record { reply = left_reply _ _ _ _ _ _ left; glyphs = left_glyphs _ _ _ _ _ _ left; tags = left_tags _ _ _ _ _ _ left; homes = left_homes _ _ _ _ _ _ left }
