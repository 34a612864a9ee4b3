use Rattle.line.specs.Line.{line_of}
use Rattle.morx.specs.Calls.{run_leaves}
use Rattle.morx.proofs.Runs.{run_reply, run_glyphs, run_tags, run_homes}
use Rattle.morx.proofs.Calls.{run_worked}
use Rattle.morx.proofs.run.Goals as goal

pub returns : goal.returns
unfolding run_leaves
returns c =
    let left = run_worked _ _ _ (line_of _ _ _ _) _ c.refuse_run.ensures c.in_default.is c.run_line.ensures in
    record { reply = run_reply _ _ _ _ _ _ left; glyphs = run_glyphs _ _ _ _ _ _ left; tags = run_tags _ _ _ _ _ _ left; homes = run_homes _ _ _ _ _ _ left }
