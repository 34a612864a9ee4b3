use mathlib.Core.Path.{sym, refl}
use Rattle.line.specs.Line.{line_of}
use Rattle.kerning_lists.proofs.Calls.{run_ready, lent_length, lent_ready_line}
use Rattle.kerning_lists.proofs.Families.{runs_passed}
use Rattle.kerx.specs.Kerx.{kerx}
use Rattle.kerx.proofs.Marking.{lent_empty}
use Rattle.kerx.proofs.run_by.Goals as goal

pub slice_bounds-run_part-end-2 : goal.slice_bounds-run_part-end-2
slice_bounds-run_part-end-2 c =
    sym (lent_length _ _ (run_ready _ _ _ _ _ _ _ c.refuse_run.ensures c.in_default.is).long)

pub run_part-requires : goal.run_part-requires
run_part-requires c =
    let r = lent_ready_line _ _ _ _ (run_ready _ _ _ _ _ _ _ c.refuse_run.ensures c.in_default.is) in
    (r.0, r.1, r.2, lent_empty _ refl refl refl)

pub returns : goal.returns
returns c =
    let r = runs_passed kerx _ _ _ (line_of _ _ _ _) _ _ c.refuse_run.ensures c.in_default.is c.list_bytes.ensures (lent_length _ _ (run_ready _ _ _ _ _ _ _ c.refuse_run.ensures c.in_default.is).long) c.run_part.ensures.answer c.run_part.ensures.heads c.run_part.ensures.along in
    record { answer = r.answers; heads = r.counts; glyphs = c.run_part.ensures.glyphs; tags = c.run_part.ensures.tags; along = r.leaves }
