use mathlib.Core.Bool.{false}
use mathlib.Core.Path.{sym}
use Rattle.line.specs.Line.{line_of}
use Rattle.kerning_lists.proofs.Calls.{run_ready, lent_length, lent_ready}
use Rattle.kern.specs.Kern.{kern}
use Rattle.kerning_lists.proofs.Families.{runs_refused, runs_passed}
use Rattle.kern.proofs.run_by.Goals as goal

pub returns-in-Err : goal.returns-in-Err
returns-in-Err c = let r = runs_refused kern _ _ false (line_of _ _ _ _) _ _ c.refuse_run.ensures c.in-Err.is in
    record { answer = r.answers; heads = r.counts; along = r.leaves }

pub slice_bounds-run_part-end : goal.slice_bounds-run_part-end
slice_bounds-run_part-end c = (run_ready _ _ _ _ _ _ _ c.refuse_run.ensures c.in_default.is).long

pub slice_bounds-run_part-end-2 : goal.slice_bounds-run_part-end-2
slice_bounds-run_part-end-2 c = sym (lent_length _ _ (run_ready _ _ _ _ _ _ _ c.refuse_run.ensures c.in_default.is).long)

pub run_part-requires : goal.run_part-requires
run_part-requires c = lent_ready _ _ _ _ (run_ready _ _ _ _ _ _ _ c.refuse_run.ensures c.in_default.is)

pub returns : goal.returns
returns c =
    let r = runs_passed kern _ _ false (line_of _ _ _ _) _ _ c.refuse_run.ensures c.in_default.is c.list_bytes.ensures (lent_length _ _ (run_ready _ _ _ _ _ _ _ c.refuse_run.ensures c.in_default.is).long) c.run_part.ensures.answer c.run_part.ensures.heads c.run_part.ensures.along in
    record { answer = r.answers; heads = r.counts; along = r.leaves }
