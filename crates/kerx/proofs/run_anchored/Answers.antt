use mathlib.Core.Path.{sym}
use Rattle.line.specs.Line.{line_of}
use Rattle.kerx.proofs.Called.{run_lies, part_length, lies_lent, run-passed}
use Rattle.kerx.proofs.run_anchored.Goals as goal

pub slice_bounds-run_part-end : goal.slice_bounds-run_part-end
slice_bounds-run_part-end c =
    (run_lies _ _ _ _ _ _ _ _ _ _ _ c.takes_run-takes.ensures c.refuse_run.ensures c.in_default.is).ready.long

pub slice_bounds-run_part-end-2 : goal.slice_bounds-run_part-end-2
slice_bounds-run_part-end-2 c =
    sym (part_length _ _ (run_lies _ _ _ _ _ _ _ _ _ _ _ c.takes_run-takes.ensures c.refuse_run.ensures c.in_default.is).ready.long)

pub slice_bounds-run_part-end-3 : goal.slice_bounds-run_part-end-3
slice_bounds-run_part-end-3 c =
    (run_lies _ _ _ _ _ _ _ _ _ _ _ c.takes_run-takes.ensures c.refuse_run.ensures c.in_default.is).long-x

pub slice_bounds-run_part-end-4 : goal.slice_bounds-run_part-end-4
slice_bounds-run_part-end-4 c =
    sym (part_length _ _ (run_lies _ _ _ _ _ _ _ _ _ _ _ c.takes_run-takes.ensures c.refuse_run.ensures c.in_default.is).long-x)

pub slice_bounds-run_part-end-5 : goal.slice_bounds-run_part-end-5
slice_bounds-run_part-end-5 c =
    (run_lies _ _ _ _ _ _ _ _ _ _ _ c.takes_run-takes.ensures c.refuse_run.ensures c.in_default.is).long-y

pub slice_bounds-run_part-end-6 : goal.slice_bounds-run_part-end-6
slice_bounds-run_part-end-6 c =
    sym (part_length _ _ (run_lies _ _ _ _ _ _ _ _ _ _ _ c.takes_run-takes.ensures c.refuse_run.ensures c.in_default.is).long-y)

pub slice_bounds-run_part-end-7 : goal.slice_bounds-run_part-end-7
slice_bounds-run_part-end-7 c =
    (run_lies _ _ _ _ _ _ _ _ _ _ _ c.takes_run-takes.ensures c.refuse_run.ensures c.in_default.is).long-back

pub slice_bounds-run_part-end-8 : goal.slice_bounds-run_part-end-8
slice_bounds-run_part-end-8 c =
    sym (part_length _ _ (run_lies _ _ _ _ _ _ _ _ _ _ _ c.takes_run-takes.ensures c.refuse_run.ensures c.in_default.is).long-back)

pub run_part-requires : goal.run_part-requires
run_part-requires c =
    lies_lent _ _ _ _ _ _ _ (run_lies _ _ _ _ _ _ _ _ _ _ _ c.takes_run-takes.ensures c.refuse_run.ensures c.in_default.is)

pub returns : goal.returns
returns c =
    let r = run_lies _ _ _ _ _ _ _ _ _ _ _ c.takes_run-takes.ensures c.refuse_run.ensures c.in_default.is in
    let e = run-passed _ _ _ _ (line_of _ _ _ _) _ _ _ _ _ c.takes_run-takes.ensures c.refuse_run.ensures c.in_default.is c.list_bytes.ensures (part_length _ _ r.ready.long) (part_length _ _ r.long-x) (part_length _ _ r.long-y) (part_length _ _ r.long-back) c.run_part.ensures.answer c.run_part.ensures.heads c.run_part.ensures.along (record { xs = c.run_part.ensures.x; ys = c.run_part.ensures.y; backs = c.run_part.ensures.back }) in
    record { answer = e.plain.answers; heads = e.plain.counts; glyphs = c.run_part.ensures.glyphs; tags = c.run_part.ensures.tags; along = e.plain.leaves; x = e.xs; y = e.ys; back = e.backs }
