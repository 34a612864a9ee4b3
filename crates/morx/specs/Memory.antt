-- What stands in the caller's memory after a call: each slice that was lent to be written, and a used length that is handed back, as the entry's contract
-- says; the others as they were.
use Rattle.line.specs.Line.{Line, line_of}
use Rattle.line.specs.Entries.{verb_call}
use Rattle.machine.specs.Machine.{call_leaves, step_leaves}
use Rattle.contextual.specs.Calls.{contextual}
use Rattle.ligature.specs.Calls.{ligature}
use Rattle.insertion.specs.Lone.{insert_leaves}
use Rattle.morx.specs.Kinds.{subtable_of_kind, any_subtable}
use Rattle.morx.specs.Indexed.{indexed_leaves}
use Rattle.morx.specs.Calls.{run_leaves}
use Rattle.morx.specs.Sequence.{Call}
use Rattle.morx.specs.declared.Kind.{Kind}
use Rattle.morx.specs.declared.Kind.TheVariants.{Rearrangement, Contextual, Ligature, NonContextual, Insertion, OldRearrangement, OldNonContextual, LeftOut}

-- what the pass of a kind writes of the line that it leaves; there is none for a kind that is left out
unfoldable pub written_by : Kind → (left was : Line) → Line
written_by Rearrangement left was = line_of left.glyphs left.tags was.homes was.used
written_by Contextual left was = line_of left.glyphs was.tags was.homes was.used
written_by Ligature left was = line_of left.glyphs was.tags left.homes was.used
written_by NonContextual left was = line_of left.glyphs was.tags was.homes was.used
written_by Insertion left was = line_of left.glyphs left.tags was.homes left.used
written_by OldRearrangement left was = line_of left.glyphs left.tags was.homes was.used
written_by OldNonContextual left was = line_of left.glyphs was.tags was.homes was.used
written_by LeftOut left was = was

unfoldable pub in_memory : Call → Line → Line
in_memory (Call.verb c) l = written_by Rearrangement (verb_call l c.verb c.start c.end).line l
in_memory (Call.insert c) l = written_by Insertion (insert_leaves c.table c.start c.count c.place l) l
in_memory (Call.pass kind table start) l = written_by kind (call_leaves (subtable_of_kind kind) table start l) l
in_memory (Call.contextual_step c) l =
    written_by Contextual (step_leaves contextual c.table c.start c.state l c.index c.glyph c.ends) l
in_memory (Call.ligature_step c) l = written_by Ligature (step_leaves ligature c.table c.start c.state l c.index c.glyph c.ends) l
in_memory (Call.any_pass edition table start) l =
    let left : Line = call_leaves (any_subtable edition) table start l in
    line_of left.glyphs left.tags left.homes left.used
in_memory (Call.indexed_pass table start index class_start) l =
    let left : Line = indexed_leaves table start l index class_start in
    line_of left.glyphs left.tags left.homes left.used
in_memory (Call.run table start choices requests) l =
    let left : Line = run_leaves table start choices l requests in
    line_of left.glyphs left.tags left.homes left.used
