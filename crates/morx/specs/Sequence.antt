-- The calls that are lent a line, one after the other: the data that demand 3 ranges over. A fresh line is where a sequence begins.
use Rattle.std.specs.Prelude.{ℕ, List}
use Rattle.line.specs.Line.{Line}
use Rattle.line.specs.Changes.{Change}
use Rattle.line.specs.Entries.{LoneVerb, verb_call, verb_changes}
use Rattle.machine.specs.Machine.{pass_call, call_leaves, step_call, step_leaves, StepCall}
use Rattle.contextual.specs.Calls.{contextual}
use Rattle.contextual.specs.declared.ContextualState.{ContextualState}
use Rattle.ligature.specs.Calls.{ligature}
use Rattle.ligature.specs.declared.LigatureState.{LigatureState}
use Rattle.insertion.specs.Lone.{InsertCall, insert_call, insert_leaves}
use Rattle.chains.specs.declared.Edition.{Edition}
use Rattle.morx.specs.Kinds.{subtable_of_kind, any_subtable}
use Rattle.morx.specs.Indexed.{indexed_call, indexed_leaves}
use Rattle.morx.specs.Calls.{run_call, run_leaves}
use Rattle.morx.specs.declared.Choices.{Choices}
use Rattle.morx.specs.declared.Kind.{Kind}

pub data Call : Type 0 where
  verb : LoneVerb → Call
  insert : InsertCall → Call
  pass : Kind → (table : List ℕ) → (start : ℕ) → Call
  any_pass : Edition → (table : List ℕ) → (start : ℕ) → Call
  indexed_pass : (table : List ℕ) → (start : ℕ) → (index : List ℕ) → (class_start : ℕ) → Call
  contextual_step : StepCall ContextualState → Call
  ligature_step : StepCall LigatureState → Call
  run : (table : List ℕ) → (start : ℕ) → Choices → (requests : List ℕ) → Call

-- the line that a call leaves, as its entry promises
unfoldable pub leaves : Call → Line → Line
leaves (verb c) l = (verb_call l c.verb c.start c.end).line
leaves (insert c) l = insert_leaves c.table c.start c.count c.place l
leaves (pass kind table start) l = call_leaves (subtable_of_kind kind) table start l
leaves (any_pass edition table start) l = call_leaves (any_subtable edition) table start l
leaves (indexed_pass table start index class_start) l = indexed_leaves table start l index class_start
leaves (contextual_step c) l = step_leaves contextual c.table c.start c.state l c.index c.glyph c.ends
leaves (ligature_step c) l = step_leaves ligature c.table c.start c.state l c.index c.glyph c.ends
leaves (run table start choices requests) l = run_leaves table start choices l requests

-- the changes that it makes
unfoldable pub makes : Call → Line → List Change
makes (verb c) l = verb_changes l c.verb c.start c.end
makes (insert c) l = (insert_call c.table c.start c.count c.place l).changes
makes (pass kind table start) l = (pass_call (subtable_of_kind kind) table start l).changes
makes (any_pass edition table start) l = (pass_call (any_subtable edition) table start l).changes
makes (indexed_pass table start index class_start) l = (indexed_call table start l index class_start).changes
makes (contextual_step c) l = (step_call contextual c.table c.start c.state l c.index c.glyph c.ends).changes
makes (ligature_step c) l = (step_call ligature c.table c.start c.state l c.index c.glyph c.ends).changes
makes (run table start choices requests) l = (run_call table start choices l requests).changes
