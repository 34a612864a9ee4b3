-- Demand 3 over calls. After any sequence of lone verbs and insertions, passes, lone steps and whole runs in either direction, of morx and of mort, each lent the line as
-- the call before left it, the line is valid, every character belongs to exactly one place, the one that the history gives, and the
-- length is the starting length and the glyphs inserted, never above the room. It begins with any valid line, or with a fresh one.
use Rattle.std.specs.Prelude.{Ok}
use Prim.Native.Nat.{ℕ}
use mathlib.Core.Path.{◌≡◌, refl}
use mathlib.Core.List.{List}
use lib.ListN.{length}
use Rattle.answers.specs.Refuse.{refuse}
use Rattle.line.specs.Line.{Line, Valid}
use Rattle.line.specs.Changes.{apply_all}
use Rattle.line.specs.Entries.{fresh_of, fresh_tests}
use Rattle.line.specs.History.{FromLine, FromFresh, Fits, Honest, left_by, history_by}
use Rattle.line.proofs.Demand3.{over_calls, fresh-over_calls, verbs_honest}
use Rattle.machine.specs.Machine.{call_leaves, step_leaves}
use Rattle.machine.proofs.Having.{call_has, step-has}
use Rattle.machine.proofs.Fitting.{fitting}
use Rattle.contextual.specs.Calls.{contextual}
use Rattle.contextual.proofs.Honesty as Contextual'
use Rattle.ligature.specs.Calls.{ligature}
use Rattle.ligature.proofs.Honesty as Ligature'
use Rattle.insertion.specs.Lone.{insert_leaves}
use Rattle.insertion.proofs.Honesty.{insert-fits}
use Rattle.morx.specs.Kinds.{kind_at, subtable_of_kind, any_subtable}
use Rattle.morx.specs.Calls.{run_leaves}
use Rattle.morx.specs.Sequence.{Call, leaves, makes}
use Rattle.morx.specs.Indexed.{indexed_leaves}
use Rattle.morx.proofs.Machines.{worked-fits}
use Rattle.morx.proofs.Indexing.{indexed_call-fits}
use Rattle.morx.proofs.Honesty.{run_fits}

call_made : (call : Call) (l : Line) → Valid l → leaves call l ≡ apply_all (makes call l) l
unfolding leaves makes insert_leaves call_leaves indexed_leaves step_leaves run_leaves
call_made (Call.verb c) l v = verbs_honest.made c l v
call_made (Call.insert c) l v = refl
call_made (Call.pass kind table start) l v = refl
call_made (Call.any_pass edition table start) l v = refl
call_made (Call.indexed_pass table start index class_start) l v = refl
call_made (Call.contextual_step c) l v = refl
call_made (Call.ligature_step c) l v = refl
call_made (Call.run table start choices requests) l v = refl

call_legal : (call : Call) (l : Line) → Valid l → Fits (makes call l) l
unfolding makes
call_legal (Call.verb c) l v = verbs_honest.legal c l v
call_legal (Call.insert c) l v = insert-fits c.table c.start c.count c.place l v
call_legal (Call.pass kind table start) l v = call_has Valid Fits fitting (subtable_of_kind kind) (worked-fits kind) table start l v
call_legal (Call.any_pass edition table start) l v =
    call_has Valid Fits fitting (any_subtable edition) (λ bytes k u. worked-fits (kind_at edition bytes) bytes k u) table start l v
call_legal (Call.indexed_pass table start index class_start) l v = indexed_call-fits table start l index class_start v
call_legal (Call.contextual_step c) l v =
    step-has Valid Fits fitting contextual Contextual'.step_fits c.table c.start c.state l c.index c.glyph c.ends v
call_legal (Call.ligature_step c) l v =
    step-has Valid Fits fitting ligature Ligature'.step_fits c.table c.start c.state l c.index c.glyph c.ends v
call_legal (Call.run table start choices requests) l v = run_fits table start choices l requests v

pub calls_honest : Honest leaves makes
calls_honest = record { made = call_made; legal = call_legal }

pub demand3 : (calls : List Call) (l : Line) → Valid l → FromLine l (history_by leaves makes calls l) (left_by leaves makes calls l)
demand3 = over_calls leaves makes calls_honest

pub fresh-demand3 : (glyphs tags homes : List ℕ) → refuse (fresh_tests glyphs tags homes) ≡ Ok tt → (calls : List Call)
    → FromFresh (length glyphs) (length homes) (history_by leaves makes calls (fresh_of glyphs tags homes)) (left_by leaves makes calls (fresh_of glyphs tags homes))
fresh-demand3 glyphs tags homes taken = fresh-over_calls glyphs tags homes taken leaves makes calls_honest
