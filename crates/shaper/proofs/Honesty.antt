-- An input that is taken is shaped: TABLE and LINE are the input's own, and HEAD is never given.
use Rattle.std.specs.Prelude.{Ok}
use Prim.Native.Nat.{ℕ, ◌+◌, ◌-◌, ◌/◌, ◌≤◌}
use mathlib.Core.Path.{◌≡◌, refl, sym, ◌∙◌, ap, subst}
use mathlib.Core.Bool.{not}
use mathlib.Core.List.{List, [], ◌∷◌, ◌++◌}
use mathlib.Core.Logic.{◌⊎◌}
use native.Mathlib.Omega.{arith}
use lib.ListN.{length, take, drop, length-append, length-drop, length-take}
use lib.Seq.{length-take-le}
use borrow.Author.Tests.{le-ltb}
use Rattle.answers.specs.Limits.{table_limit}
use Rattle.answers.specs.Refuse.{refuse, table_test}
use Rattle.answers.specs.declared.Answer.{Answer}
use Rattle.answers.specs.declared.Answer.TheVariants as Answer'
use Rattle.answers.proofs.Refusals.{refuse-later, refuse-none}
use Rattle.line.specs.Line.{Line, Valid}
use Rattle.line.specs.Test.{line_test}
use Rattle.line.specs.Changes.{glyphs_of}
use Rattle.line.proofs.Exact.{of_valid}
use Rattle.line.proofs.FreshLaws.{fresh-passed, fresh-valid}
use Rattle.line.proofs.Loops.{length-glyphs_of}
use Rattle.chains.specs.Entries.{start_test}
use Rattle.morx.specs.Run.{Ran, ran}
use Rattle.morx.specs.Calls.{request_limit, request_test, run_tests, run_call}
use Rattle.morx.specs.declared.Choices.{Choices}
use Rattle.morx.proofs.Heads.{heads-counted}
use Rattle.shaper.specs.Shaper.{shaper_table, shaper_room, input_of, left_to_right, start_line, shaped_in, shaped_by, shaped}
use Rattle.shaper.proofs.Shaping.{Taken, taken, shaper_room-fits}

-- DONE, FULL or LIMIT
abbrev pub Runs : Answer → Type 0
Runs answer = (answer ≡ Answer'.Done) ⊎ ((answer ≡ Answer'.Full) ⊎ (answer ≡ Answer'.Limit))

-- a run over a valid line, from the start of a table within the limit
run_runs : (table : List ℕ) (choices : Choices) (l : Line) → length table ≤ table_limit → Valid l → Runs (run_call table 0 choices l []).answer
unfolding run_call run_tests table_test request_test request_limit line_test start_test
run_runs table choices l h v =
    let n : ℕ = length table in
    let passed : refuse (run_tests n 0 l []) ≡ Ok tt =
    refuse-later (table_test n) (request_test [] ∷ line_test l ∷ start_test n 0 ∷ []) (le-ltb _ _ h)
    ∙ refuse-later (request_test []) (line_test l ∷ start_test n 0 ∷ []) refl
    ∙ refuse-later (line_test l) (start_test n 0 ∷ []) (ap not (of_valid l v))
    ∙ refuse-later (start_test n 0) [] (le-ltb n 0 (omega arith))
    ∙ refuse-none in
    let r : run_call table 0 choices l [] ≡ ran table 0 choices l [] = rw (passed, run_call) in
    subst (λ (p : Ran). Runs p.answer) (sym r) (heads-counted table 0 choices l []).answers

module _ (new glyphs tags homes : List ℕ) (few : length new / 2 ≤ shaper_room) (g : length glyphs ≡ shaper_room) (t : length tags ≡ shaper_room)
    (h : length homes ≡ shaper_room) where
  written : length (glyphs_of new ++ drop (length new / 2) glyphs) ≡ shaper_room
  written =
      length-append (glyphs_of new) (drop (length new / 2) glyphs)
      ∙ rw (length-glyphs_of new, length-drop (length new / 2) glyphs) (omega arith)

  pub start-valid : Valid (start_line new glyphs tags (take (length new / 2) homes))
  unfolding start_line
  start-valid =
      fresh-valid _ tags (take (length new / 2) homes)
      (sym
      (fresh-passed _ tags (take (length new / 2) homes) (t ∙ sym written) (omega (arith, written, shaper_room-fits))
      (omega (arith, written, length-take-le (length new / 2) homes (omega arith)))))

pub shaped_runs : (input glyphs tags homes : List ℕ) (end : ℕ) → input_of input ≡ Ok end → length glyphs ≡ shaper_room
    → length tags ≡ shaper_room → length homes ≡ shaper_room → Runs (shaped input glyphs tags homes).reply.answer
unfolding shaped shaped_by shaped_in table_limit shaper_table
shaped_runs input glyphs tags homes end e g t h =
    let k : Taken input end = taken input end e in
    rw e
    (run_runs (take (end - 4) (drop 4 input)) left_to_right _ (rw (length-take (end - 4) (drop 4 input)) (omega (arith, k.short)))
    (start-valid (drop (end + 2) input) glyphs tags homes k.few g t h))
