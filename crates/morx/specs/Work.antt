-- For the code alone; no entry and no promise rests on it, and nobody has to believe it. What the parts of the code test, answer and leave: a pass
-- and a run without their tests.
use Rattle.std.specs.Prelude.{ℕ, ◌≡◌, List, [], ◌∷◌}
use Rattle.answers.specs.Refuse.{Test, table_test}
use Rattle.line.specs.Line.{Line, line_of}
use Rattle.line.specs.Test.{line_test}
use Rattle.line.specs.Changes.{apply_all}
use Rattle.machine.specs.Pass.{Passed}
use Rattle.morx.specs.Run.{Ran}
use Rattle.morx.specs.declared.PassReply.{PassReply}
use Rattle.morx.specs.declared.RunReply.{RunReply}

-- the tests that a pass begins with: TABLE, LINE
unfoldable pub line_tests : (table_length : ℕ) → Line → List Test
line_tests table_length l = table_test table_length ∷ line_test l ∷ []

-- what a pass answers: its answer, and the used length after its changes
abbrev pub pass_reply_of : Passed → Line → PassReply
pass_reply_of p l = record { answer = p.answer; used = (apply_all p.changes l).used }

-- what a pass on a line answers, and the glyphs, tags and homes that it leaves, are these
pub record Leaves (p : Passed) (l : Line) (reply : PassReply) (glyphs tags homes : List ℕ) : Type 0 where
  pub answers : reply.answer ≡ p.answer
  pub line : line_of glyphs tags homes reply.used ≡ apply_all p.changes l

-- what a run answers: its answer, the used length after its changes, and its heads
abbrev pub run_reply_of : Ran → Line → RunReply
run_reply_of r l = record { answer = r.answer; used = (apply_all r.changes l).used; heads = r.heads }

-- what a run answers, counts and leaves
pub record RunLeaves (r : Ran) (l : Line) (reply : RunReply) (glyphs tags homes : List ℕ) : Type 0 where
  pub answers : reply.answer ≡ r.answer
  pub counted : reply.heads ≡ r.heads
  pub line : line_of glyphs tags homes reply.used ≡ apply_all r.changes l
