-- The exported runs: what they are told as numbers, and the heads that they count.
use Rattle.std.specs.Prelude.{ℕ, List, []}
use Rattle.line.specs.Line.{Line}
use Rattle.morx.specs.Run.{Ran}
use Rattle.kerning_lists.specs.Run as Kerning
use Rattle.firmware.specs.Steps.{unless_refused}
use Rattle.firmware.specs.Features.{morx_run_with, morx_leaves_with}

-- the run over the morx table at `start`, of a line from right to left where the number is not 0: the one with no requests
unfoldable pub morx_run : List ℕ → (start right_to_left : ℕ) → Line → Ran
morx_run table start right_to_left l = morx_run_with table start right_to_left l []

-- the line that it leaves
unfoldable pub morx_leaves : List ℕ → (start right_to_left : ℕ) → Line → Line
morx_leaves table start right_to_left l = morx_leaves_with table start right_to_left l []

-- the number lent for the heads, afterwards; a refused run leaves it
abbrev pub morx_heads : Ran → (was : ℕ) → ℕ
morx_heads r was = unless_refused r.answer was r.heads

abbrev pub kerning_heads : Kerning.Ran → (was : ℕ) → ℕ
kerning_heads r was = unless_refused r.answer was r.heads
