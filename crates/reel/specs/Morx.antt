-- A reel by one table: each line is run as by a call of its own.
use Rattle.std.specs.Prelude.{ℕ, List}
use Rattle.line.specs.Line.{Line}
use Rattle.morx.specs.Run.{Ran}
use Rattle.morx.specs.Calls.{run_call}
use Rattle.morx.specs.declared.Choices.{Choices}
use Rattle.reel.specs.Reel.{Reel, reel_leaves}

-- the run that every line gets
abbrev pub run_by : List ℕ → (start : ℕ) → Choices → (requests : List ℕ) → Line → Ran
run_by table start choices requests l = run_call table start choices l requests

unfoldable pub table_leaves : List ℕ → (start : ℕ) → Choices → (requests : List ℕ) → Reel → Reel
table_leaves table start choices requests r = reel_leaves (run_by table start choices requests) r
