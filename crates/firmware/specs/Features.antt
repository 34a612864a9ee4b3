-- The exported runs with requests: each a feature's type times 65,536 plus its setting.
use Rattle.std.specs.Prelude.{ℕ, List}
use Rattle.line.specs.Line.{Line}
use Rattle.chains.specs.declared.Edition.{Edition}
use Rattle.chains.specs.declared.Edition.TheVariants.{Morx, Mort}
use Rattle.morx.specs.Run.{Ran}
use Rattle.morx.specs.Calls.{run_call, run_leaves}
use Rattle.firmware.specs.Steps.{is_flag}

-- the run over the table at `start`, of a line from right to left where the number is not 0, with the features that are asked for
unfoldable pub run_of : Edition → List ℕ → (start right_to_left : ℕ) → Line → (requests : List ℕ) → Ran
run_of edition table start right_to_left l requests = run_call table start (record { right_to_left = is_flag right_to_left; edition = edition }) l requests

-- the line that it leaves
unfoldable pub leaves_of : Edition → List ℕ → (start right_to_left : ℕ) → Line → (requests : List ℕ) → Line
leaves_of edition table start right_to_left l requests = run_leaves table start (record { right_to_left = is_flag right_to_left; edition = edition }) l requests

-- of a morx table
unfoldable pub morx_run_with : List ℕ → (start right_to_left : ℕ) → Line → (requests : List ℕ) → Ran
morx_run_with table start right_to_left l requests = run_of Morx table start right_to_left l requests

unfoldable pub morx_leaves_with : List ℕ → (start right_to_left : ℕ) → Line → (requests : List ℕ) → Line
morx_leaves_with table start right_to_left l requests = leaves_of Morx table start right_to_left l requests

-- of a mort table
unfoldable pub mort_run : List ℕ → (start right_to_left : ℕ) → Line → (requests : List ℕ) → Ran
mort_run table start right_to_left l requests = run_of Mort table start right_to_left l requests

unfoldable pub mort_leaves : List ℕ → (start right_to_left : ℕ) → Line → (requests : List ℕ) → Line
mort_leaves table start right_to_left l requests = leaves_of Mort table start right_to_left l requests
