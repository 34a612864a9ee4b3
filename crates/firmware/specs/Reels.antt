-- The exported reels: every line gets the run of an entry for one line.
use Rattle.std.specs.Prelude.{ℕ, List}
use Rattle.reel.specs.Reel.{Reel, reel_leaves}
use Rattle.firmware.specs.Features.{morx_run_with, mort_run}

-- what a reel by the morx table at `start` leaves, of lines from right to left where the number is not 0
unfoldable pub morx_reel : List ℕ → (start right_to_left : ℕ) → (requests : List ℕ) → Reel → Reel
morx_reel table start right_to_left requests r = reel_leaves (λ l. morx_run_with table start right_to_left l requests) r

-- and one by the mort table there
unfoldable pub mort_reel : List ℕ → (start right_to_left : ℕ) → (requests : List ℕ) → Reel → Reel
mort_reel table start right_to_left requests r = reel_leaves (λ l. mort_run table start right_to_left l requests) r
