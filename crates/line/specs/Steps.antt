-- For the code alone; no entry and no promise rests on it, and nobody has to believe it. A step of an insertion in place:
-- what stands behind it is raised, and the new ones are then put into the gap.
use Rattle.std.specs.Prelude.{ℕ, ◌+◌, List, ◌++◌, take, drop}
use Rattle.std.proofs.Math.Seq.{slice}

-- what stands from a place to the used length moves up so many places; the gap still holds what stood there
unfoldable pub raised : (at used count : ℕ) → List ℕ → List ℕ
raised at used count xs = take (at + count) xs ++ slice at used xs ++ drop (used + count) xs
