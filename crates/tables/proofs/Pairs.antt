-- On which side a key lies from a pair that lies in the table.
use Prim.Native.Nat.{ℕ, ◌+◌, ◌<◌, ◌≤◌}
use mathlib.Core.Path.{◌≡◌, ◌∙◌}
use mathlib.Core.List.{List}
use native.Mathlib.Omega.{arith}
use lib.ListN.{length}
use borrow.Author.Tests.{lt-ltb, le-ltb}
use Rattle.parse.specs.Reads.{u32_at}
use Rattle.parse.proofs.Laws.{read_u32_got}
use Rattle.tables.specs.Records.{pair_place}
use Rattle.tables.specs.Search.{against, side_of, side_of_pair}
use Rattle.tables.specs.declared.records.Keys.TheVariants.{Pairs}
use Rattle.tables.specs.declared.records.Side.TheVariants.{Left, Here, Right}

module _ (bytes : List ℕ) (first key i : ℕ) (whole : pair_place first i + 4 ≤ length bytes) where
  pub pair_side : side_of bytes first Pairs key i ≡ against key (u32_at bytes (pair_place first i)) (u32_at bytes (pair_place first i))
  unfolding side_of side_of_pair
  pair_side = rw (read_u32_got bytes (pair_place first i) whole, side_of_pair)

  module _ {pair : ℕ} (e : pair ≡ u32_at bytes (pair_place first i)) where
    pub pair_left : key < pair → side_of bytes first Pairs key i ≡ Left
    pair_left h = pair_side ∙ rw (← e, le-ltb pair key (omega arith), lt-ltb key pair h)

    pub pair_right : pair < key → side_of bytes first Pairs key i ≡ Right
    pair_right h = pair_side ∙ rw (← e, lt-ltb pair key h)

    pub pair_here : pair ≤ key → key ≤ pair → side_of bytes first Pairs key i ≡ Here
    pair_here h k = pair_side ∙ rw (← e, le-ltb pair key k, le-ltb key pair h)
