-- Document 01's table for the shaper, computed by the definitions: its walk has two heads, and the run looks up 5 and 6.
use Prim.Native.Nat.{ℕ}
use mathlib.Core.Path.{◌≡◌, refl}
use mathlib.Core.List.{List, [], ◌∷◌}
use lib.ListN.{length}
use Rattle.answers.specs.Limits.{head_limit}
use Rattle.chains.specs.Walk.{walk_of, heads_of, next_head, walk_from}
use Rattle.chains.specs.Lists.{width, number_at, chains_from, chain_count, next_chain, chain_at, next_subtable, subtable_at}
use Rattle.chains.specs.Orders.{kind_number}
use Rattle.chains.specs.declared.Edition.TheVariants.{Morx}
use Rattle.parse.specs.Reads.{read_u32, inside}

abbrev table : List ℕ
table =
    0 ∷ 2 ∷ 0 ∷ 0 ∷ 0 ∷ 0 ∷ 0 ∷ 1 ∷
    0 ∷ 0 ∷ 0 ∷ 1 ∷ 0 ∷ 0 ∷ 0 ∷ 0x26 ∷ 0 ∷ 0 ∷ 0 ∷ 0 ∷ 0 ∷ 0 ∷ 0 ∷ 1 ∷
    0 ∷ 0 ∷ 0 ∷ 0x16 ∷ 0 ∷ 0 ∷ 0 ∷ 4 ∷ 0 ∷ 0 ∷ 0 ∷ 1 ∷
    0 ∷ 8 ∷ 0 ∷ 5 ∷ 0 ∷ 2 ∷ 0 ∷ 7 ∷ 0 ∷ 9 ∷ []

pub two-heads : length (walk_of Morx table 0) ≡ 2
unfolding walk_of heads_of next_head walk_from chains_from chain_count next_chain chain_at next_subtable subtable_at width number_at kind_number read_u32 inside head_limit
two-heads = refl
