-- The walk of a table: the list of its heads, chains and subtables alike, in the order in which a run reads them.
use Rattle.std.specs.Prelude.{ℕ, zero, suc, List, [], ◌∷◌, Option, Some, None}
use Rattle.answers.specs.Limits.{head_limit}
use Rattle.chains.specs.Lists.{cursor, chains_from, next_chain, next_subtable}
use Rattle.chains.specs.declared.Edition.{Edition}
use Rattle.chains.specs.declared.Chain.{Chain}
use Rattle.chains.specs.declared.Subtable.{Subtable}
use Rattle.chains.specs.declared.Head.{Head}
use Rattle.chains.specs.declared.Head.TheVariants as Head'
use Rattle.chains.specs.declared.Walk.{Walk}
use Rattle.chains.specs.declared.NextHead.{NextHead}

-- at the start of a table a walk is in no chain
unfoldable pub walk_from : List ℕ → (start : ℕ) → Walk
walk_from table start = record { subtables = cursor 0 0; chains = chains_from table start }

abbrev pub chain_head : Option Chain → Option NextHead
chain_head (Some chain) = Some (record { head = Head'.Chain chain; next = record { subtables = chain.subtables; chains = chain.next } })
chain_head None = None

abbrev pub subtable_head : Option Subtable → Walk → Option NextHead → Option NextHead
subtable_head (Some subtable) w otherwise = Some (record { head = Head'.Subtable subtable; next = record { subtables = subtable.next; chains = w.chains } })
subtable_head None w otherwise = otherwise

-- the next head is the next subtable of the chain that the walk is in; where that list has ended, the next chain
unfoldable pub next_head : Edition → List ℕ → Walk → Option NextHead
next_head edition table w = subtable_head (next_subtable edition table w.subtables) w (chain_head (next_chain edition table w.chains))

-- the heads from somewhere on, at most so many
unfoldable pub heads_of : Edition → List ℕ → (most : ℕ) → Walk → List Head
heads_of edition table zero w = []
heads_of edition table (suc most) w =
    elim (next_head edition table w) [
      | Some n ↦ n.head ∷ heads_of edition table most n.next
      | None ↦ []
    ]

-- the walk of the table at `start`: all its heads, or, where they are more than a run may count, the first of them and one more
unfoldable pub walk_of : Edition → List ℕ → (start : ℕ) → List Head
walk_of edition table start = heads_of edition table (suc head_limit) (walk_from table start)
