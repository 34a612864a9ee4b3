-- How many heads a run counts, by the walk of its table.
use Rattle.std.specs.Prelude.{ℕ, suc, ◌<◌, ◌≡◌, ◌⊎◌, List, length, take}
use Rattle.answers.specs.Limits.{head_limit}
use Rattle.answers.specs.declared.Answer.TheVariants as Answer'
use Rattle.line.specs.Line.{Line}
use Rattle.chains.specs.Walk.{walk_of}
use Rattle.morx.specs.Run.{Ran, run_over}
use Rattle.morx.specs.declared.Choices.{Choices}

module _ (table : List ℕ) (start : ℕ) (choices : Choices) (l : Line) (requests : List ℕ) where
  -- a run over the first so many heads alone
  abbrev pub ran_up_to : ℕ → Ran
  ran_up_to n = run_over table choices head_limit 0 (take n (walk_of choices.edition table start)) l requests

  -- FULL: over the heads before the last counted one the run is DONE, and that one is where it runs full
  pub record RunsFull (r : Ran) : Type 0 where
    pub before : ℕ
    pub counted : r.heads ≡ suc before
    pub within : before < length (walk_of choices.edition table start)
    pub done-before : (ran_up_to before).answer ≡ Answer'.Done
    pub full-there : ran_up_to (suc before) ≡ r

  -- DONE: all heads of the walk; LIMIT: 65,535, and the walk has more
  pub record Counted (r : Ran) : Type 0 where
    pub answers : (r.answer ≡ Answer'.Done) ⊎ ((r.answer ≡ Answer'.Full) ⊎ (r.answer ≡ Answer'.Limit))
    pub done : r.answer ≡ Answer'.Done → r.heads ≡ length (walk_of choices.edition table start)
    pub limit : r.answer ≡ Answer'.Limit → (r.heads ≡ head_limit) × (head_limit < length (walk_of choices.edition table start))
    pub full : r.answer ≡ Answer'.Full → RunsFull r
