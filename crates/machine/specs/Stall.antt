-- The stall rule.
use Rattle.std.specs.Prelude.{ℕ, ◌+◌, ◌*◌, ◌-◌, ◌<◌, ◌≤◌, Bool, true, false}
use Rattle.laws.specs.Choose.{if_lt}
use Rattle.machine.specs.declared.Stalled.{Stalled}

-- an answer that advances begins the count anew; after 17 in a row that don't, the 18th does
unfoldable pub stalled : (cycles : ℕ) → (stays : Bool) → Stalled
stalled cycles false = record { cycles = 0; advance = 1 }
stalled cycles true = if_lt 16 cycles (record { cycles = 0; advance = 1 }) (record { cycles = cycles + 1; advance = 0 })

-- what the rule keeps, and what falls with each answer: the places left count 18 each, less the answers that did not advance
pub record Falls (cycles used i : ℕ) (to : Stalled) : Type 0 where
  pub sound : to.cycles ≤ 17
  pub within : i + to.advance ≤ used
  pub less : (used - (i + to.advance)) * 18 + (18 - to.cycles) < (used - i) * 18 + (18 - cycles)
