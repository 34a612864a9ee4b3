-- Kerning is additions: numbers added to the adjustments, of which there is one for each place of the room.
use Rattle.answers.specs.declared.Refusal.{Refusal}
use Rattle.std.specs.Prelude.{ℕ, List, [], ◌∷◌, ◌++◌, ℤ, pos, ◌+ℤ◌, get_or, set, Result, Ok, Err}
use Rattle.laws.specs.Choose.{if_lt}
use Rattle.answers.specs.declared.Answer.{Answer}
use Rattle.answers.specs.declared.Answer.TheVariants as Answer'

-- a number that is added to the adjustment of a place
pub record Addition : Type 0 where
  pub place : ℕ
  pub number : ℤ

-- the adjustments with a number added at a place
unfoldable pub add_at : ℕ → ℤ → List ℤ → List ℤ
add_at place number along = set along place (get_or along place (pos 0) +ℤ number)

-- the adjustments with all additions made, one after the other
unfoldable pub add_all : List Addition → List ℤ → List ℤ
add_all [] along = along
add_all (a ∷ later) along = add_all later (add_at a.place a.number along)

-- a number for a place: one outside the line, which has so many places, is skipped
unfoldable pub additions_at : (used place : ℕ) → ℤ → List Addition
additions_at used place number = if_lt place used (record { place = place; number = number } ∷ []) []

-- what a kerning pass answers, and its additions
pub record Kerned : Type 0 where
  pub answer : Answer
  pub additions : List Addition

-- additions made before
abbrev pub after : List Addition → Kerned → Kerned
after done rest = record { answer = rest.answer; additions = done ++ rest.additions }

-- an answer that adds nothing
abbrev pub nothing_added : Answer → Kerned
nothing_added answer = record { answer = answer; additions = [] }

-- a refused call answers so and adds nothing
abbrev pub called_by : Result Unit Refusal → Kerned → Kerned
called_by (Ok tt) work = work
called_by (Err why) work = nothing_added (Answer'.Refused why)
