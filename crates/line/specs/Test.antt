-- The LINE test, as it computes: proofs/Exact.antt shows that it decides `Valid`.
use Rattle.std.specs.Prelude.{ℕ, Bool, true, false, not, List, ltb, leb, eqb, length, get_or}
use Rattle.laws.specs.Lists.{both, every}
use Rattle.answers.specs.Limits.{room_limit}
use Rattle.answers.specs.Refuse.{Test}
use Rattle.answers.specs.declared.Refusal.TheVariants as Refusal
use Rattle.line.specs.Line.{Line}

-- b says exactly whether P holds
abbrev pub Decides : Type 0 → Bool → Type 0
Decides P true = P
Decides P false = P → ⊥

-- the tag stands at none of the first n places
unfoldable pub is_new : List ℕ → ℕ → ℕ → Bool
is_new tags n tag = every (λ p. not (eqb (get_or tags p 0) tag)) n

-- each of the first n tags is below n and stands at no earlier place
unfoldable pub is_once_each : List ℕ → ℕ → Bool
is_once_each tags n = every (λ p. both (ltb (get_or tags p 0) n) (is_new tags p (get_or tags p 0))) n

-- every home is below the used length
unfoldable pub are_housed : List ℕ → ℕ → Bool
are_housed homes used = every (λ c. ltb (get_or homes c 0) used) (length homes)

-- no more characters than places, every home below the length, the used tags once each
unfoldable pub is_legal : List ℕ → List ℕ → ℕ → Bool
is_legal tags homes used = both (leb (length homes) used) (both (are_housed homes used) (is_once_each tags used))

-- equal lengths, a room within the limit, a used length within the room, legal tags and homes
unfoldable pub is_valid : Line → Bool
is_valid l =
    both (eqb (length l.tags) (length l.glyphs))
    (both (leb (length l.glyphs) room_limit)
    (both (leb l.used (length l.glyphs))
    (is_legal l.tags l.homes l.used)))

-- LINE: the line is not valid
unfoldable pub line_test : Line → Test
line_test l = record { holds = not (is_valid l); refusal = Refusal.Line }
