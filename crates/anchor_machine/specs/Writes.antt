-- Anchoring is writes: x, y and the distance back of a place, each in a slice of its own that has one for each place of the room.
use Rattle.std.specs.Prelude.{ℕ, Bool, List, [], ◌∷◌, ◌++◌, eqb, ℤ, length, set, Option, Some, None}
use Rattle.laws.specs.Choose.{if_lt}
use Rattle.laws.specs.Lists.{both}
use Rattle.answers.specs.declared.Answer.{Answer}
use Rattle.anchor_machine.specs.declared.Written.{Written}

-- what is written at a place
pub record Write : Type 0 where
  pub place : ℕ
  pub x : ℤ
  pub y : ℤ
  pub back : ℕ

-- a slice with a part of all writes written, one after the other, so that the last one stands
unfoldable pub write_all : {A : Type 0} → (part : Write → A) → List Write → List A → List A
write_all part [] were = were
write_all part (w ∷ later) were = write_all part later (set were w.place (part w))

-- the three slices
abbrev pub write_x : List Write → List ℤ → List ℤ
write_x writes were = write_all (λ (w : Write). w.x) writes were

abbrev pub write_y : List Write → List ℤ → List ℤ
write_y writes were = write_all (λ (w : Write). w.y) writes were

abbrev pub write_back : List Write → List ℕ → List ℕ
write_back writes were = write_all (λ (w : Write). w.back) writes were

-- what a step writes at its place; behind the line, which has so many places, nothing
unfoldable pub writes_at : (used place : ℕ) → Option Written → List Write
writes_at used place None = []
writes_at used place (Some w) = if_lt place used (record { place = place; x = w.x; y = w.y; back = w.back } ∷ []) []

-- what an anchoring pass answers, and its writes
pub record Anchored : Type 0 where
  pub answer : Answer
  pub writes : List Write

-- writes made before
abbrev pub after : List Write → Anchored → Anchored
after done rest = record { answer = rest.answer; writes = done ++ rest.writes }

-- an answer that writes nothing
abbrev pub nothing_written : Answer → Anchored
nothing_written answer = record { answer = answer; writes = [] }

-- the three slices are as long as the room
unfoldable pub are_long : (room : ℕ) → (x y : List ℤ) → (back : List ℕ) → Bool
are_long room x y back = both (eqb (length x) room) (both (eqb (length y) room) (eqb (length back) room))
