-- Demand 3: where every character is after any history of edits.
use Rattle.std.specs.Prelude.{ℕ, zero, suc, ◌+◌, ◌<◌, ◌≤◌, ◌≡◌, List, [], ◌∷◌, ◌++◌, length, get_or}
use Rattle.laws.specs.Choose.{if_eq}
use Rattle.line.specs.Line.{Line, Valid, Belongs}
use Rattle.line.specs.Edits.{Edit, carry_all, inserted}
use Rattle.line.specs.Changes.{Change, history_of, apply_all}

-- where a tag stands among the first n places
unfoldable pub place_of_tag : List ℕ → ℕ → ℕ → ℕ
place_of_tag tags zero tag = 0
place_of_tag tags (suc n) tag = if_eq (get_or tags n 0) tag n (place_of_tag tags n tag)

-- where a character starts: at the place of the tag that is its home
unfoldable pub start_of : Line → ℕ → ℕ
start_of l c = place_of_tag l.tags l.used (get_or l.homes c 0)

-- what demand 3 says of the line l after a history: it began with n places, in a room, and with a start for each of the characters
pub record Accounted (room characters n : ℕ) (start : ℕ → ℕ) (history : List Edit) (l : Line) : Type 0 where
  -- the line is valid, and no character is lost or added
  pub valid : Valid l
  pub all : length l.homes ≡ characters
  -- every character belongs to the place that the history gives, and to no other
  pub there : (c : ℕ) → c < characters → Belongs l c (carry_all history n (start c))
  pub only : (c p : ℕ) → Belongs l c p → p ≡ carry_all history n (start c)
  -- the length is the starting length and the glyphs inserted, never above the room
  pub long : l.used ≡ n + inserted history
  pub fits : l.used ≤ room
  pub same : length l.glyphs ≡ room

-- the same, from a line as it was found
abbrev pub FromLine : Line → List Edit → Line → Type 0
FromLine l₀ = Accounted (length l₀.glyphs) (length l₀.homes) l₀.used (start_of l₀)

-- the same, from a fresh line of n characters: each starts at its own place
abbrev pub FromFresh : (room n : ℕ) → List Edit → Line → Type 0
FromFresh room n = Accounted room n n (λ c. c)

-- changes are legal on a line when no insertion makes the length exceed the room; lengths only grow, so that the last tells
abbrev pub Fits : List Change → Line → Type 0
Fits changes l = l.used + inserted (history_of changes) ≤ length l.glyphs

-- Calls of some kind: the line that each leaves, and the changes that it makes; a refused call makes none.
module _ {Call : Type 0} (leaves : Call → Line → Line) (makes : Call → Line → List Change) where
  -- on a valid line each leaves what its changes make of it, and they are legal
  pub record Honest : Type 0 where
    pub made : (call : Call) (l : Line) → Valid l → leaves call l ≡ apply_all (makes call l) l
    pub legal : (call : Call) (l : Line) → Valid l → Fits (makes call l) l

  -- the line after calls, each lent the line as the call before left it
  unfoldable pub left_by : List Call → Line → Line
  left_by [] l = l
  left_by (call ∷ calls) l = left_by calls (leaves call l)

  -- their history
  unfoldable pub history_by : List Call → Line → List Edit
  history_by [] l = []
  history_by (call ∷ calls) l = history_of (makes call l) ++ history_by calls (leaves call l)
