-- The line: a glyph and a tag at each place, a home for each character. Its room is the length of its slices.
use Rattle.std.specs.Prelude.{ℕ, ◌<◌, ◌≤◌, ◌≡◌, List, length, get_or}
use Rattle.answers.specs.Limits.{room_limit}

pub record Line : Type 0 where
  pub glyphs : List ℕ
  pub tags : List ℕ
  pub homes : List ℕ
  pub used : ℕ

-- the line of lent slices and a used length
abbrev pub line_of : List ℕ → List ℕ → List ℕ → ℕ → Line
line_of glyphs tags homes used = record { glyphs = glyphs; tags = tags; homes = homes; used = used }

-- the first n tags are 0 to n - 1 once each: each tag below n has one place, and each place's tag is below n
pub record OnceEach (tags : List ℕ) (n : ℕ) : Type 0 where
  pub place : ℕ → ℕ
  pub below : (p : ℕ) → p < n → get_or tags p 0 < n
  pub back : (p : ℕ) → p < n → place (get_or tags p 0) ≡ p
  pub inside : (t : ℕ) → t < n → place t < n
  pub there : (t : ℕ) → t < n → get_or tags (place t) 0 ≡ t

-- tags and homes of a line of so many places: the used tags once each, every home below the length, no more characters than places
pub record Legal (tags homes : List ℕ) (used : ℕ) : Type 0 where
  pub once : OnceEach tags used
  pub housed : (c : ℕ) → c < length homes → get_or homes c 0 < used
  pub enough : length homes ≤ used

-- a line that LINE does not refuse: equal lengths, a room within the limit, a used length within the room, legal tags and homes
pub record Valid (l : Line) : Type 0 where
  pub paired : length l.tags ≡ length l.glyphs
  pub limited : length l.glyphs ≤ room_limit
  pub within : l.used ≤ length l.glyphs
  pub legal : Legal l.tags l.homes l.used

-- the character c belongs to the place p: the tag there is its home
pub record Belongs (l : Line) (c p : ℕ) : Type 0 where
  pub character : c < length l.homes
  pub inside : p < l.used
  pub home : get_or l.tags p 0 ≡ get_or l.homes c 0
