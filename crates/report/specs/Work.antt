-- For the code alone; no entry and no promise rests on it, and nobody has to believe it. Lines that lie in their slices, and the along numbers of one.
use Rattle.std.specs.Prelude.{ℕ, ◌<◌, ◌≤◌, ◌≡◌, true, List, ℤ, length, get_or, take, drop}
use Rattle.kerning.specs.Line.{is_modest}
use Rattle.reel.specs.Parts.{total, part_of}
use Rattle.reel.specs.declared.Span.{Span}
use Rattle.report.specs.Report.{Lines, count_of}

unfoldable pub span_along : Span → List ℤ → List ℤ
span_along span along = take span.room (drop span.at along)

-- as many numbers of each kind as lines, and slices that the lines fill
pub record Cut (r : Lines) : Type 0 where
  pub few : count_of r ≤ 255
  pub all-characters : length r.characters ≡ count_of r
  pub all-used : length r.used ≡ count_of r
  pub whole-glyphs : total r.rooms ≡ length r.glyphs
  pub whole-tags : total r.rooms ≡ length r.tags
  pub whole-along : total r.rooms ≡ length r.along
  pub whole-homes : total r.characters ≡ length r.homes

-- a line whose numbers may be added up
pub record Sound (rooms used : List ℕ) (along : List ℤ) (k : ℕ) : Type 0 where
  pub within : get_or used k 0 ≤ get_or rooms k 0
  pub short : get_or used k 0 ≤ 32768
  pub modest : is_modest (part_of rooms k along) ≡ true

-- lines that may be, and a place for the numbers of each
pub record Ready (rooms used : List ℕ) (along sums largest smallest : List ℤ) : Type 0 where
  pub few : length rooms ≤ 255
  pub all-used : length used ≡ length rooms
  pub whole : total rooms ≡ length along
  pub all-sums : length sums ≡ length rooms
  pub all-largest : length largest ≡ length rooms
  pub all-smallest : length smallest ≡ length rooms
  pub sound : (k : ℕ) → k < length rooms → Sound rooms used along k
