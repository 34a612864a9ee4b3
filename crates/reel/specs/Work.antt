-- For the code alone; no entry and no promise rests on it, and nobody has to believe it. Where a line's part lies, as the code has it,
-- and runs that keep a line's room.
use Rattle.std.specs.Prelude.{ℕ, ◌+◌, ◌≤◌, ◌≡◌, List, ◌++◌, length, take, drop}
use Rattle.line.specs.Line.{Line, line_of}
use Rattle.line.specs.Changes.{apply_all}
use Rattle.morx.specs.Run.{Ran}
use Rattle.reel.specs.declared.Span.{Span}

-- it lies in slices of these lengths
pub record Inside (span : Span) (glyphs tags homes : ℕ) : Type 0 where
  pub glyphs_fit : span.at + span.room ≤ glyphs
  pub tags_fit : span.at + span.room ≤ tags
  pub homes_fit : span.from + span.count ≤ homes

-- the line there
unfoldable pub span_line : Span → (glyphs tags homes : List ℕ) → (used : ℕ) → Line
span_line span glyphs tags homes used =
    line_of (take span.room (drop span.at glyphs)) (take span.room (drop span.at tags)) (take span.count (drop span.from homes)) used

-- a slice with another part of this size there
unfoldable pub over : (at size : ℕ) → (xs part : List ℕ) → List ℕ
over at size xs part = take at xs ++ (part ++ drop size (drop at xs))

-- a line in the slices of another
pub record SameRoom (after before : Line) : Type 0 where
  pub glyphs : length after.glyphs ≡ length before.glyphs
  pub tags : length after.tags ≡ length before.tags
  pub homes : length after.homes ≡ length before.homes

-- a run leaves the slices as long as they are
pub record Keeps (run : Line → Ran) : Type 0 where
  pub kept : (l : Line) → SameRoom (apply_all (run l).changes l) l
