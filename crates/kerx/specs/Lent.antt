-- For the code alone; no entry and no promise rests on it, and nobody has to believe it. The three slices beside the adjustments that a run is lent: as
-- long as the used part of the line, or none, in a run without anchors.
use Rattle.std.specs.Prelude.{ℕ, ◌<◌, ◌≡◌, Bool, List, ℤ, length}
use Rattle.kerning.specs.declared.choices.Choices.{Choices}
use Rattle.anchor_machine.specs.Writes.{Write}
use Rattle.kerning_lists.specs.Walk.{visited, heads_from}
use Rattle.kerning_lists.specs.Family.{head_at}
use Rattle.kerning_lists.specs.declared.ListHead.{ListHead}
use Rattle.kerning_lists.specs.declared.Subtable.{Subtable}
use Rattle.kerx.specs.Kerx.{kerx}
use Rattle.kerx.specs.Anchored.{markings, marks}

pub record Lent (used : ℕ) (x y : List ℤ) (back : List ℕ) : Type 0 where
  pub long-y : length y ≡ length x
  pub long-back : length back ≡ length x
  pub some : 0 < length x → length x ≡ used

-- the subtables that a run visits, by the head of its list that was read, and what they write
abbrev pub visited_by : (rtl : Bool) → List ℕ → ListHead → List Subtable
visited_by rtl bytes list = visited (heads_from (head_at kerx rtl bytes list.version) list.count list.first)

abbrev pub list_marks : (ankr bytes : List ℕ) → ListHead → (rtl : Bool) → (glyphs : List ℕ) → (used : ℕ) → Choices → List Write
list_marks ankr bytes list rtl glyphs used choices =
    markings (marks ankr bytes list.version used choices) glyphs used (visited_by rtl bytes list)
