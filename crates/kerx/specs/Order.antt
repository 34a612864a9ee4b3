-- Two kerx lists with the same subtables in two orders, and on what conditions their runs leave the same along numbers: each condition of document 02's
-- W-214 is a definition of its own. Format 4, whose anchors the last one written decides, adds nothing in a run without anchors.
use Rattle.std.specs.Prelude.{ℕ, ◌≤◌, ◌≡◌, Bool, List, [], ◌∷◌, ◌++◌, ℤ, length, drop, Ok}
use Rattle.parse.specs.Reads.{u32_at}
use Rattle.answers.specs.Limits.{head_limit}
use Rattle.answers.specs.Refuse.{refuse}
use Rattle.line.specs.Line.{Line}
use Rattle.kerning.specs.Additions.{Addition}
use Rattle.kerning.specs.declared.choices.Choices.{Choices}
use Rattle.kerning_lists.specs.Walk.{on_head, list_bytes}
use Rattle.kerning_lists.specs.Run.{contribution, run_tests}
use Rattle.kerning_lists.specs.Family.{adds}
use Rattle.kerx.specs.Heads.{head_in, list_of}
use Rattle.kerx.specs.Kerx.{kerx}

-- a subtable is the list of its own bytes. One order of some and another: neighbours are exchanged, as often as need be
pub data Reordered : (one other : List (List ℕ)) → Type 0 where
  same : {parts : List (List ℕ)} → Reordered parts parts
  exchanged : {one : List (List ℕ)} (before : List (List ℕ)) (a b : List ℕ) (behind : List (List ℕ)) → Reordered one (before ++ a ∷ b ∷ behind)
      → Reordered one (before ++ b ∷ a ∷ behind)

-- it holds of each of them
pub data Each (P : List ℕ → Type 0) : List (List ℕ) → Type 0 where
  none : Each P []
  more : {part : List ℕ} {parts : List (List ℕ)} → P part → Each P parts → Each P (part ∷ parts)

-- their bytes, one behind the other
unfoldable pub joined : List (List ℕ) → List ℕ
joined [] = []
joined (part ∷ parts) = part ++ joined parts

-- the list that begins at a start of a table has this version and counts these subtables. They lie in the table, one behind the other, the first at 8; what is
-- behind the last does not matter
pub record ListHas (table : List ℕ) (start version : ℕ) (parts : List (List ℕ)) : Type 0 where
  pub versioned : (list_of (list_bytes table start)).version ≡ version
  pub counted : (list_of (list_bytes table start)).count ≡ length parts
  pub behind : List ℕ
  pub lie : drop 8 (list_bytes table start) ≡ joined parts ++ behind

-- no call is refused
abbrev pub NotRefused : (table : List ℕ) → (start : ℕ) → Line → (along : List ℤ) → Type 0
NotRefused table start l along = refuse (run_tests (length table) start l along) ≡ Ok tt

-- the head limit isn't reached
abbrev pub BelowLimit : (parts : List (List ℕ)) → Type 0
BelowLimit parts = length parts ≤ head_limit

-- a subtable lies wholly in the table: what lies there has as many bytes as its head states
abbrev pub AsStated : (part : List ℕ) → Type 0
AsStated part = u32_at part 0 ≡ length part

-- what a subtable contributes by its own bytes alone, to a line that goes from right to left or not
unfoldable pub alone : (rtl : Bool) → (version : ℕ) → (glyphs : List ℕ) → (used : ℕ) → Choices → (part : List ℕ) → List Addition
alone rtl version glyphs used choices part =
    on_head (head_in rtl version 0 part) (contribution (adds kerx part version used choices) glyphs used) []

-- what each of some adds, one after the other
unfoldable pub all_add : (adds : List ℕ → List Addition) → List (List ℕ) → List Addition
all_add adds [] = []
all_add adds (part ∷ parts) = adds part ++ all_add adds parts
