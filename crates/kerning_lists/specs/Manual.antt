-- Apple's manual on the subtables of a kerning table: the first begins at a place of its own, each other behind the one before, whose length its head
-- tells. The manual was not at hand: docs/DIFFERENCES.md says what these lines rest on.
use Rattle.std.specs.Prelude.{ℕ, zero, suc, ◌+◌, ◌<◌, ◌≤◌, ◌≡◌, Bool, List, length, get_or}
use Rattle.kerning_lists.specs.declared.Subtable.{Subtable}

-- what a head tells: where its subtable begins, its format, and whether it is one that a run skips
pub record Told : Type 0 where
  pub place : ℕ
  pub format : ℕ
  pub skipped : Bool

-- the same of a subtable that the crate reads
abbrev pub told : Subtable → Told
told s = record { place = s.body; format = s.format; skipped = s.passed_over }

-- where subtable k begins, by the first's place and the length that a head at a place tells
unfoldable pub begins_at : (length_at : ℕ → ℕ) → (first k : ℕ) → ℕ
begins_at length_at first zero = first
begins_at length_at first (suc k) = begins_at length_at (first + length_at first) k

-- the subtables of a walk are the manual's, of which a list counts so many with heads of so many bytes: number k is the one that begins there, and it is
-- in the walk exactly when it is counted and its head and those before it lie in the table
pub record AsManual
    (bytes : List ℕ) (head : ℕ) (subtable_at : ℕ → Told) (length_at : ℕ → ℕ) (first count : ℕ) (walk : List Subtable) : Type 0 where
  pub begins : (k : ℕ) → k < length walk → (other : Subtable) → told (get_or walk k other) ≡ subtable_at (begins_at length_at first k)
  pub counted : (k : ℕ) → k < length walk → k < count
  pub lies : (k : ℕ) → k < length walk → begins_at length_at first k + head ≤ length bytes
  pub there : (k : ℕ) → k < count → ((j : ℕ) → j ≤ k → begins_at length_at first j + head ≤ length bytes) → k < length walk

-- The crate reads fewer bytes of a head than it has. No head of the list lies in the table in part: where those do, all do.
abbrev pub NoneInPart : List ℕ → (few head : ℕ) → (length_at : ℕ → ℕ) → (first count : ℕ) → Type 0
NoneInPart bytes few head length_at first count =
    (k : ℕ) → k < count → begins_at length_at first k + few ≤ length bytes → begins_at length_at first k + head ≤ length bytes
