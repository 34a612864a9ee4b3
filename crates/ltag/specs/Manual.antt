-- Apple's manual on language tags. The manual was not at hand: docs/DIFFERENCES.md says what these lines rest on.
use Rattle.answers.specs.declared.Refusal.{Refusal}
use Rattle.std.specs.Prelude.{ℕ, ◌+◌, ◌*◌, ◌<◌, ◌≤◌, ◌≡◌, List, length, take, drop, Option, Some, None, Result, Ok}
use Rattle.parse.specs.Reads.{u16_at, u32_at}

-- the number of tags is at 8; the range of tag i is at 12 + 4i: where its bytes begin, from the table's start, and how many they are
abbrev pub tag_count : List ℕ → ℕ
tag_count bytes = u32_at bytes 8

abbrev pub range_place : ℕ → ℕ
range_place i = 12 + i * 4

abbrev pub tag_place : List ℕ → ℕ → ℕ
tag_place bytes i = u16_at bytes (range_place i)

abbrev pub tag_size : List ℕ → ℕ → ℕ
tag_size bytes i = u16_at bytes (range_place i + 2)

-- the bytes of tag i
abbrev pub tag_of : List ℕ → ℕ → List ℕ
tag_of bytes i = take (tag_size bytes i) (drop (tag_place bytes i) bytes)

-- tag i lies in the table, range and bytes
pub record Lies (bytes : List ℕ) (i : ℕ) : Type 0 where
  pub range : range_place i + 4 ≤ length bytes
  pub ends : tag_place bytes i + tag_size bytes i ≤ length bytes

-- the manual's answer for a name: the number of the first tag whose bytes are the name
pub record First (bytes name : List ℕ) (i : ℕ) : Type 0 where
  pub counted : i < tag_count bytes
  pub lies : Lies bytes i
  pub same : tag_of bytes i ≡ name
  pub before : (k : ℕ) → k < i → Lies bytes k → tag_of bytes k ≡ name → ⊥

-- an empty tag at the table's very end, which the crate takes for a bad range
pub record EmptyAtEnd (bytes : List ℕ) (i : ℕ) : Type 0 where
  pub at_end : tag_place bytes i ≡ length bytes
  pub empty : tag_size bytes i ≡ 0

-- an answer is the manual's: just that number. The crate gives up at a bad range (docs/DIFFERENCES.md), so it finds the tag where all up to it lie in the
-- table and none of them is empty at the end
pub record AsManual (bytes name : List ℕ) (answer : Result (Option ℕ) Refusal) : Type 0 where
  pub found : (i : ℕ) → answer ≡ Ok (Some i) → First bytes name i
  pub there : (i : ℕ) → First bytes name i → ((k : ℕ) → k ≤ i → Lies bytes k) → ((k : ℕ) → k ≤ i → EmptyAtEnd bytes k → ⊥) → answer ≡ Ok (Some i)
  pub absent : ((i : ℕ) → First bytes name i → ⊥) → answer ≡ Ok None
