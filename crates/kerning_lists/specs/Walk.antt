-- The walk of a list: its heads, from the table alone.
use Rattle.std.specs.Prelude.{ℕ, zero, suc, List, [], ◌∷◌, length, take, drop, Option, Some, None}
use Rattle.laws.specs.Choose.{if_lt, if_eq}
use Rattle.parse.specs.Reads.{read_u16, read_u32}
use Rattle.parse.specs.Use.{on_u16, on_u32}
use Rattle.answers.specs.Limits.{head_limit}
use Rattle.answers.specs.declared.Answer.{Answer}
use Rattle.answers.specs.declared.Answer.TheVariants as Answer'
use Rattle.kerning_lists.specs.declared.Subtable.{Subtable}

-- a number of a list's own head, 0 where it can't be read
abbrev pub u16_or_zero : List ℕ → ℕ → ℕ
u16_or_zero bytes at = on_u16 (read_u16 bytes at) (λ n. n) 0

abbrev pub u32_or_zero : List ℕ → ℕ → ℕ
u32_or_zero bytes at = on_u32 (read_u32 bytes at) (λ n. n) 0

-- the bytes of a list that begins at a start; a start of 0 means no table
unfoldable pub list_bytes : List ℕ → (start : ℕ) → List ℕ
list_bytes table start = if_eq start 0 [] (drop start table)

abbrev pub on_head : {A : Type 0} → Option Subtable → (Subtable → A) → A → A
on_head (Some subtable) use-it otherwise = use-it subtable
on_head None use-it otherwise = otherwise

-- the heads of a list: as many as it counts, the first at a place and each other where the one before says; a head that can't be read ends it
unfoldable pub heads_from : (head_at : ℕ → Option Subtable) → (count at : ℕ) → List Subtable
heads_from head_at zero at = []
heads_from head_at (suc left) at = on_head (head_at at) (λ subtable. subtable ∷ heads_from head_at left subtable.next) []

-- those that a run visits: no more than the limit
unfoldable pub visited : List Subtable → List Subtable
visited walk = take head_limit walk

-- LIMIT exactly when as many as the limit are counted and another can be read
unfoldable pub walk_answer : List Subtable → Answer
walk_answer walk = if_lt head_limit (length walk) Answer'.Limit Answer'.Done
