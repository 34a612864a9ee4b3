-- The crate's `language_index`, over the bytes from the table's own start on.
use Rattle.std.specs.Prelude.{ℕ, zero, suc, ◌+◌, ◌*◌, Bool, cond, List, [], ◌∷◌, length, take, drop, Option, Some, None, Result, Ok}
use Rattle.std.specs.Str.{bytes_eq}
use Rattle.answers.specs.declared.Refusal.{Refusal}
use Rattle.answers.specs.Refuse.{refuse, table_test, checked}
use Rattle.parse.specs.Reads.{inside, read_u16, read_u32}
use Rattle.parse.specs.Use.{on_u16, on_u32}

-- two names have the same bytes
abbrev pub equal : List ℕ → List ℕ → Bool
equal = bytes_eq

-- whether tag i is the name, or nothing where its range is bad: its range is at 12, four bytes to each, an offset from the table's start and a size
unfoldable pub look_at : List ℕ → List ℕ → ℕ → Option Bool
look_at bytes name i =
    on_u16 (read_u16 bytes (12 + i * 4))
    (λ offset. on_u16 (read_u16 bytes (12 + i * 4 + 2))
    (λ size. cond (inside bytes offset size) (Some (equal (take size (drop offset bytes)) name)) None)
    None) None

-- from number i on, as many as told: the first that is the name, or nothing where a range is bad
unfoldable pub seek : (ℕ → Option Bool) → ℕ → ℕ → Option ℕ
seek look zero i = None
seek look (suc left) i =
    elim (look i) [
      | Some same ↦ cond same (Some i) (seek look left (suc i))
      | None ↦ None
    ]

unfoldable pub sought : List ℕ → List ℕ → ℕ → Option ℕ
sought bytes name count = seek (look_at bytes name) count 0

-- the number of tags is at 8
unfoldable pub index_of : List ℕ → List ℕ → Option ℕ
index_of bytes name = on_u32 (read_u32 bytes 8) (λ count. sought bytes name count) None

unfoldable pub language_index : List ℕ → ℕ → List ℕ → Result (Option ℕ) Refusal
language_index table start name = checked (refuse (table_test (length table) ∷ [])) (Ok (index_of (drop start table) name))
