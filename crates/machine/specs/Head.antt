-- The head of a morx subtable, over the bytes from its own start on.
use Rattle.std.specs.Prelude.{ℕ, ◌%◌, Bool, List, eqb, drop}
use Rattle.laws.specs.Lists.{both}
use Rattle.parse.specs.Reads.{inside, u32_at}

-- its 12 bytes, of which the kind is one: length, coverage and flags, of 32 bits each; the kind is the coverage's low byte
unfoldable pub has_kind : List ℕ → ℕ → Bool
has_kind bytes kind = both (inside bytes 0 12) (eqb (u32_at bytes 4 % 256) kind)

-- what stands behind the head
abbrev pub body_of : List ℕ → List ℕ
body_of bytes = drop 12 bytes
