-- The limits, each named here once for all definitions.
use Rattle.std.specs.Prelude.{ℕ}

-- the most bytes of a table
unfoldable pub table_limit : ℕ
table_limit = 16777216

-- the most places of a line
unfoldable pub room_limit : ℕ
room_limit = 32768

-- the most heads of a run
unfoldable pub head_limit : ℕ
head_limit = 65535
