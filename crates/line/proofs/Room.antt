-- What the proofs use of the room's limit: it is small, and the LINE test has a bit for each tag below it.
use Prim.Native.Nat.{ℕ, ◌*◌, ◌≤◌}
use native.Mathlib.Omega.{arith}
use Rattle.answers.specs.Limits.{room_limit}

pub room_small : room_limit ≤ 65535
unfolding room_limit
room_small = omega arith

-- how many words of 64 bits that takes
abbrev pub words : ℕ
words = 512

pub room_words : room_limit ≤ words * 64
unfolding room_limit
room_words = omega arith
