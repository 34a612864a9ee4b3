-- For the code alone; no entry and no promise rests on it, and nobody has to believe it. How large a pair's number is, with which the code shows that
-- it fits where it is put.
use Rattle.answers.specs.declared.Refusal.{Refusal}
use Rattle.tables.specs.declared.lookup.Why.{Why}
use Rattle.std.specs.Prelude.{◌<◌, Result, Ok, Err, ℤ}
use Rattle.std.specs.Int.Signed.{mag}

-- a pair's number is one of 16 bits
abbrev pub IsSmall : Result (Result ℤ Why) Refusal → Type 0
IsSmall (Ok (Ok z)) = mag z < 32768
IsSmall (Ok (Err why)) = Unit {0}
IsSmall (Err why) = Unit {0}
