-- Numbers of two's complement, by value.
use Rattle.std.specs.Prelude.{ℕ, ◌-◌, ℤ, pos, negsuc}
use Rattle.laws.specs.Choose.{if_lt}

-- the signed value of a 16-bit number: from 32,768 on it is less by 65,536
unfoldable pub signed16 : ℕ → ℤ
signed16 n = if_lt n 32768 (pos n) (negsuc (65535 - n))
