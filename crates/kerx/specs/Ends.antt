-- For the code alone; no entry and no promise rests on it, and nobody has to believe it. Where a table ends there is no head.
use mathlib.Core.Path.{◌≡◌, refl}
use mathlib.Core.Bool.{Bool}
use mathlib.Core.List.{[]}
use Prim.Native.Nat.{ℕ}
use Rattle.std.specs.Prelude.{None}
use Rattle.parse.specs.Reads.{inside, read_u32}
use Rattle.kerx.specs.Heads.{head_in}

pub no_head : (rtl : Bool) (version at : ℕ) → head_in rtl version at [] ≡ None
unfolding head_in read_u32 inside
no_head rtl version at = refl
