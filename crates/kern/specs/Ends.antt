-- For the code alone; no entry and no promise rests on it, and nobody has to believe it. Where a table ends there is no head.
use mathlib.Core.Path.{◌≡◌, refl}
use mathlib.Core.Bool.{Bool, true, false, cond}
use mathlib.Core.List.{[]}
use Prim.Native.Nat.{ℕ}
use lib.Dec.{eqb}
use Rattle.std.specs.Prelude.{Option, None}
use Rattle.parse.specs.Reads.{inside, read_u16, read_u32}
use Rattle.kerning_lists.specs.declared.Subtable.{Subtable}
use Rattle.kern.specs.Heads.{head_in}

either_way : (t : Bool) (head : Option Subtable) → cond t head head ≡ head
either_way true head = refl
either_way false head = refl

pub no_head : (rtl : Bool) (version at : ℕ) → head_in version at [] ≡ None
unfolding head_in read_u16 read_u32 inside
no_head rtl version at = either_way (eqb version 0) None
