-- How large an action's offset is.
use Prim.Native.Nat.{ℕ, ◌%◌, ◌<◌}
use mathlib.Core.Path.{◌≡◌, refl}
use mathlib.Core.Bool.{Bool, true, false, cond}
use native.Mathlib.Omega.{arith}
use lib.Dec.{ltb}
use lib.IntN.{pos, ◌-ℤ◌}
use lib.Signed.{mag}
use borrow.Author.Tests.{lt-ltb, ltb-true, ltb-false}
use Rattle.ligature.specs.Actions.{offset_of}

pub offset_size : (action : ℕ) → mag (offset_of action) < 0x20000000
unfolding offset_of
offset_size action = go (action % 0x40000000) (omega arith) (ltb (action % 0x40000000) 0x20000000) refl
  where
    go : (n : ℕ) → n < 0x40000000 → (t : Bool) → ltb n 0x20000000 ≡ t → mag (cond t (pos n) (pos n -ℤ pos 0x40000000)) < 0x20000000
    go n h true e = ltb-true n 0x20000000 e
    go n h false e = let k = ltb-false n 0x20000000 e in rw (lt-ltb n 0x40000000 h) (omega arith)
