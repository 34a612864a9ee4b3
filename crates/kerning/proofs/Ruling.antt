-- The numbers of a list: how large they are, and where they lie.
use Rattle.std.specs.Prelude.{Option, Some, None}
use Prim.Native.Nat.{ℕ, ◌+◌, ◌-◌, ◌%◌, ◌≤◌}
use mathlib.Core.Path.{◌≡◌, refl}
use mathlib.Core.Bool.{Bool, true, false, cond}
use mathlib.Core.List.{List}
use native.Mathlib.Omega.{arith}
use lib.Dec.{eqb}
use lib.IntN.{ℤ, pos}
use lib.ListN.{length}
use mir.Syntax.{w16}
use mir.Val.{SFits}
use Rattle.laws.specs.Lists.{both}
use Rattle.laws.specs.Signed.{signed16}
use Rattle.laws.proofs.Signed.{signed16-size}
use Rattle.parse.specs.Reads.{read_u16}
use Rattle.parse.proofs.Laws.{u16_value}
use Rattle.kerning.specs.Lists.{amount_of, ruled, number_at}
use Rattle.kerning.specs.declared.lists.Rule.{Rule}
use Rattle.kerning.specs.declared.lists.Rule.TheVariants.{Odd, Never, Marked}
use Rattle.kerning.specs.declared.lists.Number.{Number}
use Rattle.kerning.specs.declared.lists.Number.TheVariants.{Short, Stop, Last, More}

signed16-fits : (n : ℕ) → SFits w16 (signed16 n)
signed16-fits n = record { sfits = signed16-size n }

amount_fits : (crossed : Bool) (n : ℕ) → SFits w16 (amount_of crossed n)
unfolding amount_of
amount_fits crossed n = go (both crossed (eqb n 0x8000))
  where
    go : (t : Bool) → SFits w16 (cond t (pos 0) (signed16 n))
    go true = record { sfits = omega arith }
    go false = signed16-fits n

-- a number that is added is one of 16 bits
pub data Sized : Number → Type 0 where
  short : Sized Short
  stop : Sized Stop
  last : {z : ℤ} → SFits w16 z → Sized (Last z)
  more : {z : ℤ} → SFits w16 z → Sized (More z)

ruled-sized : (rule : Rule) (n : ℕ) → Sized (ruled rule n)
unfolding ruled
ruled-sized (Odd crossed) n = go (eqb (n % 2) 1)
  where
    go : (t : Bool) → Sized (cond t (Last (amount_of crossed (n - 1))) (More (amount_of crossed n)))
    go true = last (amount_fits crossed (n - 1))
    go false = more (amount_fits crossed n)
ruled-sized Never n = more (signed16-fits n)
ruled-sized Marked n = go (eqb n 0xFFFF)
  where
    go : (t : Bool) → Sized (cond t Stop (More (signed16 n)))
    go true = stop
    go false = more (signed16-fits n)

pub number-sized : (bytes : List ℕ) (rule : Rule) (place : ℕ) → Sized (number_at bytes rule place)
unfolding number_at
number-sized bytes rule place = go (read_u16 bytes place) refl
  where
    go : (r : Option ℕ) → read_u16 bytes place ≡ r → Sized (number_at bytes rule place)
    go (Some n) e = rw (e, number_at) (ruled-sized rule n)
    go None e = rw (e, number_at) short

-- a number that could be read lies in the table
pub number-inside : (bytes : List ℕ) (rule : Rule) (place : ℕ) {z : ℤ} → number_at bytes rule place ≡ More z → place + 2 ≤ length bytes
unfolding number_at
number-inside bytes rule place {z} f = go (read_u16 bytes place) refl
  where
    go : (r : Option ℕ) → read_u16 bytes place ≡ r → place + 2 ≤ length bytes
    go (Some n) e = (u16_value bytes place e).0
    go None e = let g : number_at bytes rule place ≡ Short = rw (e, number_at) in absurd cc
