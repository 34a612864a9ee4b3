-- A part of a lent slice: what its borrower leaves there, seen from the whole.
use Prim.Native.Nat.{ℕ, ◌-◌}
use mathlib.Core.Path.{◌≡◌, ◌∙◌, ap}
use mathlib.Core.List.{List, ◌++◌, append-nil}
use native.Mathlib.Omega.{arith}
use lib.ListN.{length, take, drop, length-drop, drop_of_length-le}
use lib.Seq.{take_all}
use borrow.Rule.Slice.PartMut.{mid_of, put_mid}

-- the part from a to the end is what is left after the first a
pub part_is : {A : Type 0} (a : ℕ) (xs : List A) → mid_of a (length xs - a) xs ≡ drop a xs
part_is a xs = take_all (length xs - a) (drop a xs) (omega (arith, length-drop a xs))

-- nothing stands behind it, so the whole is the first a and what the borrower left
pub part_put : {A : Type 0} (a : ℕ) (xs ys : List A) → put_mid a (length xs - a) xs ys ≡ take a xs ++ ys
part_put a xs ys =
    ap (λ (z : List _). take a xs ++ (ys ++ z)) (drop_of_length-le (drop a xs) {i = length xs - a} (omega (arith, length-drop a xs)))
    ∙ ap (λ (z : List _). take a xs ++ z) (append-nil ys)
