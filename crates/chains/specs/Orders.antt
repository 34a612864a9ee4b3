-- What a subtable's coverage says: its kind, the order in which it wants the glyphs, and whether it is for vertical text alone.
use Rattle.std.specs.Prelude.{ℕ, ◌%◌, Bool, true, false, not, cond}
use Rattle.laws.specs.Bits.{is_set}
use Rattle.chains.specs.declared.Edition.{Edition}
use Rattle.chains.specs.declared.Edition.TheVariants.{Morx, Mort}
use Rattle.chains.specs.declared.Order.{Order}
use Rattle.chains.specs.declared.Order.TheVariants.{Layout, ReverseLayout, Logical, ReverseLogical}

-- the number of its kind is the low byte, in mort the low three bits
unfoldable pub kind_number : Edition → ℕ → ℕ
kind_number Morx coverage = coverage % 256
kind_number Mort coverage = coverage % 8

-- by 0x10000000, the order of characters instead of layout, and 0x40000000, descending
abbrev pub order_by : (logical descending : Bool) → Order
order_by false false = Layout
order_by false true = ReverseLayout
order_by true false = Logical
order_by true true = ReverseLogical

unfoldable pub order_of : ℕ → Order
order_of coverage = order_by (is_set coverage 0x10000000) (is_set coverage 0x40000000)

-- mort has 0x4000, descending, and no order of characters: 0x1000 is not looked at
unfoldable pub old_order : ℕ → Order
old_order coverage = cond (is_set coverage 0x4000) ReverseLayout Layout

unfoldable pub order_in : Edition → ℕ → Order
order_in Morx coverage = order_of coverage
order_in Mort coverage = old_order coverage

-- an order, as a number
abbrev pub order_number : Order → ℕ
order_number Layout = 0
order_number ReverseLayout = 1
order_number Logical = 2
order_number ReverseLogical = 3

-- the crate's `should_reverse`: whether a line of this direction is turned for that order
abbrev pub is_reversed : Order → (right_to_left : Bool) → Bool
is_reversed Layout right_to_left = right_to_left
is_reversed ReverseLayout right_to_left = not right_to_left
is_reversed Logical right_to_left = false
is_reversed ReverseLogical right_to_left = true

-- vertical-only: 0x80000000 without 0x20000000, in mort 0x8000 without 0x2000
unfoldable pub is_vertical : Edition → ℕ → Bool
is_vertical Morx coverage = cond (is_set coverage 0x20000000) false (is_set coverage 0x80000000)
is_vertical Mort coverage = cond (is_set coverage 0x2000) false (is_set coverage 0x8000)
