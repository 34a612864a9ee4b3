-- One statement about walking a list of numbers, for any place of its numbers and any end rule: which numbers pop a place off the stack, what they add, what is
-- left of the stack, and when the step ends. kern's lists, and kerx's in either reading, are its instances.
use Rattle.std.specs.Prelude.{ℕ, zero, suc, ◌+◌, ◌-◌, ◌<◌, ◌≤◌, ◌≡◌, true, false, List, [], ◌++◌, ℤ, pos, length, get_or}
use Rattle.parse.specs.Reads.{u16_at}
use Rattle.kerning.specs.Additions.{Addition, additions_at}
use Rattle.kerning.specs.Lists.{Walk, leaves, on_number}
use Rattle.kerning.specs.declared.lists.Number.{Number}
use Rattle.kerning.specs.declared.lists.Number.TheVariants.{Stop, Last, More}

-- the place that number k pops is k below the top
abbrev pub popped_place : (stack : List ℕ) → (depth k : ℕ) → ℕ
popped_place stack depth k = get_or stack (depth - suc k) 0

module _ (bytes : List ℕ) (place_of : (k : ℕ) → ℕ) (rule : (number : ℕ) → Number) where
  -- number k lies in the table
  abbrev pub IsThere : (k : ℕ) → Type 0
  IsThere k = place_of k + 2 ≤ length bytes

  -- what the end rule makes of it
  abbrev pub made_of : (k : ℕ) → Number
  made_of k = rule (u16_at bytes (place_of k))

  -- what it adds
  abbrev pub amount_at : (k : ℕ) → ℤ
  amount_at k = on_number (made_of k) (pos 0) (pos 0) (λ amount. amount) (λ amount. amount)

  -- the first `count` numbers are there and let the list go on
  pub record GoesOn (count : ℕ) : Type 0 where
    pub there : (k : ℕ) → k < count → IsThere k
    pub more : (k : ℕ) → k < count → made_of k ≡ More (amount_at k)

  module _ (stack : List ℕ) (depth used : ℕ) where
    -- what the first `count` numbers add, each to the place that it pops, the one pushed last first
    unfoldable pub list_adds : (count : ℕ) → List Addition
    list_adds zero = []
    list_adds (suc k) = list_adds k ++ additions_at used (popped_place stack depth k) (amount_at k)

    -- how the list ends behind the first `count` numbers: all places were popped; the next number can't be read, which ends the step; it stops the list, popping
    -- nothing, so that the rest of the stack stays; or it is the last that pops a place, and the rest of the stack is dropped
    pub data Ends (count : ℕ) (w : Walk) : Type 0 where
      empty : count ≡ depth → w ≡ leaves false 0 (list_adds count) → Ends count w
      short : count < depth → (IsThere count → ⊥) → w ≡ leaves true (depth - count) (list_adds count) → Ends count w
      stop : count < depth → IsThere count → made_of count ≡ Stop → w ≡ leaves false (depth - count) (list_adds count) → Ends count w
      last : count < depth → IsThere count → made_of count ≡ Last (amount_at count) → w ≡ leaves false 0 (list_adds (suc count)) → Ends count w

    -- a walk of the list: some numbers go on, and then it ends
    pub record Walks (w : Walk) : Type 0 where
      pub count : ℕ
      pub goes : GoesOn count
      pub ends : Ends count w
