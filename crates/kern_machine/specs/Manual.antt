-- kern format 1's lists of numbers, as Apple's manual has them, and what the crate's reading of them is. The manual was not at hand: docs/DIFFERENCES.md
-- says what these lines rest on.
use Rattle.std.specs.Prelude.{ℕ, zero, suc, ◌+◌, ◌*◌, ◌-◌, ◌%◌, ◌<◌, ◌≤◌, ◌≡◌, Bool, false, cond, List, [], ◌++◌, eqb, ℤ, pos, length, get_or}
use Rattle.laws.specs.Lists.{both}
use Rattle.laws.specs.Signed.{signed16}
use Rattle.parse.specs.Reads.{u16_at}
use Rattle.kerning.specs.Additions.{Addition, additions_at}
use Rattle.kerning.specs.Lists.{Walk, leaves}
use Rattle.kerning_machine.specs.Machine.{kern_start, walked_from}
use Rattle.kerning_machine.specs.declared.Reading.TheVariants.{Kern}

-- a list begins at a byte offset from the state table on, and its numbers, of 16 bits, follow one another
abbrev pub number_place : (list k : ℕ) → ℕ
number_place list k = list + k * 2

-- an odd number is the last of its list
abbrev pub IsLast : List ℕ → (place : ℕ) → Type 0
IsLast bytes place = u16_at bytes place % 2 ≡ 1

-- a number's lowest bit is taken as 0
abbrev pub even_at : List ℕ → (place : ℕ) → ℕ
even_at bytes place = u16_at bytes place - u16_at bytes place % 2

-- what it adds: in a subtable across the stream 0x8000 puts the stream back, and adds nothing
abbrev pub amount_at : List ℕ → (crossed : Bool) → (place : ℕ) → ℤ
amount_at bytes crossed place = cond (both crossed (eqb (even_at bytes place) 0x8000)) (pos 0) (signed16 (even_at bytes place))

-- The whole list of an entry. Its place is in the flags but the highest two; 0 is none
abbrev pub list_place : (flags : ℕ) → ℕ
list_place flags = flags % 0x4000

-- each number pops a place off the stack, the one pushed last first, up to an odd number or until the stack is empty: so many numbers do, all of them
-- in the table
pub record Pops (bytes : List ℕ) (list depth count : ℕ) : Type 0 where
  pub deep : count ≤ depth
  pub inside : (k : ℕ) → k < count → number_place list k + 2 ≤ length bytes
  pub goes_on : (k : ℕ) → suc k < count → IsLast bytes (number_place list k) → ⊥
  pub ends : count < depth → (k : ℕ) × (count ≡ suc k) × IsLast bytes (number_place list k)

-- the place that number k pops is k below the top
abbrev pub popped_place : (stack : List ℕ) → (depth k : ℕ) → ℕ
popped_place stack depth k = get_or stack (depth - suc k) 0

-- what so many numbers add, each to the place that it pops
unfoldable pub list_adds : List ℕ → (crossed : Bool) → (list : ℕ) → (stack : List ℕ) → (depth used count : ℕ) → List Addition
list_adds bytes crossed list stack depth used zero = []
list_adds bytes crossed list stack depth used (suc k) =
    list_adds bytes crossed list stack depth used k ++ additions_at used (popped_place stack depth k) (amount_at bytes crossed (number_place list k))

-- what the crate's machine makes of an entry's list, in a subtable along the stream or across it
abbrev pub listed : List ℕ → (crossed : Bool) → (flags : ℕ) → (stack : List ℕ) → (depth used : ℕ) → Walk
listed bytes crossed flags stack depth used = walked_from bytes (Kern crossed) (kern_start flags) stack depth used

-- it adds just what the manual's list does, and the step ends early exactly when a number that is to pop a place does not lie in the table. Behind a
-- list the crate drops what is left of the stack, which the manual doesn't
pub record WholeList (bytes : List ℕ) (crossed : Bool) (flags : ℕ) (stack : List ℕ) (depth used : ℕ) : Type 0 where
  pub none : list_place flags ≡ 0 → listed bytes crossed flags stack depth used ≡ leaves false depth []
  pub there : 0 < list_place flags → (count : ℕ) → Pops bytes (list_place flags) depth count
      → listed bytes crossed flags stack depth used ≡ leaves false 0 (list_adds bytes crossed (list_place flags) stack depth used count)
  pub found : 0 < list_place flags → (listed bytes crossed flags stack depth used).left.ended ≡ false
      → (count : ℕ) × Pops bytes (list_place flags) depth count
