-- A list of numbers that are popped off a stack of places: one definition for kern and for kerx, by where the first number lies, how far
-- the others are apart, and the rule by which the list ends.
use Rattle.std.specs.Prelude.{ℕ, zero, suc, ◌+◌, ◌-◌, ◌%◌, Bool, true, false, cond, List, [], ◌++◌, eqb, ℤ, pos, get_or}
use Rattle.laws.specs.Choose.{if_eq}
use Rattle.laws.specs.Lists.{both}
use Rattle.laws.specs.Signed.{signed16}
use Rattle.parse.specs.Reads.{read_u16}
use Rattle.parse.specs.Use.{on_u16}
use Rattle.kerning.specs.Additions.{Addition, additions_at}
use Rattle.kerning.specs.declared.lists.Rule.{Rule}
use Rattle.kerning.specs.declared.lists.Rule.TheVariants.{Odd, Never, Marked}
use Rattle.kerning.specs.declared.lists.Number.{Number}
use Rattle.kerning.specs.declared.lists.Number.TheVariants.{Short, Stop, Last, More}
use Rattle.kerning.specs.declared.lists.Walked.{Walked}

-- kern: in a cross-stream subtable 0x8000 puts the stream back and adds nothing
unfoldable pub amount_of : (crossed : Bool) → ℕ → ℤ
amount_of crossed number = cond (both crossed (eqb number 0x8000)) (pos 0) (signed16 number)

-- the end rules. kern: an odd number is the last, its lowest bit cleared. kerx, as the crate has it: the test for 0xFFFF never holds, so that
-- -1 is added and the list runs on. kerx in the manual's reading: 0xFFFF ends the list, and pops nothing (docs/DIFFERENCES.md, row 26)
unfoldable pub ruled : Rule → ℕ → Number
ruled (Odd crossed) number = if_eq (number % 2) 1 (Last (amount_of crossed (number - 1))) (More (amount_of crossed number))
ruled Never number = More (signed16 number)
ruled Marked number = if_eq number 0xFFFF Stop (More (signed16 number))

-- the number at a place
unfoldable pub number_at : List ℕ → Rule → ℕ → Number
number_at bytes rule place = on_u16 (read_u16 bytes place) (ruled rule) Short

-- how a list was left, and its additions
pub record Walk : Type 0 where
  pub left : Walked
  pub additions : List Addition

abbrev pub leaves : (ended : Bool) → (depth : ℕ) → List Addition → Walk
leaves ended depth additions = record { left = record { ended = ended; depth = depth }; additions = additions }

-- additions made before
abbrev pub before : List Addition → Walk → Walk
before done rest = record { left = rest.left; additions = done ++ rest.additions }

abbrev pub on_number : {A : Type 0} → Number → (short stop : A) → (last more : ℤ → A) → A
on_number Short short stop last more = short
on_number Stop short stop last more = stop
on_number (Last amount) short stop last more = last amount
on_number (More amount) short stop last more = more amount

module _ (bytes : List ℕ) (rule : Rule) (stride : ℕ) (stack : List ℕ) (used : ℕ) where
  -- a number is added to the place on top of the stack, which it pops. One that can't be read ends the step; one that stops the list leaves the
  -- stack; behind the last the rest of the stack is dropped; and the list ends where the stack is empty
  unfoldable pub walk : (depth place : ℕ) → Walk
  walk zero place = leaves false 0 []
  walk (suc depth) place =
      on_number (number_at bytes rule place)
      (leaves true (suc depth) [])
      (leaves false (suc depth) [])
      (λ amount. leaves false 0 (additions_at used (get_or stack depth 0) amount))
      (λ amount. before (additions_at used (get_or stack depth 0) amount) (walk depth (place + stride)))
