-- An action of a ligature subtable, as the crate reads it. The bytes are those from the state table on: the numbers at 16, 20 and 24 are
-- where its actions, its components and its ligatures begin.
use Rattle.std.specs.Prelude.{ℕ, ◌+◌, ◌*◌, ◌%◌, Bool, cond, List, ℤ, pos, negsuc, ◌+ℤ◌, ◌-ℤ◌, Option, Some, None}
use Rattle.laws.specs.Choose.{if_lt, if_eq}
use Rattle.laws.specs.Lists.{either}
use Rattle.parse.specs.Reads.{read_u16, read_u32}
use Rattle.parse.specs.Use.{on_u16, on_u32}
use Rattle.laws.specs.Bits.{is_set}
use Rattle.ligature.specs.declared.actions.Action.{Action}
use Rattle.ligature.specs.declared.actions.Action.TheVariants.{Adds, Makes}

-- an action's offset is its low 30 bits, signed: from 2^29 on they are less by 2^30
unfoldable pub offset_of : ℕ → ℤ
offset_of action =
    if_lt (action % 0x40000000) 0x20000000 (pos (action % 0x40000000)) (pos (action % 0x40000000) -ℤ pos 0x40000000)

-- a component's number is the glyph plus the offset; below 0 there is none
abbrev pub numbered : ℤ → Option ℕ
numbered (pos number) = Some number
numbered (negsuc below) = None

unfoldable pub component_of : (glyph : ℕ) → ℤ → Option ℕ
component_of glyph offset = numbered (pos glyph +ℤ offset)

abbrev pub on_component : {A : Type 0} → Option ℕ → (ℕ → A) → A → A
on_component (Some number) use-it otherwise = use-it number
on_component None use-it otherwise = otherwise

-- an action of 32 bits
unfoldable pub read_action : List ℕ → (number : ℕ) → Option ℕ
read_action bytes number = on_u32 (read_u32 bytes 16) (λ list. read_u32 bytes (list + number * 4)) None

-- a number of 16 bits in the list that begins where the number at `head` says
unfoldable pub read_number : List ℕ → (head number : ℕ) → Option ℕ
read_number bytes head number = on_u32 (read_u32 bytes head) (λ list. read_u16 bytes (list + number * 2)) None

-- flag 0x80000000, last, and flag 0x40000000, store, make a ligature: the one whose number is the sum; any other action only adds
abbrev pub stores : ℕ → Bool
stores action = either (is_set action 0x80000000) (is_set action 0x40000000)

unfoldable pub made_by : List ℕ → (action sum : ℕ) → Option Action
made_by bytes action sum =
    cond (stores action)
    (on_u16 (read_number bytes 24 sum) (λ ligature. Some (Makes sum ligature (is_set action 0x80000000))) None)
    (Some (Adds sum))

-- what an action does with a glyph of the stack and the sum so far, to which its component is added. Action number 65,535, a negative
-- component number and what can't be read end the step
unfoldable pub action_of : List ℕ → (number glyph sum : ℕ) → Option Action
action_of bytes number glyph sum =
    if_eq number 0xFFFF None
    (on_u32 (read_action bytes number)
    (λ action. on_component (component_of glyph (offset_of action))
    (λ component. on_u16 (read_number bytes 20 component)
    (λ adds. made_by bytes action (sum + adds))
    None) None) None)
