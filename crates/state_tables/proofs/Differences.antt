-- Where the crate and the manual part: what the crate does there, and what it gives at the smallest tables.
use Rattle.std.specs.Prelude.{Option, Some, None}
use Rattle.state_tables.specs.declared.entries.Entry.{Entry}
use Prim.Native.Nat.{ℕ, ◌+◌, ◌*◌, ◌/◌, ◌%◌}
use mathlib.Core.Path.{◌≡◌, refl}
use mathlib.Core.List.{List, [], ◌∷◌}
use native.Mathlib.Omega.{arith}
use Rattle.parse.specs.Reads.{inside, read_u8, read_u16, read_u32}
use Rattle.state_tables.specs.States.{extended_by, extended_at, classic_at}
use Rattle.state_tables.specs.Entries.{read_narrow, number_in, entry_number, entry_at, by_row, resolved_in, resolved, entry_of}
use Rattle.state_tables.specs.declared.States.{States}
use Rattle.state_tables.proofs.Heads.{extended_states, classic_states}

-- a class at or above the class count is read in a later row
pub class_beyond : (bytes : List ℕ) (states : States) (state class payload : ℕ)
    → entry_of bytes states state (class + states.classes) payload ≡ entry_of bytes states (state + 1) class payload
unfolding entry_of entry_number
class_beyond bytes states state class payload =
    let cell : state * states.classes + (class + states.classes) ≡ (state + 1) * states.classes + class = omega arith in
    rw cell

-- a table by its 16-bit words
abbrev pub words : List ℕ → List ℕ
words [] = []
words (w ∷ ws) = w / 256 ∷ w % 256 ∷ words ws

-- the head can be read, and state 0 and a class give an entry without payload, or none
abbrev pub Gives : List ℕ → Option States → ℕ → Option Entry → Type 0
Gives bytes made class entered = (states : States) × (made ≡ Some states) × (entry_of bytes states 0 class 0 ≡ entered)

-- two classes: the entry of state 0 and class 2, that of a deleted glyph, is the one of state 1 and class 0
abbrev pub two_classes : List ℕ
two_classes = words (0 ∷ 0x0002 ∷ 0 ∷ 0 ∷ 0 ∷ 0x0010 ∷ 0 ∷ 0x0016 ∷ 0 ∷ 0 ∷ 0x0001 ∷ 0 ∷ 0 ∷ 0 ∷ 0x8000 ∷ [])

pub reads_on : Gives two_classes (extended_at two_classes) 2 (Some (record { state = 0; flags = 0x8000; payload = 30 }))
unfolding entry_of entry_number number_in entry_at resolved resolved_in extended_at extended_by read_u32 read_u16 inside
reads_on = (extended_states two_classes, refl, refl)

-- a new state between two rows is the row before it: of rows of two cells from 1 on, at 2
abbrev pub between_rows : List ℕ
between_rows = words (0x0002 ∷ 0 ∷ 0x0001 ∷ 0 ∷ [])

pub rounds_down : Gives between_rows (classic_at between_rows) 1 (Some (record { state = 0; flags = 0; payload = 4 }))
unfolding entry_of entry_number number_in read_narrow entry_at by_row resolved resolved_in classic_at read_u16 read_u8 inside
rounds_down = (classic_states between_rows, refl, refl)

-- a state before the state array gives nothing: of rows from 4 on, at 2
abbrev pub before_array : List ℕ
before_array = words (0x0002 ∷ 0 ∷ 0x0004 ∷ 0 ∷ [])

pub ends-before : Gives before_array (classic_at before_array) 0 None
unfolding entry_of entry_number number_in read_narrow entry_at by_row resolved resolved_in classic_at read_u16 read_u8 inside
ends-before = (classic_states before_array, refl, refl)

-- and so does an entry where there are no classes, where the crate panics
abbrev pub no_classes : List ℕ
no_classes = words (0 ∷ 0 ∷ 0 ∷ 0 ∷ [])

pub ends_without : Gives no_classes (classic_at no_classes) 0 None
unfolding entry_of entry_number number_in read_narrow entry_at by_row resolved resolved_in classic_at read_u16 read_u8 inside
ends_without = (classic_states no_classes, refl, refl)

-- a class array of no glyphs at the very end is no class array
abbrev pub empty_at_end : List ℕ
empty_at_end = words (0x0001 ∷ 0x0004 ∷ 0 ∷ 0 ∷ [])

pub no_head : classic_at empty_at_end ≡ None
unfolding classic_at read_u16 inside
no_head = refl
