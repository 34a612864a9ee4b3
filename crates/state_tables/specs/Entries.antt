-- The entry of a state and a class, as the crate finds it.
use Rattle.std.specs.Prelude.{ℕ, ◌+◌, ◌-◌, ◌*◌, ◌/◌, cond, List, Option, Some, None}
use Rattle.laws.specs.Choose.{if_lt, if_eq}
use Rattle.parse.specs.Reads.{inside, u16_at, read_u8, read_u16}
use Rattle.parse.specs.Use.{on_u16}
use Rattle.state_tables.specs.declared.Edition.{Edition}
use Rattle.state_tables.specs.declared.Edition.TheVariants.{Extended, Classic}
use Rattle.state_tables.specs.declared.States.{States}
use Rattle.state_tables.specs.declared.entries.Entry.{Entry}

-- what is made of an entry, or else
abbrev pub on_entry : {A : Type 0} → Option Entry → (Entry → A) → A → A
on_entry (Some entry) use-it otherwise = use-it entry
on_entry None use-it otherwise = otherwise

-- a byte as a 16-bit number
abbrev pub widened : Option ℕ → Option ℕ
widened (Some number) = Some number
widened None = None

unfoldable pub read_narrow : List ℕ → ℕ → Option ℕ
read_narrow bytes at = widened (read_u8 bytes at)

-- a cell of the state array holds the number of an entry: 16 bits in an extended table, a byte in a classic one
unfoldable pub number_in : List ℕ → Edition → ℕ → ℕ → Option ℕ
number_in bytes (Extended table reading) array cell = read_u16 bytes (array + cell * 2)
number_in bytes (Classic place first count) array cell = read_narrow bytes (array + cell)

-- a row of cells for each state, one for each class
unfoldable pub entry_number : List ℕ → States → ℕ → ℕ → Option ℕ
entry_number bytes states state class = number_in bytes states.edition states.array (state * states.classes + class)

-- an entry is new state and flags, 16 bits each, and its payload; all of it lies in the table
unfoldable pub entry_at : List ℕ → ℕ → ℕ → Option Entry
entry_at bytes place payload =
    cond (inside bytes place (4 + payload))
    (Some (record { state = u16_at bytes place; flags = u16_at bytes (place + 2); payload = place + 4 }))
    None

-- the new state of a classic entry is a byte offset, less the state array, divided by the class count; class count 0 gives ENDED
unfoldable pub by_row : Entry → ℕ → ℕ → Option Entry
by_row entry array classes =
    if_lt entry.state array None
    (if_eq classes 0 None
    (Some (record { state = (entry.state - array) / classes; flags = entry.flags; payload = entry.payload })))

-- the new state of an extended entry is its number
unfoldable pub resolved_in : Edition → Entry → ℕ → ℕ → Option Entry
resolved_in (Extended table reading) entry array classes = Some entry
resolved_in (Classic place first count) entry array classes = by_row entry array classes

unfoldable pub resolved : States → Entry → Option Entry
resolved states entry = resolved_in states.edition entry states.array states.classes

-- the entry of a state and a class, where each entry has so many bytes of payload
unfoldable pub entry_of : List ℕ → States → ℕ → ℕ → ℕ → Option Entry
entry_of bytes states state class payload =
    on_u16 (entry_number bytes states state class)
    (λ number. on_entry (entry_at bytes (states.entries + number * (4 + payload)) payload) (λ entry. resolved states entry) None)
    None
