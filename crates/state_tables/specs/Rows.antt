-- For the code alone; no entry and no promise rests on it, and nobody has to believe it. A state of a classic table by its row: by the number of the
-- row's first cell, which an entry tells by a byte offset.
use Rattle.std.specs.Prelude.{ℕ, ◌+◌, ◌-◌, ◌*◌, ◌/◌, Bool, true, false, List, Option, Some, None}
use Rattle.laws.specs.Choose.{if_lt, if_eq}
use Rattle.parse.specs.Use.{on_u16}
use Rattle.state_tables.specs.Entries.{on_entry, read_narrow, entry_at}
use Rattle.state_tables.specs.declared.Edition.{Edition}
use Rattle.state_tables.specs.declared.Edition.TheVariants.{Extended, Classic}
use Rattle.state_tables.specs.declared.States.{States}
use Rattle.state_tables.specs.declared.entries.Entry.{Entry}
use Rattle.state_tables.specs.declared.entries.Reached.{Reached}

abbrev pub is_classic : Edition → Bool
is_classic (Extended table reading) = false
is_classic (Classic place first count) = true

-- the row that an entry leads to, where each row has so many cells
unfoldable pub row_of : Entry → (array classes : ℕ) → Option Reached
row_of entry array classes =
    if_lt entry.state array None
    (if_eq classes 0 None (Some (record { row = (entry.state - array) / classes * classes; flags = entry.flags })))

-- the entry of a row and a class, without payload
unfoldable pub reached_in : List ℕ → States → (row class : ℕ) → Option Reached
reached_in bytes states row class =
    on_u16 (read_narrow bytes (states.array + (row + class)))
    (λ number. on_entry (entry_at bytes (states.entries + number * 4) 0) (λ entry. row_of entry states.array states.classes) None)
    None

-- what a state and a class give, by rows
unfoldable pub reached_by : (classes : ℕ) → Option Entry → Option Reached
reached_by classes (Some entry) = Some (record { row = entry.state * classes; flags = entry.flags })
reached_by classes None = None
