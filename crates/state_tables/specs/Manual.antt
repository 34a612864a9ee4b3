-- Apple's manual on state tables, extended and classic: the class of a glyph, where a state's row, an entry and its payload lie, and
-- which state an entry leads to. The manual was not at hand: docs/DIFFERENCES.md says what these lines rest on.
use Rattle.std.specs.Prelude.{ℕ, ◌+◌, ◌-◌, ◌*◌, ◌<◌, ◌≤◌, ◌≡◌, List, length, Option, Some}
use Rattle.parse.specs.Reads.{u8_at, u16_at, u32_at}
use Rattle.tables.specs.ManualLookup.{Lies, Spans}
use Rattle.tables.specs.ManualLookup as Lookup
use Rattle.state_tables.specs.States.{extended_at, classic_at}
use Rattle.state_tables.specs.Entries.{entry_of}
use Rattle.state_tables.specs.declared.States.{States}
use Rattle.state_tables.specs.declared.entries.Entry.{Entry}

-- the predefined classes; the font's own come behind them
pub data Predefined : Type 0 where
  end_of_text : Predefined
  out_of_bounds : Predefined
  deleted_glyph : Predefined
  end_of_line : Predefined

abbrev pub class_number : Predefined → ℕ
class_number end_of_text = 0
class_number out_of_bounds = 1
class_number deleted_glyph = 2
class_number end_of_line = 3

-- the class of a glyph, by the classes that the class table gives it: a deleted glyph, 0xFFFF, has its own, and one that the table
-- does not cover is out of bounds
pub data ClassIs (gives : ℕ → Type 0) (glyph : ℕ) : ℕ → Type 0 where
  deleted : glyph ≡ 65535 → ClassIs gives glyph (class_number deleted_glyph)
  covered : {class : ℕ} → (glyph ≡ 65535 → ⊥) → gives class → ClassIs gives glyph class
  uncovered : (glyph ≡ 65535 → ⊥) → ((class : ℕ) → gives class → ⊥) → ClassIs gives glyph (class_number out_of_bounds)

-- the two layouts
pub data Layout : Type 0 where
  extended : Layout
  classic : Layout

-- the head has four numbers, of 32 bits in the extended layout and of 16 in the classic one
abbrev pub head_number : Layout → List ℕ → ℕ → ℕ
head_number extended bytes i = u32_at bytes (i * 4)
head_number classic bytes i = u16_at bytes (i * 2)

abbrev pub class_count : Layout → List ℕ → ℕ
class_count layout bytes = head_number layout bytes 0

abbrev pub class_table : Layout → List ℕ → ℕ
class_table layout bytes = head_number layout bytes 1

abbrev pub state_array : Layout → List ℕ → ℕ
state_array layout bytes = head_number layout bytes 2

abbrev pub entry_table : Layout → List ℕ → ℕ
entry_table layout bytes = head_number layout bytes 3

-- an extended class table is a lookup table of 16-bit values, here one of a layout, in a font of so many glyphs
abbrev pub LookupGives : List ℕ → Lookup.Layout → ℕ → ℕ → ℕ → Type 0
LookupGives table layout glyphs glyph class =
    (place : ℕ) × Lies table glyphs glyph layout place × (place + 2 ≤ length table) × (class ≡ u16_at table place)

-- a classic class table is its first glyph, how many it has, and a byte for each
abbrev pub ArrayGives : List ℕ → ℕ → ℕ → Type 0
ArrayGives table glyph class =
    Spans (u16_at table 0) (u16_at table 2) glyph × (class ≡ u8_at table (4 + (glyph - u16_at table 0)))

-- a state's row has a cell for each class, of two bytes in the extended layout and of one in the classic, and begins where the row
-- before it ends
abbrev pub cell_size : Layout → ℕ
cell_size extended = 2
cell_size classic = 1

abbrev pub row_place : Layout → List ℕ → ℕ → ℕ
row_place layout bytes state = state_array layout bytes + state * (class_count layout bytes * cell_size layout)

abbrev pub cell_place : Layout → List ℕ → ℕ → ℕ → ℕ
cell_place layout bytes state class = row_place layout bytes state + class * cell_size layout

-- a cell holds the number of an entry
abbrev pub cell_number : Layout → List ℕ → ℕ → ℕ
cell_number extended bytes place = u16_at bytes place
cell_number classic bytes place = u8_at bytes place

-- the entry of a state and a class below the class count lies at a place: new state, flags, and so many bytes of payload
pub record EntryLies (layout : Layout) (bytes : List ℕ) (state class payload place : ℕ) : Type 0 where
  pub column : class < class_count layout bytes
  pub cell : cell_place layout bytes state class + cell_size layout ≤ length bytes
  pub numbered : place ≡ entry_table layout bytes + cell_number layout bytes (cell_place layout bytes state class) * (4 + payload)
  pub whole : place + (4 + payload) ≤ length bytes

-- what stands for the new state names a state: by its number, or in the classic layout by the place where its row begins
abbrev pub Names : Layout → List ℕ → ℕ → ℕ → Type 0
Names extended bytes number state = number ≡ state
Names classic bytes number state = number ≡ row_place classic bytes state

-- the crate's head
abbrev pub head_at : Layout → List ℕ → Option States
head_at extended bytes = extended_at bytes
head_at classic bytes = classic_at bytes

-- an entry is the manual's: it lies where that does, leads to the state that is named there, if one is, and has its flags and payload
pub record IsEntry (layout : Layout) (bytes : List ℕ) (state class payload : ℕ) (entry : Entry) : Type 0 where
  pub place : ℕ
  pub lies : EntryLies layout bytes state class payload place
  pub leads : (next : ℕ) → Names layout bytes (u16_at bytes place) next → entry.state ≡ next
  pub flags : entry.flags ≡ u16_at bytes (place + 2)
  pub behind : entry.payload ≡ place + 4

-- of a class below the class count the crate finds the manual's entry, and that wherever it names a state
pub record AsManual (layout : Layout) (bytes : List ℕ) (states : States) (state class payload : ℕ) : Type 0 where
  pub found : (entry : Entry) → class < class_count layout bytes → entry_of bytes states state class payload ≡ Some entry
      → IsEntry layout bytes state class payload entry
  pub there : (place next : ℕ) → EntryLies layout bytes state class payload place → Names layout bytes (u16_at bytes place) next
      → entry_of bytes states state class payload ≡ Some (record { state = next; flags = u16_at bytes (place + 2); payload = place + 4 })
