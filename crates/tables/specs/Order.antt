-- Records in order, as the manual asks: what the survey is to say, and what a search may then rely on.
use Rattle.std.specs.Prelude.{ℕ, suc, ◌+◌, ◌<◌, ◌≤◌, ◌≡◌, List, length}
use Rattle.parse.specs.Reads.{u16_at}
use Rattle.tables.specs.Records.{stride_of, record_place, first_at, last_at}
use Rattle.tables.specs.declared.records.Kind.{Kind}
use Rattle.tables.specs.declared.records.Kind.TheVariants.{Ranges, Arrays, Singles}
use Rattle.tables.specs.declared.records.Spot.{Spot}
use Rattle.tables.specs.declared.records.Spot.TheVariants.{At, Absent, Cut}
use Rattle.tables.specs.declared.survey.Surveyed.{Surveyed}
use Rattle.tables.specs.declared.survey.Surveyed.TheVariants.{Sorted, Bad, UnitSize, NoRecords, Nothing}

-- the first and last glyph of record i
abbrev pub first_of : List ℕ → Kind → ℕ → ℕ
first_of bytes kind i = first_at bytes kind (record_place 12 kind i)

abbrev pub last_of : List ℕ → Kind → ℕ → ℕ
last_of bytes kind i = last_at bytes (record_place 12 kind i)

-- record i lies wholly in the table, has first at most last, and the last of the record before it is below its first
pub record Good (bytes : List ℕ) (kind : Kind) (i : ℕ) : Type 0 where
  pub whole : record_place 12 kind i + stride_of kind ≤ length bytes
  pub upward : first_of bytes kind i ≤ last_of bytes kind i
  pub behind : (j : ℕ) → suc j ≡ i → last_of bytes kind j < first_of bytes kind i

-- all of so many records are in order
abbrev pub InOrder : List ℕ → Kind → ℕ → Type 0
InOrder bytes kind count = (i : ℕ) → i < count → Good bytes kind i

-- record i is the first of them that is not
pub record FirstBad (bytes : List ℕ) (kind : Kind) (count i : ℕ) : Type 0 where
  pub counted : i < count
  pub bad : Good bytes kind i → ⊥
  pub before : (j : ℕ) → j < i → Good bytes kind j

-- the unit size that a survey passes, by document 02: 6 in formats 2 and 4, 4 in format 6
abbrev pub passed_size : Kind → ℕ
passed_size Ranges = 6
passed_size Arrays = 6
passed_size Singles = 4

-- what each answer of a survey says of a table with records of a kind, the unit size at 2 and the count at 4
abbrev pub Says : List ℕ → Kind → Surveyed → Type 0
Says bytes kind Sorted = (u16_at bytes 2 ≡ passed_size kind) × InOrder bytes kind (u16_at bytes 4)
Says bytes kind (Bad i) = (u16_at bytes 2 ≡ passed_size kind) × FirstBad bytes kind (u16_at bytes 4) i
Says bytes kind (UnitSize n) = (u16_at bytes 2 ≡ n) × (n ≡ passed_size kind → ⊥)
Says bytes kind NoRecords = ⊥
Says bytes kind Nothing = ⊥

-- one of so many records, the i-th, holds a key; of each is told the first and the last that it holds
pub record Holds (first last : ℕ → ℕ) (count key i : ℕ) : Type 0 where
  pub counted : i < count
  pub above : first i ≤ key
  pub below : key ≤ last i

-- what a search is to find: the one record that holds the key, or that there is none
abbrev pub TheOne : (first last : ℕ → ℕ) → ℕ → ℕ → Spot → Type 0
TheOne first last count key (At i) = Holds first last count key i × ((j : ℕ) → Holds first last count key j → j ≡ i)
TheOne first last count key Absent = (j : ℕ) → Holds first last count key j → ⊥
TheOne first last count key Cut = ⊥
