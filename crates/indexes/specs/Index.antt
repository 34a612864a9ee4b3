-- An index kept beside a class table: a class for each glyph below its length.
use Rattle.std.specs.Prelude.{ℕ, ◌+◌, Bool, true, false, not, List, [], ◌∷◌, ltb, eqb, length, get_or, drop, Option, Some, None, Result, Ok, Err}
use Rattle.laws.specs.Choose.{if_lt}
use Rattle.laws.specs.Lists.{either, tab}
use Rattle.answers.specs.Refuse.{Test, refuse, table_test}
use Rattle.answers.specs.declared.Answer.{Answer}
use Rattle.answers.specs.declared.Answer.TheVariants as Answer'
use Rattle.answers.specs.declared.Refusal.{Refusal}
use Rattle.answers.specs.declared.Refusal.TheVariants as Refusal'
use Rattle.parse.specs.Reads.{read_u32}
use Rattle.parse.specs.Use.{on_u32}
use Rattle.tables.specs.declared.units.Reading.{Reading}
use Rattle.state_tables.specs.Classes.{class_of, head_test}
use Rattle.state_tables.specs.States.{extended_by}
use Rattle.state_tables.specs.declared.States.{States}
use Rattle.machine.specs.Machine.{Machine}

-- the classes by an index: its number for a glyph below its length, and otherwise the class that the glyph has
unfoldable pub classes_by : (index : List ℕ) → (classes : ℕ → ℕ) → (glyph : ℕ) → ℕ
classes_by index classes glyph = if_lt glyph (length index) (get_or index glyph 0) (classes glyph)

-- a machine that goes by them
abbrev pub indexed : {S : Type 0} → (index : List ℕ) → Machine S → Machine S
indexed index machine =
    record {
      opened = machine.opened;
      fresh = machine.fresh;
      step = λ classes bytes states. machine.step (classes_by index classes) bytes states;
      rest = machine.rest;
      state_tests = machine.state_tests;
    }

-- an index ends at glyph 65,534 at the latest, so that 0xFFFF keeps its own class
unfoldable pub index_limit : ℕ
index_limit = 65535

-- INDEX: more entries than that, or an index of another class table
unfoldable pub index_test : (entries : ℕ) → (another : Bool) → Test
index_test entries another = record { holds = either (ltb index_limit entries) another; refusal = Refusal'.Index }

-- whether an index whose class table begins at `class_start` is another's than the subtable's at `start`: that subtable has none, or it begins elsewhere. The
-- state table, whose second number is the class table's place in it, lies behind a head of 12 bytes
unfoldable pub is_another : (has_classes : Bool) → (body : List ℕ) → (start class_start : ℕ) → Bool
is_another false body start class_start = true
is_another true body start class_start = on_u32 (read_u32 body 4) (λ offset. not (eqb class_start (start + 12 + offset))) true

-- what a filled index holds: the class of each glyph below its length
unfoldable pub classes_below : List ℕ → States → (entries : ℕ) → List ℕ
classes_below bytes states entries = tab (class_of bytes states) entries

-- what filling answers, and leaves in the index and in the number for the class table's start
pub record Filled : Type 0 where
  pub answer : Answer
  pub index : List ℕ
  pub start : ℕ

abbrev pub refused_fill : (index : List ℕ) → (was : ℕ) → Refusal → Filled
refused_fill index was why = record { answer = Answer'.Refused why; index = index; start = was }

-- by the state table at `start`; without a head the call is refused before, so that HEAD here is never reached
unfoldable pub filled_by : List ℕ → (start : ℕ) → Option States → (index : List ℕ) → (was : ℕ) → Filled
filled_by bytes start (Some states) index was =
    on_u32 (read_u32 bytes 4)
    (λ offset. record { answer = Answer'.Done; index = classes_below bytes states (length index); start = start + offset })
    (refused_fill index was Refusal'.Head)
filled_by bytes start None index was = refused_fill index was Refusal'.Head

abbrev pub unless_refused : Result Unit Refusal → (index : List ℕ) → (was : ℕ) → Filled → Filled
unless_refused (Ok tt) index was filled = filled
unless_refused (Err why) index was filled = refused_fill index was why

-- TABLE, HEAD, INDEX
unfoldable pub fill_tests : (table_length start entries : ℕ) → Option States → List Test
fill_tests table_length start entries made = table_test table_length ∷ head_test table_length start made ∷ index_test entries false ∷ []

-- a call that fills an index by the extended state table at `start`, in a reading
unfoldable pub fill_call : List ℕ → (start : ℕ) → Reading → (index : List ℕ) → (was : ℕ) → Filled
fill_call table start reading index was =
    let bytes : List ℕ = drop start table in
    let made : (Option States) = extended_by reading bytes in
    unless_refused (refuse (fill_tests (length table) start (length index) made)) index was (filled_by bytes start made index was)
