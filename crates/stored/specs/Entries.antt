-- What the entries that store and read a line answer and leave.
use Rattle.stored.specs.declared.Lengths.{Lengths}
use Rattle.answers.specs.declared.Refusal.{Refusal}
use Rattle.std.specs.Prelude.{ℕ, not, List, [], ◌∷◌, ◌++◌, ltb, eqb, length, drop, Result, Ok, Err}
use Rattle.answers.specs.Limits.{room_limit}
use Rattle.answers.specs.Refuse.{Test, refuse, table_test}
use Rattle.answers.specs.declared.Answer.{Answer}
use Rattle.line.specs.Line.{Line}
use Rattle.line.specs.Test.{line_test}
use Rattle.stored.specs.Record.{record_of}
use Rattle.stored.specs.Reading.{length_in, characters_in, read_line, is_other, is_record}

-- LINE: a line that a pass would refuse, then a buffer too small for its record
unfoldable pub store_tests : Line → (buffer : List ℕ) → List Test
store_tests l buffer =
    line_test l
    ∷ record { holds = ltb (length buffer) (length (record_of l)); refusal = Refusal.Line }
    ∷ []

-- the reply of `store_line`, and the buffer that it was lent
pub record StoreLeft : Type 0 where
  pub reply : Result ℕ Refusal
  pub buffer : List ℕ

-- refused: all as it was; passed: the record at the buffer's start, and what is behind it as it was
unfoldable pub store_by : Result Unit Refusal → Line → (buffer : List ℕ) → StoreLeft
store_by (Ok tt) l buffer =
    record { reply = Ok (length (record_of l)); buffer = record_of l ++ drop (length (record_of l)) buffer }
store_by (Err why) l buffer = record { reply = Err why; buffer = buffer }

unfoldable pub store_call : Line → (buffer : List ℕ) → StoreLeft
store_call l buffer = store_by (refuse (store_tests l buffer)) l buffer

-- the answer of a reply, and the number lent for the size afterwards
abbrev pub store_answer : Result ℕ Refusal → Answer
store_answer (Ok size) = Answer.Done
store_answer (Err why) = Answer.Refused why

abbrev pub store_size : Result ℕ Refusal → (was : ℕ) → ℕ
store_size (Ok size) was = size
store_size (Err why) was = was

-- the newest version that the entry knows
unfoldable pub newest_version : ℕ
newest_version = 2

-- LINE, for the room that is lent: glyphs and tags of different length, above the largest room, below the line's length, or homes below its characters
unfoldable pub room_tests : (bytes glyphs tags homes : List ℕ) → List Test
room_tests bytes glyphs tags homes =
    record { holds = not (eqb (length tags) (length glyphs)); refusal = Refusal.Line }
    ∷ record { holds = ltb room_limit (length glyphs); refusal = Refusal.Line }
    ∷ record { holds = ltb (length glyphs) (length_in bytes); refusal = Refusal.Line }
    ∷ record { holds = ltb (length homes) (characters_in bytes); refusal = Refusal.Line }
    ∷ []

-- TABLE, VERSION and RECORD, in this order, before tests that follow
unfoldable pub record_tests : (newest : ℕ) → (bytes : List ℕ) → List Test → List Test
record_tests newest bytes rest =
    table_test (length bytes)
    ∷ record { holds = is_other newest bytes; refusal = Refusal.Version }
    ∷ record { holds = not (is_record bytes); refusal = Refusal.Record }
    ∷ rest

unfoldable pub read_tests : (newest : ℕ) → (bytes glyphs tags homes : List ℕ) → List Test
read_tests newest bytes glyphs tags homes = record_tests newest bytes (room_tests bytes glyphs tags homes)

-- the reply of `read_line`, and the slices that it was lent
pub record ReadLeft : Type 0 where
  pub reply : Result Lengths Refusal
  pub glyphs : List ℕ
  pub tags : List ℕ
  pub homes : List ℕ

-- refused: all as it was; passed: the line that is read, and what is behind it as it was
unfoldable pub read_by : Result Unit Refusal → (bytes glyphs tags homes : List ℕ) → ReadLeft
read_by (Ok tt) bytes glyphs tags homes =
    let l : Line = read_line bytes glyphs tags in
    record {
      reply = Ok (record { used = l.used; characters = characters_in bytes });
      glyphs = l.glyphs;
      tags = l.tags;
      homes = l.homes ++ drop (characters_in bytes) homes;
    }
read_by (Err why) bytes glyphs tags homes = record { reply = Err why; glyphs = glyphs; tags = tags; homes = homes }

-- a box that knows the versions to the newest
unfoldable pub read_call : (newest : ℕ) → (bytes glyphs tags homes : List ℕ) → ReadLeft
read_call newest bytes glyphs tags homes = read_by (refuse (read_tests newest bytes glyphs tags homes)) bytes glyphs tags homes

-- the answer of a reply, and the numbers lent for the used length and the characters afterwards
abbrev pub read_answer : Result Lengths Refusal → Answer
read_answer (Ok lengths) = Answer.Done
read_answer (Err why) = Answer.Refused why

abbrev pub read_used : Result Lengths Refusal → (was : ℕ) → ℕ
read_used (Ok lengths) was = lengths.used
read_used (Err why) was = was

abbrev pub read_characters : Result Lengths Refusal → (was : ℕ) → ℕ
read_characters (Ok lengths) was = lengths.characters
read_characters (Err why) was = was
