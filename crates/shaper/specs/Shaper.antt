-- The shaper: what its input says, the line it starts with, and what it answers and leaves.
use Rattle.answers.specs.declared.Refusal.{Refusal}
use Rattle.std.specs.Prelude.{ℕ, ◌+◌, ◌-◌, ◌*◌, ◌/◌, false, List, [], ◌++◌, length, take, drop, Result, Ok, Err}
use Rattle.laws.specs.Choose.{if_lt, if_eq}
use Rattle.answers.specs.declared.Answer.TheVariants as Answer'
use Rattle.answers.specs.declared.Refusal.TheVariants as Refusal'
use Rattle.parse.specs.Reads.{read_u16, read_u32}
use Rattle.parse.specs.Use.{on_u16, on_u32}
use Rattle.line.specs.Line.{Line}
use Rattle.line.specs.Changes.{glyphs_of}
use Rattle.line.specs.Entries.{fresh_of}
use Rattle.chains.specs.declared.Edition.TheVariants.{Morx}
use Rattle.morx.specs.Run.{Ran}
use Rattle.morx.specs.Calls.{run_call, run_leaves}
use Rattle.morx.specs.declared.Choices.{Choices}
use Rattle.shaper.specs.declared.Shaped.{Shaped}

-- the most bytes of the shaper's table
unfoldable pub shaper_table : ℕ
shaper_table = 32768

-- the shaper's room
unfoldable pub shaper_room : ℕ
shaper_room = 4096

-- behind the table's end a 16-bit glyph count, then the glyphs, no byte more or less, and no more glyphs than room (else LINE)
abbrev pub line_in : List ℕ → (end : ℕ) → Result ℕ Refusal
line_in input end =
    on_u16 (read_u16 input end)
    (λ count.
    if_lt shaper_room count (Err Refusal'.Line)
    (if_eq (length input) (end + 2 + count * 2) (Ok end) (Err Refusal'.Line)))
    (Err Refusal'.Line)

-- a 32-bit table length (above the limit: TABLE, whatever follows), then the table and the line
unfoldable pub input_of : List ℕ → Result ℕ Refusal
input_of input =
    on_u32 (read_u32 input 0)
    (λ size. if_lt shaper_table size (Err Refusal'.Table) (line_in input (4 + size)))
    (Err Refusal'.Line)

-- left to right, by a morx table
abbrev pub left_to_right : Choices
left_to_right = record { right_to_left = false; edition = Morx }

-- the fresh line of as many characters as there are homes, whose glyphs are those of the bytes `new`; the rest of the room is as it was
unfoldable pub start_line : (new glyphs tags homes : List ℕ) → Line
start_line new glyphs tags homes = fresh_of (glyphs_of new ++ drop (length new / 2) glyphs) tags homes

-- what the shaper answers, and the room that it was lent
pub record Left : Type 0 where
  pub reply : Shaped
  pub glyphs : List ℕ
  pub tags : List ℕ
  pub homes : List ℕ

-- an input whose table ends at `end`: the table stands behind its length and the glyphs behind their count; the run over their fresh line, asked for no feature,
-- in the room that is lent. The homes behind the characters are as they were
unfoldable pub shaped_in : (input : List ℕ) → (end : ℕ) → (glyphs tags homes : List ℕ) → Left
shaped_in input end glyphs tags homes =
    let table : List ℕ = take (end - 4) (drop 4 input) in
    let new : List ℕ = drop (end + 2) input in
    let characters : ℕ = length new / 2 in
    let start : Line = start_line new glyphs tags (take characters homes) in
    let ran : Ran = run_call table 0 left_to_right start [] in
    let after : Line = run_leaves table 0 left_to_right start [] in
    record {
      reply = record { answer = ran.answer; heads = ran.heads; used = after.used; characters = characters };
      glyphs = after.glyphs;
      tags = after.tags;
      homes = after.homes ++ drop characters homes;
    }

-- an input that is refused leaves the room as it was
unfoldable pub shaped_by : Result ℕ Refusal → (input glyphs tags homes : List ℕ) → Left
shaped_by (Err why) input glyphs tags homes =
    record {
      reply = record { answer = Answer'.Refused why; heads = 0; used = 0; characters = 0 };
      glyphs = glyphs;
      tags = tags;
      homes = homes;
    }
shaped_by (Ok end) input glyphs tags homes = shaped_in input end glyphs tags homes

-- the shaper, lent room for the line
unfoldable pub shaped : (input glyphs tags homes : List ℕ) → Left
shaped input glyphs tags homes = shaped_by (input_of input) input glyphs tags homes
