-- Demand 3: from a fresh line, or one that was read, through any sequence of substitution passes, every typed character belongs to exactly one place, the one that the
-- history of edits gives; the length is the characters typed plus the glyphs inserted, and never exceeds the room.
use Rattle.std.specs.Prelude.{ℕ, ◌<◌, ◌≡◌, List, [], map, ◌++◌, length, take, drop, get_or, false, Ok, Err}
use Rattle.answers.specs.Refuse.{refuse}
use Rattle.answers.specs.declared.Refusal.TheVariants as Refusal
use Rattle.line.specs.Line.{Line, Valid, Belongs, line_of, OnceEach}
use Rattle.line.specs.Changes.{Change, apply_all, history_of}
use Rattle.line.specs.Entries.{fresh_of, fresh_tests}
use Rattle.line.specs.History.{FromLine, FromFresh, Fits, Honest, left_by, history_by}
use Rattle.line.specs.Known as Known
use Rattle.stored.specs.Record.{record_of, size_of}
use Rattle.stored.specs.Reading.{AreBytes, version_in, read_line, Accepted}
use Rattle.stored.specs.Entries.{newest_version, record_tests, read_tests, read_call}
use Rattle.stored.specs.Known as Records
use Rattle.morx.specs.Sequence.{Call, leaves, makes}
use Rattle.morx.specs.Memory.{in_memory}
use Rattle.line.specs.Test.{Decides}
use Rattle.morx.specs.declared.Choices.{Choices}
use Rattle.reel.specs.Reel.{Reel, Lent, is_lent, lines_of, parts_of, ran_part}
use Rattle.reel.specs.Runs.{run_line, run_lines}
use Rattle.reel.specs.Morx.{run_by, table_leaves}
use Rattle.reel.specs.Through.{Step, steps_leave, calls_of}

-- Stored lines: each legal line has one record, and what is accepted as a record writes back to the same bytes
pub record Stored : Type 0 where
  -- the record of a legal line is accepted, and gives that line back in any room
  pub read_record : (l : Line) → Valid l → (glyphs tags : List ℕ)
      → Accepted newest_version (record_of l)
      × (read_line (record_of l) glyphs tags
      ≡ line_of (take l.used l.glyphs ++ drop l.used glyphs) (take l.used l.tags ++ drop l.used tags) l.homes l.used)
  -- bytes that a box accepts, whatever its newest version, are the record of the line that they give, in any room
  pub record_read : (bytes : List ℕ) → AreBytes bytes → {newest : ℕ} → Accepted newest bytes → (glyphs tags : List ℕ)
      → record_of (read_line bytes glyphs tags) ≡ bytes
  -- none of TABLE, VERSION and RECORD is given exactly when the bytes are those that are to be accepted
  pub accepted_exact : (newest : ℕ) (bytes : List ℕ)
      → (refuse (record_tests newest bytes []) ≡ Ok tt → Accepted newest bytes) × (Accepted newest bytes → refuse (record_tests newest bytes []) ≡ (Ok tt))
  -- how many bytes a record has
  pub record_size : (glyphs tags homes : List ℕ) (used : ℕ) → length (record_of (line_of glyphs tags homes used)) ≡ size_of used (length homes)
  -- a line that was read is valid
  pub read_valid : (newest : ℕ) (bytes glyphs tags homes : List ℕ) → refuse (read_tests newest bytes glyphs tags homes) ≡ Ok tt
      → Valid (read_line bytes glyphs tags)
  -- a box that knows version 1 alone answers VERSION to every record of version 2, and writes nothing
  pub older_refuses : (bytes glyphs tags homes : List ℕ) → Accepted newest_version bytes → version_in bytes ≡ 2
      → read_call 1 bytes glyphs tags homes ≡ record { reply = Err Refusal.Version; glyphs = glyphs; tags = tags; homes = homes }
  -- bytes of version 1 it reads as the newest box does, whatever they are
  pub older_alike : (bytes glyphs tags homes : List ℕ) → version_in bytes ≡ 1
      → read_call 1 bytes glyphs tags homes ≡ read_call newest_version bytes glyphs tags homes
  -- known records by computation: of document 01's shaped example, and of an empty line
  pub known_records : (record_of Records.shaped ≡ Records.shaped_record) × (record_of Records.empty ≡ Records.empty_record)

-- Reels: a reel is its lines' runs, each by itself, and demand 3 holds of each line
pub record Reels : Type 0 where
  -- REEL is given exactly when it should be
  pub lent_exact : (r : Reel) → Decides (Lent r) (is_lent r)
  -- and leaves everything that was lent
  pub reel_refused : (table : List ℕ) (start : ℕ) (choices : Choices) (requests : List ℕ) (r : Reel) → is_lent r ≡ false
      → table_leaves table start choices requests r ≡ r
  -- answers and every slice after a reel are those of calls on each line alone, in any order that has each line once
  pub reel_is_runs : (table : List ℕ) (start : ℕ) (choices : Choices) (requests : List ℕ) (r : Reel) → Lent r → (order : List ℕ)
      → OnceEach order (lines_of r)
      → run_lines (run_by table start choices requests) (λ j. get_or order j 0) (lines_of r) r ≡ table_leaves table start choices requests r
  -- what a reel leaves of a line is what the run of that line alone leaves, whatever the others are
  pub reel-leaves_others : (table : List ℕ) (start : ℕ) (choices : Choices) (requests : List ℕ) (r : Reel) → Lent r → (k : ℕ) → k < lines_of r
      → parts_of (table_leaves table start choices requests r) k ≡ ran_part (run_by table start choices requests) (parts_of r k)
  -- and a call on one line leaves the others as they are
  pub neighbours_stay : (table : List ℕ) (start : ℕ) (choices : Choices) (requests : List ℕ) (r : Reel) → Lent r → (k : ℕ) → k < lines_of r → (j : ℕ)
      → (j ≡ k → ⊥) → parts_of (run_line (run_by table start choices requests) k r) j ≡ parts_of r j
  -- through any sequence of reels by any tables, any calls on one line, and whatever is done to the others, that line is what its calls leave of it: a
  -- reel counts as its run
  pub line_through : (r : Reel) (k : ℕ) → k < lines_of r → Lent r → (steps : List (Step r k)) → Valid (parts_of r k).line
      → (parts_of (steps_leave r k steps r) k).line ≡ left_by leaves makes (calls_of r k steps) (parts_of r k).line
  -- so demand 3 holds of each line: from any valid one
  pub reel-demand3 : (r : Reel) (k : ℕ) → k < lines_of r → Lent r → (steps : List (Step r k)) → Valid (parts_of r k).line
      → FromLine (parts_of r k).line (history_by leaves makes (calls_of r k steps) (parts_of r k).line) (parts_of (steps_leave r k steps r) k).line
  -- from a fresh one
  pub reel-fresh-demand3 : (r : Reel) (k : ℕ) → k < lines_of r → Lent r → (steps : List (Step r k)) → (glyphs tags homes : List ℕ)
      → refuse (fresh_tests glyphs tags homes) ≡ Ok tt → (parts_of r k).line ≡ fresh_of glyphs tags homes
      → FromFresh (length glyphs) (length homes)
      (history_by leaves makes (calls_of r k steps) (fresh_of glyphs tags homes)) (parts_of (steps_leave r k steps r) k).line
  -- and from one just read
  pub reel_read_demand3 : (r : Reel) (k : ℕ) → k < lines_of r → Lent r → (steps : List (Step r k)) → (bytes glyphs tags homes : List ℕ)
      → refuse (read_tests newest_version bytes glyphs tags homes) ≡ Ok tt → (parts_of r k).line ≡ read_line bytes glyphs tags
      → FromLine (read_line bytes glyphs tags)
      (history_by leaves makes (calls_of r k steps) (read_line bytes glyphs tags)) (parts_of (steps_leave r k steps r) k).line

pub record Demand3 : Type 0 where
  -- Demand 3 itself: from a fresh line, over any sequence of lone verbs, passes of every kind, steps that write the line and whole runs with any
  -- requests, of morx and of mort in any mixture, refused and cut-short ones included, on any tables
  pub fresh-demand3 : (glyphs tags homes : List ℕ) → refuse (fresh_tests glyphs tags homes) ≡ Ok tt → (calls : List Call)
      → FromFresh (length glyphs) (length homes)
      (history_by leaves makes calls (fresh_of glyphs tags homes)) (left_by leaves makes calls (fresh_of glyphs tags homes))
  -- the same from any valid line, each character starting where it is found
  pub demand3 : (calls : List Call) (l : Line) → Valid l → FromLine l (history_by leaves makes calls l) (left_by leaves makes calls l)
  -- from a line just read, in any room: its homes are the start of the history, and its length stands for the characters typed
  pub read_demand3 : (bytes glyphs tags homes : List ℕ) → refuse (read_tests newest_version bytes glyphs tags homes) ≡ Ok tt → (calls : List Call)
      → FromLine (read_line bytes glyphs tags)
      (history_by leaves makes calls (read_line bytes glyphs tags)) (left_by leaves makes calls (read_line bytes glyphs tags))
  -- a line that is taken as fresh is valid
  pub fresh-valid : (glyphs tags homes : List ℕ) → refuse (fresh_tests glyphs tags homes) ≡ Ok tt → Valid (fresh_of glyphs tags homes)
  -- and each of its characters starts at its own place
  pub fresh_starts : (glyphs tags homes : List ℕ) → refuse (fresh_tests glyphs tags homes) ≡ Ok tt → (c : ℕ)
      → c < length (fresh_of glyphs tags homes).homes → Belongs (fresh_of glyphs tags homes) c c
  -- on a valid line every call leaves what the changes that it states make of it, and these never exceed the room
  pub calls_honest : Honest leaves makes
  -- the line that a call leaves is what stands in the caller's memory: the slices lent to be written as the entry's contract says, the others as they were
  pub in_memory_lem : (call : Call) (l : Line) → in_memory call l ≡ leaves call l
  -- any legal list of changes keeps demand 3, whoever makes it
  pub over-changes : (changes : List Change) (l : Line) → Valid l → Fits changes l → FromLine l (history_of changes) (apply_all changes l)
  -- known cases by computation: a place pushed twice, a component twice, the ligature's own place among its components, and places off the line
  pub known_edits : map Known.computed Known.cases ≡ map Known.said Known.cases
  -- stored lines
  pub stored : Stored
  -- reels: each line by itself
  pub reels : Reels
