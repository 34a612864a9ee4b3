-- A reel: what is lent for it, taken apart into lines; the REEL test; what a call leaves.
use Rattle.std.specs.Prelude.{ℕ, ◌≤◌, ◌≡◌, Bool, cond, List, leb, eqb, length, get_or}
use Rattle.laws.specs.Lists.{tab, both}
use Rattle.answers.specs.Numbers.{number_of}
use Rattle.answers.specs.declared.Answer.{Answer}
use Rattle.answers.specs.declared.Answer.TheVariants as Answer'
use Rattle.answers.specs.declared.Refusal.TheVariants as Refusal'
use Rattle.line.specs.Line.{Line, line_of}
use Rattle.line.specs.Changes.{apply_all}
use Rattle.morx.specs.Run.{Ran}
use Rattle.reel.specs.Parts.{total, adds_up, part_of, laid}

-- what is lent: for each line its room, how many characters it has, its used length, and the numbers for its answer and its heads; then glyphs, tags and
-- homes of all lines, one line's behind the other's
pub record Reel : Type 0 where
  pub rooms : List ℕ
  pub characters : List ℕ
  pub used : List ℕ
  pub answers : List ℕ
  pub heads : List ℕ
  pub glyphs : List ℕ
  pub tags : List ℕ
  pub homes : List ℕ

abbrev pub reel_of : (rooms characters used answers heads glyphs tags homes : List ℕ) → Reel
reel_of rooms characters used answers heads glyphs tags homes =
    record { rooms = rooms; characters = characters; used = used; answers = answers; heads = heads; glyphs = glyphs; tags = tags; homes = homes }

-- how many lines it has
abbrev pub lines_of : Reel → ℕ
lines_of r = length r.rooms

-- the most lines
unfoldable pub line_limit : ℕ
line_limit = 256

-- what REEL does not refuse: no more lines than that, a number of each kind for each line, rooms that add up to the glyphs and to the tags, characters
-- that add up to the homes
pub record Lent (r : Reel) : Type 0 where
  pub few : lines_of r ≤ line_limit
  pub all-characters : length r.characters ≡ lines_of r
  pub all-used : length r.used ≡ lines_of r
  pub all-answers : length r.answers ≡ lines_of r
  pub all-heads : length r.heads ≡ lines_of r
  pub whole-glyphs : total r.rooms ≡ length r.glyphs
  pub whole-tags : total r.rooms ≡ length r.tags
  pub whole-homes : total r.characters ≡ length r.homes

-- the same as a test: proofs/Exact.antt shows that it decides `Lent`
unfoldable pub is_lent : Reel → Bool
is_lent r =
    both (leb (lines_of r) line_limit)
    (both (eqb (length r.characters) (lines_of r))
    (both (eqb (length r.used) (lines_of r))
    (both (eqb (length r.answers) (lines_of r))
    (both (eqb (length r.heads) (lines_of r))
    (both (adds_up r.rooms (length r.glyphs))
    (both (adds_up r.rooms (length r.tags))
    (adds_up r.characters (length r.homes))))))))

-- a line as it is lent in a reel: beside the line itself the numbers for its answer and its heads
pub record Part : Type 0 where
  pub line : Line
  pub answer : ℕ
  pub heads : ℕ

-- the reel taken apart: line k
unfoldable pub parts_of : Reel → (k : ℕ) → Part
parts_of r k =
    record {
      line = line_of (part_of r.rooms k r.glyphs) (part_of r.rooms k r.tags) (part_of r.characters k r.homes) (get_or r.used k 0);
      answer = get_or r.answers k 0;
      heads = get_or r.heads k 0;
    }

-- lines joined again, as many as there are rooms
unfoldable pub joined : (rooms characters : List ℕ) → (ℕ → Part) → Reel
joined rooms characters parts =
    record {
      rooms = rooms;
      characters = characters;
      used = tab (λ k. (parts k).line.used) (length rooms);
      answers = tab (λ k. (parts k).answer) (length rooms);
      heads = tab (λ k. (parts k).heads) (length rooms);
      glyphs = laid (λ k. (parts k).line.glyphs) (length rooms);
      tags = laid (λ k. (parts k).line.tags) (length rooms);
      homes = laid (λ k. (parts k).line.homes) (length rooms);
    }

-- the number for a line's heads behind a run: a refused one leaves it
abbrev pub heads_behind : Answer → (was heads : ℕ) → ℕ
heads_behind (Answer'.Refused why) was heads = was
heads_behind Answer'.Done was heads = heads
heads_behind Answer'.Nothing was heads = heads
heads_behind Answer'.Full was heads = heads
heads_behind Answer'.Ended was heads = heads
heads_behind Answer'.Limit was heads = heads

-- what a run of the line by itself leaves, its answer and heads written where they are lent
unfoldable pub ran_part : (Line → Ran) → Part → Part
ran_part run p =
    record {
      line = apply_all (run p.line).changes p.line;
      answer = number_of (run p.line).answer;
      heads = heads_behind (run p.line).answer p.heads (run p.line).heads;
    }

-- a call answers REEL, before every other test, or DONE; every other answer is a line's own
unfoldable pub reel_answer : Reel → Answer
reel_answer r = cond (is_lent r) Answer'.Done (Answer'.Refused Refusal'.Reel)

-- and leaves every line as a run of it by itself does; a refused call leaves everything as it was
unfoldable pub reel_leaves : (Line → Ran) → Reel → Reel
reel_leaves run r = cond (is_lent r) (joined r.rooms r.characters (λ k. ran_part run (parts_of r k))) r
