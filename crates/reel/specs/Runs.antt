-- The lines of a reel run one by one, each by a call of its own that is lent that line's part alone, in any order.
use Rattle.std.specs.Prelude.{ℕ, zero, suc, ◌≡◌, length, get_or, set}
use Rattle.line.specs.Line.{Line}
use Rattle.morx.specs.Run.{Ran}
use Rattle.reel.specs.Parts.{with_part}
use Rattle.reel.specs.Reel.{Reel, Part, parts_of, ran_part}

-- a line that fills the part of line k
pub record Fills (r : Reel) (k : ℕ) (l : Line) : Type 0 where
  pub glyphs : length l.glyphs ≡ get_or r.rooms k 0
  pub tags : length l.tags ≡ get_or r.rooms k 0
  pub homes : length l.homes ≡ get_or r.characters k 0

-- the reel with another line k
unfoldable pub with_line : Reel → (k : ℕ) → Part → Reel
with_line r k p =
    record {
      rooms = r.rooms;
      characters = r.characters;
      used = set r.used k p.line.used;
      answers = set r.answers k p.answer;
      heads = set r.heads k p.heads;
      glyphs = with_part r.rooms k r.glyphs p.line.glyphs;
      tags = with_part r.rooms k r.tags p.line.tags;
      homes = with_part r.characters k r.homes p.line.homes;
    }

-- a call on line k, which is lent its part
unfoldable pub run_line : (Line → Ran) → (k : ℕ) → Reel → Reel
run_line run k r = with_line r k (ran_part run (parts_of r k))

-- the first n calls, of which call j is on line `order j`
unfoldable pub run_lines : (Line → Ran) → (order : ℕ → ℕ) → (n : ℕ) → Reel → Reel
run_lines run order zero r = r
run_lines run order (suc n) r = run_line run (order n) (run_lines run order n r)
