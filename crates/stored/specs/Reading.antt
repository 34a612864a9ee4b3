-- What bytes say as a record, and which bytes are one.
use Rattle.std.specs.Prelude.{ℕ, ◌+◌, ◌*◌, ◌<◌, ◌≤◌, ◌≡◌, Bool, not, List, ◌++◌, eqb, leb, length, get_or, take, drop}
use Rattle.laws.specs.Lists.{tab, both}
use Rattle.answers.specs.Limits.{room_limit}
use Rattle.parse.specs.Reads.{u8_at, u16_at}
use Rattle.line.specs.Line.{Line, line_of, Legal}
use Rattle.line.specs.Test.{is_legal}
use Rattle.stored.specs.Record.{mark, version_of, size_of}

-- the head's numbers, behind the mark
abbrev pub version_in : List ℕ → ℕ
version_in bytes = u16_at bytes 3

abbrev pub length_in : List ℕ → ℕ
length_in bytes = u16_at bytes 5

abbrev pub characters_in : List ℕ → ℕ
characters_in bytes = u16_at bytes 7

-- glyph and tag of so many places, behind the head
unfoldable pub glyphs_in : List ℕ → (used : ℕ) → List ℕ
glyphs_in bytes used = tab (λ p. u16_at bytes (9 + p * 4)) used

unfoldable pub tags_in : List ℕ → (used : ℕ) → List ℕ
tags_in bytes used = tab (λ p. u16_at bytes (11 + p * 4)) used

-- the homes of so many characters, behind the places
unfoldable pub homes_in : List ℕ → (used characters : ℕ) → List ℕ
homes_in bytes used characters = tab (λ c. u16_at bytes (9 + used * 4 + c * 2)) characters

-- a list of bytes, as every slice of them is
abbrev pub AreBytes : List ℕ → Type 0
AreBytes bytes = (i : ℕ) → get_or bytes i 0 < 256

-- the line that is read, in the room that is lent: what stands behind its length stays
unfoldable pub read_line : (bytes glyphs tags : List ℕ) → Line
read_line bytes glyphs tags =
    line_of
    (glyphs_in bytes (length_in bytes) ++ drop (length_in bytes) glyphs)
    (tags_in bytes (length_in bytes) ++ drop (length_in bytes) tags)
    (homes_in bytes (length_in bytes) (characters_in bytes))
    (length_in bytes)

-- a box knows the versions from 1 to its newest
pub record Known (newest version : ℕ) : Type 0 where
  pub first : 1 ≤ version
  pub last : version ≤ newest

-- the bytes that a box accepts: the mark, a version that it knows and that is the length's own, a length within any room, no byte over or missing,
-- and tags and homes of a line: the tags once each, every home below the length, no more characters than places
pub record Accepted (newest : ℕ) (bytes : List ℕ) : Type 0 where
  pub marked : take 3 bytes ≡ mark
  pub known : Known newest (version_in bytes)
  pub own : version_in bytes ≡ version_of (length_in bytes)
  pub within : length_in bytes ≤ room_limit
  pub whole : length bytes ≡ size_of (length_in bytes) (characters_in bytes)
  pub legal : Legal (tags_in bytes (length_in bytes)) (homes_in bytes (length_in bytes) (characters_in bytes)) (length_in bytes)

-- The same, as it computes.

-- the mark stands at the start
unfoldable pub is_marked : List ℕ → Bool
is_marked bytes = both (eqb (u8_at bytes 0) 0x53) (both (eqb (u8_at bytes 1) 0x4C) (eqb (u8_at bytes 2) 0x4E))

unfoldable pub is_known : (newest version : ℕ) → Bool
is_known newest version = both (leb 1 version) (leb version newest)

-- behind the mark there is a version that the box doesn't know, whatever else is wrong
unfoldable pub is_other : (newest : ℕ) → List ℕ → Bool
is_other newest bytes = both (leb 5 (length bytes)) (both (is_marked bytes) (not (is_known newest (version_in bytes))))

-- a version's own lengths
unfoldable pub is_own : (version used : ℕ) → Bool
is_own version used = both (eqb version (version_of used)) (leb used room_limit)

-- bytes of a version that is known are a record
unfoldable pub is_record : List ℕ → Bool
is_record bytes =
    both (eqb (length bytes) (size_of (length_in bytes) (characters_in bytes)))
    (both (is_marked bytes)
    (both (is_own (version_in bytes) (length_in bytes))
    (is_legal (tags_in bytes (length_in bytes)) (homes_in bytes (length_in bytes) (characters_in bytes)) (length_in bytes))))
