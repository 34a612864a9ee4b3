-- The record of a line: the bytes that it is stored as.
use Rattle.std.specs.Prelude.{ℕ, zero, suc, ◌+◌, ◌*◌, ◌/◌, ◌%◌, List, [], ◌∷◌, ◌++◌, length, get_or}
use Rattle.laws.specs.Choose.{if_lt}
use Rattle.line.specs.Line.{Line}

-- the mark that a record begins with: SLN
abbrev pub mark : List ℕ
mark = 0x53 ∷ 0x4C ∷ 0x4E ∷ []

-- the longest line of version 1
unfoldable pub longest1 : ℕ
longest1 = 4096

-- the version of a line's record: 2 for a longer one, with the same fields
unfoldable pub version_of : (used : ℕ) → ℕ
version_of used = if_lt longest1 used 2 1

-- a 16-bit number, big-endian
abbrev pub word : ℕ → List ℕ
word n = n / 256 ∷ n % 256 ∷ []

-- the lists f 0, f 1, .., f (n - 1), one behind the other
unfoldable pub joined : (ℕ → List ℕ) → ℕ → List ℕ
joined f zero = []
joined f (suc n) = joined f n ++ f n

-- glyph and tag of a place
abbrev pub place_bytes : (glyphs tags : List ℕ) → ℕ → List ℕ
place_bytes glyphs tags p = word (get_or glyphs p 0) ++ word (get_or tags p 0)

-- the home of a character
abbrev pub home_bytes : (homes : List ℕ) → ℕ → List ℕ
home_bytes homes c = word (get_or homes c 0)

-- mark, version, length and characters; then glyph and tag of each used place; then the homes
unfoldable pub record_of : Line → List ℕ
record_of l =
    mark
    ++ word (version_of l.used)
    ++ word l.used
    ++ word (length l.homes)
    ++ joined (place_bytes l.glyphs l.tags) l.used
    ++ joined (home_bytes l.homes) (length l.homes)

-- how many bytes the record of so many places and characters has
unfoldable pub size_of : (used characters : ℕ) → ℕ
size_of used characters = 9 + used * 4 + characters * 2
