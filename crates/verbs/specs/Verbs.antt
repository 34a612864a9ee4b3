-- The sixteen verbs: which groups each moves, and so where every place of a window goes. Places are counted from the window's
-- first, and glyphs play no part.
use Rattle.std.specs.Prelude.{ℕ, ◌+◌, ◌-◌, ◌%◌, List, [], ◌∷◌, length, get_or}
use Rattle.laws.specs.Choose.{if_lt}
use Rattle.laws.specs.Lists.{tab}
use Rattle.verbs.specs.declared.Group.{Group}
use Rattle.verbs.specs.declared.Group.TheVariants.{Absent, One, Two, Flipped}
use Rattle.verbs.specs.declared.Groups.{Groups}

-- how many places a group has
abbrev pub size_of : Group → ℕ
size_of Absent = 0
size_of One = 1
size_of Two = 2
size_of Flipped = 2

-- where in its group a place of it goes
abbrev pub turned : Group → ℕ → ℕ
turned Absent place = place
turned One place = place
turned Two place = place
turned Flipped place = 1 - place

-- a row of the table: the group on the left, and the one on the right
abbrev pub moves : Group → Group → Groups
moves l m = (l, m)

-- document 01's table
abbrev pub table : List Groups
table =
    moves Absent Absent  -- none
    ∷ moves One Absent  -- Ax→xA
    ∷ moves Absent One  -- xD→Dx
    ∷ moves One One  -- AxD→DxA
    ∷ moves Two Absent  -- ABx→xAB
    ∷ moves Flipped Absent  -- ABx→xBA
    ∷ moves Absent Two  -- xCD→CDx
    ∷ moves Absent Flipped  -- xCD→DCx
    ∷ moves One Two  -- AxCD→CDxA
    ∷ moves One Flipped  -- AxCD→DCxA
    ∷ moves Two One  -- ABxD→DxAB
    ∷ moves Flipped One  -- ABxD→DxBA
    ∷ moves Two Two  -- ABxCD→CDxAB
    ∷ moves Flipped Two  -- ABxCD→CDxBA
    ∷ moves Two Flipped  -- ABxCD→DCxAB
    ∷ moves Flipped Flipped  -- ABxCD→DCxBA
    ∷ []

-- a verb's row of the table, its number taken modulo 16
unfoldable pub groups_of : ℕ → Groups
groups_of verb = get_or table (verb % 16) (moves Absent Absent)

-- its group on the left
abbrev pub left_of : ℕ → Group
left_of verb = (groups_of verb).0

-- its group on the right
abbrev pub right_of : ℕ → Group
right_of verb = (groups_of verb).1

-- where a place goes in a window that has room for both groups: the left one to the end, the right one to the start, and what is between them after it
unfoldable pub across : Group → Group → ℕ → ℕ → ℕ
across l m width place =
    if_lt place (size_of l) (width - size_of l + turned l place)
    (if_lt place (width - size_of m) (place - size_of l + size_of m) (turned m (place - (width - size_of m))))

-- the same for any window and place: a window shorter than both groups together stays, and so does what is outside
unfoldable pub moved : Group → Group → ℕ → ℕ → ℕ
moved l m width place = if_lt width (size_of l + size_of m) place (if_lt place width (across l m width place) place)

-- where a verb takes a place
unfoldable pub place_of : ℕ → ℕ → ℕ → ℕ
place_of verb width place = moved (left_of verb) (right_of verb) width place

-- where what stands at a place afterwards came from: the way back has the groups exchanged
unfoldable pub from_of : ℕ → ℕ → ℕ → ℕ
from_of verb width place = moved (right_of verb) (left_of verb) width place

-- the list whose every place holds what stood where `from` says
abbrev pub taken : (ℕ → ℕ) → List ℕ → List ℕ
taken from part = tab (λ k. get_or part (from k) 0) (length part)

-- the part of a line from the window's first place on, after the verb
unfoldable pub rearranged : ℕ → ℕ → List ℕ → List ℕ
rearranged verb width part = taken (from_of verb width) part
