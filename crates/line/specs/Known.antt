-- Known cases: what a change makes of the line 10 11 12 13 14 in a room of seven places, and where it takes the five places.
use Rattle.std.specs.Prelude.{ℕ, List, [], ◌∷◌, map}
use Rattle.line.specs.Line.{Line, line_of}
use Rattle.line.specs.Edits.{carry_all}
use Rattle.line.specs.Changes.{Change, edits_of, apply}

abbrev pub before : Line
before = line_of (10 ∷ 11 ∷ 12 ∷ 13 ∷ 14 ∷ 0 ∷ 0 ∷ []) (0 ∷ 1 ∷ 2 ∷ 3 ∷ 4 ∷ 0 ∷ 0 ∷ []) (0 ∷ 1 ∷ 2 ∷ 3 ∷ 4 ∷ []) 5

pub record Case : Type 0 where
  pub change : Change
  pub glyphs : List ℕ
  pub tags : List ℕ
  pub homes : List ℕ
  pub places : List ℕ

-- what the case says, and what the definitions compute
abbrev pub said : Case → List (List ℕ)
said c = c.glyphs ∷ c.tags ∷ c.homes ∷ c.places ∷ []

abbrev pub computed : Case → List (List ℕ)
computed c =
    let after : Line = apply c.change before in
    after.glyphs ∷ after.tags ∷ after.homes ∷ map (carry_all (edits_of c.change) 5) (0 ∷ 1 ∷ 2 ∷ 3 ∷ 4 ∷ []) ∷ []

-- a change that leaves the tags, such as a ligature
abbrev joins : Change → (glyphs homes places : List ℕ) → Case
joins change glyphs homes places =
    record { change = change; glyphs = glyphs; tags = 0 ∷ 1 ∷ 2 ∷ 3 ∷ 4 ∷ 0 ∷ 0 ∷ []; homes = homes; places = places }

-- a change that leaves the homes
abbrev moves : Change → (glyphs tags places : List ℕ) → Case
moves change glyphs tags places =
    record { change = change; glyphs = glyphs; tags = tags; homes = 0 ∷ 1 ∷ 2 ∷ 3 ∷ 4 ∷ []; places = places }

abbrev pub cases : List Case
cases =
    -- two components
    joins (Change.ligature 1 99 (2 ∷ 3 ∷ []))
    (10 ∷ 99 ∷ 0xFFFF ∷ 0xFFFF ∷ 14 ∷ 0 ∷ 0 ∷ [])
    (0 ∷ 1 ∷ 1 ∷ 1 ∷ 4 ∷ [])
    (0 ∷ 1 ∷ 1 ∷ 1 ∷ 4 ∷ [])
    -- a component twice
    ∷ joins (Change.ligature 1 99 (3 ∷ 3 ∷ []))
    (10 ∷ 99 ∷ 12 ∷ 0xFFFF ∷ 14 ∷ 0 ∷ 0 ∷ [])
    (0 ∷ 1 ∷ 2 ∷ 1 ∷ 4 ∷ [])
    (0 ∷ 1 ∷ 2 ∷ 1 ∷ 4 ∷ [])
    -- the ligature's own place pushed twice, so that it is its own component
    ∷ joins (Change.ligature 1 99 (1 ∷ []))
    (10 ∷ 99 ∷ 12 ∷ 13 ∷ 14 ∷ 0 ∷ 0 ∷ [])
    (0 ∷ 1 ∷ 2 ∷ 3 ∷ 4 ∷ [])
    (0 ∷ 1 ∷ 2 ∷ 3 ∷ 4 ∷ [])
    -- its own place among other components
    ∷ joins (Change.ligature 1 99 (2 ∷ 1 ∷ 4 ∷ []))
    (10 ∷ 99 ∷ 0xFFFF ∷ 13 ∷ 0xFFFF ∷ 0 ∷ 0 ∷ [])
    (0 ∷ 1 ∷ 1 ∷ 3 ∷ 1 ∷ [])
    (0 ∷ 1 ∷ 1 ∷ 3 ∷ 1 ∷ [])
    -- a component off the line, and a ligature off the line
    ∷ joins (Change.ligature 1 99 (5 ∷ 2 ∷ []))
    (10 ∷ 99 ∷ 0xFFFF ∷ 13 ∷ 14 ∷ 0 ∷ 0 ∷ [])
    (0 ∷ 1 ∷ 1 ∷ 3 ∷ 4 ∷ [])
    (0 ∷ 1 ∷ 1 ∷ 3 ∷ 4 ∷ [])
    ∷ joins (Change.ligature 5 99 (2 ∷ []))
    (10 ∷ 11 ∷ 12 ∷ 13 ∷ 14 ∷ 0 ∷ 0 ∷ [])
    (0 ∷ 1 ∷ 2 ∷ 3 ∷ 4 ∷ [])
    (0 ∷ 1 ∷ 2 ∷ 3 ∷ 4 ∷ [])
    -- a write off the line
    ∷ joins (Change.write 5 99)
    (10 ∷ 11 ∷ 12 ∷ 13 ∷ 14 ∷ 0 ∷ 0 ∷ [])
    (0 ∷ 1 ∷ 2 ∷ 3 ∷ 4 ∷ [])
    (0 ∷ 1 ∷ 2 ∷ 3 ∷ 4 ∷ [])
    -- insertions in the line and above its length
    ∷ moves (Change.insertion 2 (20 ∷ 21 ∷ []))
    (10 ∷ 11 ∷ 20 ∷ 21 ∷ 12 ∷ 13 ∷ 14 ∷ [])
    (0 ∷ 1 ∷ 5 ∷ 6 ∷ 2 ∷ 3 ∷ 4 ∷ [])
    (0 ∷ 1 ∷ 4 ∷ 5 ∷ 6 ∷ [])
    ∷ moves (Change.insertion 9 (20 ∷ []))
    (10 ∷ 11 ∷ 12 ∷ 13 ∷ 14 ∷ 20 ∷ 0 ∷ [])
    (0 ∷ 1 ∷ 2 ∷ 3 ∷ 4 ∷ 5 ∷ 0 ∷ [])
    (0 ∷ 1 ∷ 2 ∷ 3 ∷ 4 ∷ [])
    ∷ moves Change.reversal
    (14 ∷ 13 ∷ 12 ∷ 11 ∷ 10 ∷ 0 ∷ 0 ∷ [])
    (4 ∷ 3 ∷ 2 ∷ 1 ∷ 0 ∷ 0 ∷ 0 ∷ [])
    (4 ∷ 3 ∷ 2 ∷ 1 ∷ 0 ∷ [])
    -- a window whose end is cut to the line
    ∷ moves (Change.window 3 9 2)
    (10 ∷ 11 ∷ 12 ∷ 14 ∷ 13 ∷ 0 ∷ 0 ∷ [])
    (0 ∷ 1 ∷ 2 ∷ 4 ∷ 3 ∷ 0 ∷ 0 ∷ [])
    (0 ∷ 1 ∷ 2 ∷ 4 ∷ 3 ∷ [])
    ∷ []
