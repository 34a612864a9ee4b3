-- Known answers of the machine of anchored marks, by a subtable that marks glyph 1 and anchors glyph 2 to it.
use Rattle.std.specs.Prelude.{ℕ, ◌≡◌, List, [], ◌∷◌, ◌++◌, pos, negsuc}
use Rattle.answers.specs.declared.Answer.TheVariants as Answer'
use Rattle.tables.specs.declared.units.Reading.TheVariants.{Crate}
use Rattle.anchor_machine.specs.Writes.{Write, Anchored}
use Rattle.anchor_machine.specs.Machine.{opened, worked_by}

-- from its state table on: six classes, class table at 20, states at 30, entries at 42, flags of this first byte, control table at 60
abbrev head : (flags : ℕ) → List ℕ
head flags = 0 ∷ 0 ∷ 0 ∷ 6 ∷ 0 ∷ 0 ∷ 0 ∷ 20 ∷ 0 ∷ 0 ∷ 0 ∷ 30 ∷ 0 ∷ 0 ∷ 0 ∷ 42 ∷ flags ∷ 0 ∷ 0 ∷ 60 ∷ []

-- format 8, for glyphs 1 and 2: these two numbers
abbrev trimmed : (first second : ℕ) → List ℕ
trimmed first second = 0 ∷ 8 ∷ 0 ∷ 1 ∷ 0 ∷ 2 ∷ 0 ∷ first ∷ 0 ∷ second ∷ []

-- state 0: class 4 has entry 1, class 5 entry 2, the others entry 0
abbrev row : List ℕ
row = 0 ∷ 0 ∷ 0 ∷ 0 ∷ 0 ∷ 0 ∷ 0 ∷ 0 ∷ 0 ∷ 1 ∷ 0 ∷ 2 ∷ []

-- an entry that leads to state 0, by the first byte of its flags and its index
abbrev entry : (flags high low : ℕ) → List ℕ
entry flags high low = 0 ∷ 0 ∷ flags ∷ 0 ∷ high ∷ low ∷ []

-- entry 1 marks, entry 2 has action 0, whose record names point 0 of the marked glyph and point 1 of the current one
abbrev subtable : (action flags : ℕ) → List ℕ
subtable action flags =
    head action ++ trimmed 4 5 ++ row ++ entry 0 0xFF 0xFF ++ entry 0x80 0xFF 0xFF ++ entry flags 0 0 ++ (0 ∷ 0 ∷ 0 ∷ 1 ∷ [])

-- lookup at 12, points at 22: glyph 1 has (100, 200), glyph 2 has (0, 0) and (-5, 300)
abbrev ankr : List ℕ
ankr =
    (0 ∷ 0 ∷ 0 ∷ 0 ∷ 0 ∷ 0 ∷ 0 ∷ 12 ∷ 0 ∷ 0 ∷ 0 ∷ 22 ∷ []) ++ trimmed 0 8
    ++ (0 ∷ 0 ∷ 0 ∷ 1 ∷ 0 ∷ 100 ∷ 0 ∷ 200 ∷ 0 ∷ 0 ∷ 0 ∷ 2 ∷ 0 ∷ 0 ∷ 0 ∷ 0 ∷ 0xFF ∷ 0xFB ∷ 1 ∷ 0x2C ∷ [])

abbrev worked : (action flags : ℕ) → (ankr glyphs : List ℕ) → (used : ℕ) → Anchored
worked action flags points glyphs used = worked_by points (subtable action flags) (opened Crate (subtable action flags)) glyphs used

abbrev writes : List Write → Anchored
writes ws = record { answer = Answer'.Done; writes = ws }

pub record KnownMarks : Type 0 where
  -- x is 100 less -5, y 200 less 300, one place back
  pub anchored : worked 0x40 0 ankr (1 ∷ 2 ∷ []) 2 ≡ writes (record { place = 1; x = pos 105; y = negsuc 99; back = 1 } ∷ [])
  -- two places back, the mark between them counted
  pub farther : worked 0x40 0 ankr (1 ∷ 3 ∷ 2 ∷ []) 3 ≡ writes (record { place = 2; x = pos 105; y = negsuc 99; back = 2 } ∷ [])
  -- a mark on the glyph itself: its point 0 less its point 1, distance 0
  pub itself : worked 0x40 0x80 ankr (1 ∷ 2 ∷ []) 2 ≡ writes (record { place = 1; x = pos 5; y = negsuc 299; back = 0 } ∷ [])
  -- before any mark the mark is glyph 0, which has no points here
  pub unmarked : worked 0x40 0 ankr (2 ∷ []) 1 ≡ writes []
  -- the other action types do nothing
  pub type_0 : worked 0 0 ankr (1 ∷ 2 ∷ []) 2 ≡ writes []
  pub type_2 : worked 0x80 0 ankr (1 ∷ 2 ∷ []) 2 ≡ writes []
  pub type_3 : worked 0xC0 0 ankr (1 ∷ 2 ∷ []) 2 ≡ writes []
  -- without an ankr table there are no points
  pub no_ankr : worked 0x40 0 [] (1 ∷ 2 ∷ []) 2 ≡ writes []
