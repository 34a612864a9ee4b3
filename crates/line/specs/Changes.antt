-- What a pass does to the line, and what each of its changes leaves of every slice.
use Rattle.std.specs.Prelude.{ℕ, ◌+◌, ◌*◌, ◌/◌, min, Bool, cond, not, List, [], ◌∷◌, ◌++◌, map, ltb, eqb, length, get_or, take, drop, set}
use Rattle.std.proofs.Math.Seq.{slice}
use Rattle.laws.specs.Choose.{if_lt, if_eq}
use Rattle.laws.specs.Lists.{tab, both}
use Rattle.laws.specs.Backward.{backward}
use Rattle.parse.specs.Reads.{u16_at}
use Rattle.verbs.specs.Verbs.{rearranged}
use Rattle.line.specs.Line.{Line, line_of}
use Rattle.line.specs.Edits.{Edit, width_of}

-- an edit that knows its glyphs, or a glyph written in place
pub data Change : Type 0 where
  window : (first last verb : ℕ) → Change
  reversal : Change
  insertion : (at : ℕ) → (new : List ℕ) → Change
  ligature : (at glyph : ℕ) → (parts : List ℕ) → Change
  write : (at glyph : ℕ) → Change

-- what a change adds to the history: a glyph written in place moves nobody
unfoldable pub edits_of : Change → List Edit
edits_of (window first last verb) = Edit.window first last verb ∷ []
edits_of reversal = Edit.reversal ∷ []
edits_of (insertion at new) = Edit.insertion at (length new) ∷ []
edits_of (ligature at glyph parts) = Edit.ligature at parts ∷ []
edits_of (write at glyph) = []

-- what changes add, one after the other
unfoldable pub history_of : List Change → List Edit
history_of [] = []
history_of (c ∷ cs) = edits_of c ++ history_of cs

-- a verb on the window of so many places from its first
unfoldable pub windowed : (first width verb : ℕ) → List ℕ → List ℕ
windowed first width verb xs = take first xs ++ rearranged verb width (drop first xs)

-- the glyphs of a list of big-endian bytes, two for each
unfoldable pub glyphs_of : List ℕ → List ℕ
glyphs_of bytes = tab (λ k. u16_at bytes (k * 2)) (length bytes / 2)

-- new ones put in at a place; what stood from there to the used length moves up, and what they do not reach is as it was
unfoldable pub spliced : (at used : ℕ) → List ℕ → List ℕ → List ℕ
spliced at used new xs = take at xs ++ new ++ slice at used xs ++ drop (used + length new) xs

-- so many numbers from the first up, in order
unfoldable pub numbers_from : (first count : ℕ) → List ℕ
numbers_from first count = tab (λ k. first + k) count

-- a glyph written at a place of the line; elsewhere it is skipped
unfoldable pub written : (used at glyph : ℕ) → List ℕ → List ℕ
written used at glyph glyphs = if_lt at used (set glyphs at glyph) glyphs

-- a component counts at a place of the line other than the ligature's own
unfoldable pub is_part : (used at part : ℕ) → Bool
is_part used at part = both (ltb part used) (not (eqb part at))

-- a component's place becomes 0xFFFF
unfoldable pub emptied : (used at part : ℕ) → List ℕ → List ℕ
emptied used at part glyphs = cond (is_part used at part) (set glyphs part 0xFFFF) glyphs

-- the characters of one tag go to another
unfoldable pub rehomed : (from to : ℕ) → List ℕ → List ℕ
rehomed from to homes = map (λ home. if_eq home from to home) homes

-- a component's characters go to the ligature's tag
unfoldable pub handed : (used at part : ℕ) → (tags homes : List ℕ) → List ℕ
handed used at part tags homes = cond (is_part used at part) (rehomed (get_or tags part 0) (get_or tags at 0) homes) homes

-- one component after the other
unfoldable pub emptied_all : (used at : ℕ) → (parts glyphs : List ℕ) → List ℕ
emptied_all used at [] glyphs = glyphs
emptied_all used at (part ∷ parts) glyphs = emptied_all used at parts (emptied used at part glyphs)

unfoldable pub handed_all : (used at : ℕ) → (parts tags homes : List ℕ) → List ℕ
handed_all used at [] tags homes = homes
handed_all used at (part ∷ parts) tags homes = handed_all used at parts tags (handed used at part tags homes)

-- a ligature's glyph is written, then each component is emptied; off the line all of it is skipped
unfoldable pub joined_glyphs : (used at glyph : ℕ) → (parts glyphs : List ℕ) → List ℕ
joined_glyphs used at glyph parts glyphs = if_lt at used (emptied_all used at parts (set glyphs at glyph)) glyphs

-- and the characters of each component are handed over
unfoldable pub joined_homes : (used at : ℕ) → (parts tags homes : List ℕ) → List ℕ
joined_homes used at parts tags homes = if_lt at used (handed_all used at parts tags homes) homes

-- the line after a change. An insertion place above the length is the length; new tags go from the used length up
unfoldable pub apply : Change → Line → Line
apply (window first last verb) l =
    line_of
    (windowed first (width_of first last l.used) verb l.glyphs)
    (windowed first (width_of first last l.used) verb l.tags)
    l.homes
    l.used
apply reversal l = line_of (backward l.used l.glyphs) (backward l.used l.tags) l.homes l.used
apply (insertion at new) l =
    line_of
    (spliced (min at l.used) l.used new l.glyphs)
    (spliced (min at l.used) l.used (numbers_from l.used (length new)) l.tags)
    l.homes
    (l.used + length new)
apply (ligature at glyph parts) l =
    line_of
    (joined_glyphs l.used at glyph parts l.glyphs)
    l.tags
    (joined_homes l.used at parts l.tags l.homes)
    l.used
apply (write at glyph) l = line_of (written l.used at glyph l.glyphs) l.tags l.homes l.used

-- the line after changes, one after the other
unfoldable pub apply_all : List Change → Line → Line
apply_all [] l = l
apply_all (c ∷ cs) l = apply_all cs (apply c l)
