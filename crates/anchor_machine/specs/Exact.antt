-- What is written is exact: x and y are the differences of two points, whole numbers from -65,535 to 65,535, and the distance is the mark's, below 255.
use Rattle.std.specs.Prelude.{ℕ, ◌-◌, ◌<◌, ◌≤◌, ◌≡◌, List, [], ◌∷◌, ◌⊎◌, ℤ, nat_abs, ◌-ℤ◌, get_or, Some}
use Rattle.tables.specs.declared.units.Reading.{Reading}
use Rattle.anchors.specs.Anchors.{point_of}
use Rattle.anchor_machine.specs.Writes.{Write}
use Rattle.anchor_machine.specs.declared.AnchorState.{AnchorState}

pub record Exact (ankr : List ℕ) (reading : Reading) (s : AnchorState) (index glyph mark current : ℕ) (x y : ℤ) (back : ℕ) : Type 0 where
  pub marked-x : ℤ
  pub marked-y : ℤ
  pub current-x : ℤ
  pub current-y : ℤ
  pub of_mark : point_of reading ankr s.glyph mark ≡ Some (record { x = marked-x; y = marked-y })
  pub of_current : point_of reading ankr glyph current ≡ Some (record { x = current-x; y = current-y })
  pub x_is : x ≡ marked-x -ℤ current-x
  pub y_is : y ≡ marked-y -ℤ current-y
  pub x-small : nat_abs x ≤ 65535
  pub y-small : nat_abs y ≤ 65535
  pub back_is : back ≡ index - s.mark
  pub near : back < 255

-- the mark at a place of a pass over some glyphs: it is not ahead, and has the glyph that stands where it was set; before any mark it is place 0 with
-- glyph 0
pub record HasMark (glyphs : List ℕ) (place : ℕ) (s : AnchorState) : Type 0 where
  pub behind : s.mark ≤ place
  pub on : (s.glyph ≡ get_or glyphs s.mark 0) ⊎ ((s.mark ≡ 0) × (s.glyph ≡ 0))

-- a write of such a pass: at a place of the line, and exact by the mark there and the numbers of two points
pub record ExactWrite (ankr : List ℕ) (reading : Reading) (glyphs : List ℕ) (used : ℕ) (w : Write) : Type 0 where
  pub inside : w.place < used
  pub state : AnchorState
  pub has : HasMark glyphs w.place state
  pub mark : ℕ
  pub current : ℕ
  pub exact : Exact ankr reading state w.place (get_or glyphs w.place 0) mark current w.x w.y w.back

-- what holds of each of some writes
abbrev pub EachWrite : (Write → Type 0) → List Write → Type 0
EachWrite holds [] = Unit {0}
EachWrite holds (w ∷ later) = holds w × EachWrite holds later
