-- What a machine reads of the state table: the class of a place or of the end of text.
use Rattle.std.specs.Prelude.{ℕ, Bool, true, false}

-- end of text is class 0
unfoldable pub class_here : (classes : ℕ → ℕ) → (glyph : ℕ) → (ends : Bool) → ℕ
class_here classes glyph true = 0
class_here classes glyph false = classes glyph
