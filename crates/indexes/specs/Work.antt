-- For the code alone; no entry and no promise rests on it, and nobody has to believe it. What is remembered of classes that an index may give.
use Rattle.std.specs.Prelude.{ℕ, List, length}
use Rattle.laws.specs.Choose.{if_lt}
use Rattle.state_tables.specs.Opened.{noted_now}
use Rattle.state_tables.specs.declared.opened.Classes.{Classes}

-- a glyph that the index reaches is not looked up
unfoldable pub noted_beside : (index : List ℕ) → (classes : ℕ → ℕ) → Classes → (memo : List ℕ) → (glyph : ℕ) → List ℕ
noted_beside index classes opened memo glyph = if_lt glyph (length index) memo (noted_now classes opened memo glyph)
