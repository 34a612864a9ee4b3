-- For the code alone; no entry and no promise rests on it, and nobody has to believe it. The line that a pass leaves, without its tests,
-- and the glyph that a step is told.
use Rattle.std.specs.Prelude.{ℕ, List, get_or}
use Rattle.laws.specs.Choose.{if_lt}
use Rattle.state_tables.specs.declared.States.{States}
use Rattle.line.specs.Line.{Line}
use Rattle.line.specs.Changes.{apply_all}
use Rattle.machine.specs.Pass.{deleted}
use Rattle.machine.specs.Machine.{Subtable, Machine, passed}

-- the pass by the subtable that the bytes begin with
unfoldable pub work_leaves : Subtable → List ℕ → Line → Line
work_leaves subtable bytes l = apply_all (subtable.worked bytes l).changes l

-- a machine's pass by its state table
unfoldable pub passed_leaves : {S : Type 0} → Machine S → List ℕ → States → Line → Line
passed_leaves machine bytes states l = apply_all (passed machine bytes states l).changes l

-- the glyph that a step at a place is told: the place's own, or the end call's
unfoldable pub glyph_at : (glyphs : List ℕ) → (used place : ℕ) → ℕ
glyph_at glyphs used place = if_lt place used (get_or glyphs place 0) deleted
