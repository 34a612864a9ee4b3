-- For the code alone; no entry and no promise rests on it, and nobody has to believe it. What the parts of the code leave: a lookup on the glyphs
-- alone, a pass without its tests, and what is remembered of a lookup that is searched.
use Rattle.tables.specs.declared.lookup.Why.{Why}
use Rattle.std.specs.Prelude.{ℕ, ◌+◌, ◌*◌, ◌/◌, ◌%◌, ◌≡◌, List, length, get_or, set, replicate, Result, Ok, Err}
use Rattle.laws.specs.Choose.{if_eq}
use Rattle.tables.specs.Lookup.{lookup_at}
use Rattle.tables.specs.Whole.{becomes}
use Rattle.line.specs.Line.{Line}
use Rattle.line.specs.Changes.{written, apply_all}
use Rattle.noncontextual.specs.NonContextual.{passed}

-- what a lookup does at a place, on the glyphs alone
abbrev pub replaced : (used place : ℕ) → Result ℕ Why → List ℕ → List ℕ
replaced used place (Ok glyph) glyphs = written used place glyph glyphs
replaced used place (Err why) glyphs = glyphs

-- the line that a pass leaves
unfoldable pub passed_leaves : (lookup : ℕ → Result ℕ Why) → Line → Line
passed_leaves lookup l = apply_all (passed lookup l).changes l

-- what becomes of a glyph
unfoldable pub becomes_by : List ℕ → (glyph : ℕ) → ℕ
becomes_by body glyph = becomes glyph (lookup_at body glyph)

-- 64 slots, of which each remembers one of its glyphs, the how many-th, and what that becomes; 0 is none
abbrev pub nothing_found : List ℕ
nothing_found = replicate 64 0

pub record Remembers (becoming : ℕ → ℕ) (memo : List ℕ) : Type 0 where
  pub long : length memo ≡ 64
  pub slots : (glyph : ℕ) → get_or memo (glyph % 64) 0 / 65536 ≡ glyph / 64 + 1 → get_or memo (glyph % 64) 0 % 65536 ≡ becoming glyph

-- what is remembered once a glyph was asked for
unfoldable pub noted : (becoming : ℕ → ℕ) → (memo : List ℕ) → (glyph : ℕ) → List ℕ
noted becoming memo glyph =
    if_eq (get_or memo (glyph % 64) 0 / 65536) (glyph / 64 + 1) memo (set memo (glyph % 64) ((glyph / 64 + 1) * 65536 + becoming glyph))
