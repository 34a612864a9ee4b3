-- A glyph whose lookup finds nothing stays, whatever the reason.
use Rattle.std.specs.Prelude.{Result, Err}
use Prim.Native.Nat.{ℕ, suc}
use mathlib.Core.Path.{◌≡◌}
use mathlib.Core.List.{List, append-nil}
use lib.ListN.{get_or}
use Rattle.tables.specs.declared.lookup.Why.{Why}
use Rattle.noncontextual.specs.NonContextual.{writes_below}

pub noncontextual_drops : (lookup : ℕ → Result ℕ Why) (glyphs : List ℕ) (place : ℕ) (why : Why) → lookup (get_or glyphs place 0) ≡ Err why
    → writes_below lookup glyphs (suc place) ≡ writes_below lookup glyphs place
unfolding writes_below
noncontextual_drops lookup glyphs place why e = rw e (append-nil (writes_below lookup glyphs place))
