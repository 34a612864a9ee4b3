-- What each edit's code leaves, slice by slice, is the line after the change. A pass cites these, one for each edit that it calls.
use Prim.Native.Nat.{ℕ, ◌+◌, min}
use mathlib.Core.Path.{◌≡◌}
use mathlib.Core.List.{List}
use lib.ListN.{length}
use Rattle.laws.specs.Backward.{backward}
use Rattle.line.specs.Line.{line_of}
use Rattle.line.specs.Changes.{Change, spliced, numbers_from, apply}

module _ (glyphs tags homes : List ℕ) (used : ℕ) where
  pub applied_reversal : {glyphs' tags' : List ℕ} → glyphs' ≡ backward used glyphs → tags' ≡ backward used tags
      → line_of glyphs' tags' homes used ≡ apply Change.reversal (line_of glyphs tags homes used)
  unfolding apply
  applied_reversal g t = rw (g, t)

  pub applied_insertion : {glyphs' tags' : List ℕ} {used' : ℕ} (at count : ℕ) (new : List ℕ) → length new ≡ count
      → glyphs' ≡ spliced (min at used) used new glyphs → tags' ≡ spliced (min at used) used (numbers_from used count) tags → used' ≡ used + count
      → line_of glyphs' tags' homes used' ≡ apply (Change.insertion at new) (line_of glyphs tags homes used)
  unfolding apply
  applied_insertion at count new n g t u = rw (g, t, u, ← n)
