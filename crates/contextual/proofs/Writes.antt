-- Writes, one list after another, and as changes of the line.
use Prim.Native.Nat.{ℕ}
use mathlib.Core.Path.{◌≡◌, refl, ap}
use mathlib.Core.List.{List, [], ◌∷◌, ◌++◌}
use Rattle.line.specs.Line.{line_of}
use Rattle.line.specs.Edits.{inserted}
use Rattle.line.specs.Changes.{Change, written, edits_of, history_of, apply, apply_all}
use Rattle.machine.proofs.Quiet.{Quiet}
use Rattle.contextual.specs.Substitutes.{Write, changes_of}
use Rattle.contextual.specs.Work.{written_all}

pub written-append : (used : ℕ) (ws vs : List Write) (glyphs : List ℕ) → written_all used (ws ++ vs) glyphs ≡ written_all used vs (written_all used ws glyphs)
unfolding written_all
written-append used [] vs glyphs = refl
written-append used (w ∷ ws) vs glyphs = written-append used ws vs (written used w.at w.glyph glyphs)

pub changes-append : (ws vs : List Write) → changes_of (ws ++ vs) ≡ changes_of ws ++ changes_of vs
unfolding changes_of
changes-append [] vs = refl
changes-append (w ∷ ws) vs = ap (λ (cs : List Change). Change.write w.at w.glyph ∷ cs) (changes-append ws vs)

pub written-line : (used : ℕ) (ws : List Write) (glyphs tags homes : List ℕ)
    → line_of (written_all used ws glyphs) tags homes used ≡ apply_all (changes_of ws) (line_of glyphs tags homes used)
unfolding written_all changes_of apply_all apply
written-line used [] glyphs tags homes = refl
written-line used (w ∷ ws) glyphs tags homes = written-line used ws (written used w.at w.glyph glyphs) tags homes

-- a write moves nobody
pub quiet_writes : (ws : List Write) → Quiet (changes_of ws)
unfolding changes_of history_of edits_of inserted
quiet_writes [] = refl
quiet_writes (w ∷ ws) = quiet_writes ws
