-- Ligatures made on the line, one after the other.
use Prim.Native.Nat.{ℕ}
use mathlib.Core.Path.{◌≡◌, refl, ◌∙◌, sym, ap, ap₂}
use mathlib.Core.List.{List, [], ◌∷◌, ◌++◌}
use native.Mathlib.Nat.{zero-add}
use Rattle.line.specs.Line.{Line, line_of}
use Rattle.line.specs.Edits.{added, inserted}
use Rattle.line.specs.Changes.{edits_of, history_of, apply, apply_all}
use Rattle.machine.proofs.Quiet.{Quiet}
use Rattle.ligature.specs.Ligature.{Ligation, changes_of}
use Rattle.ligature.specs.Work.{ligated}

pub ligated-append : (xs ys : List Ligation) (l : Line) → ligated (xs ++ ys) l ≡ ligated ys (ligated xs l)
unfolding changes_of apply_all
ligated-append [] ys l = refl
ligated-append (x ∷ xs) ys l = ligated-append xs ys (ligated (x ∷ []) l)

pub ligated-none : (l : Line) → ligated [] l ≡ l
unfolding changes_of apply_all
ligated-none l = refl

-- they leave tags and used length as they were
ligated_is : (made : List Ligation) (l : Line) → ligated made l ≡ line_of (ligated made l).glyphs l.tags (ligated made l).homes l.used
unfolding changes_of apply_all apply
ligated_is [] l = refl
ligated_is (x ∷ xs) l = ligated_is xs (ligated (x ∷ []) l)

pub ligated-line : {glyphs' homes' : List ℕ} (made : List Ligation) (glyphs tags homes : List ℕ) (used : ℕ)
    → glyphs' ≡ (ligated made (line_of glyphs tags homes used)).glyphs → homes' ≡ (ligated made (line_of glyphs tags homes used)).homes
    → line_of glyphs' tags homes' used ≡ ligated made (line_of glyphs tags homes used)
ligated-line made glyphs tags homes used g h =
    ap₂ (λ (x y : List ℕ). line_of x tags y used) g h ∙ sym (ligated_is made (line_of glyphs tags homes used))

pub used-kept : (made : List Ligation) (l : Line) → (ligated made l).used ≡ l.used
used-kept made l = ap (λ (x : Line). x.used) (ligated_is made l)

-- nothing is inserted
pub quiet_ligations : (made : List Ligation) → Quiet (changes_of made)
unfolding changes_of history_of edits_of inserted added
quiet_ligations [] = refl
quiet_ligations (x ∷ xs) = zero-add (inserted (history_of (changes_of xs))) ∙ quiet_ligations xs
