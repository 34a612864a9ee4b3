-- The pass of format 4 adds nothing.
use Prim.Native.Nat.{ℕ}
use mathlib.Core.Path.{◌≡◌, refl, ap}
use mathlib.Core.Bool.{Bool, true, false}
use mathlib.Core.List.{List}
use lib.Dec.{eqb}
use lib.IntN.{ℤ}
use borrow.Author.Tests.{eqb-true}
use Rattle.kerning.specs.Additions.{Addition, add_all}
use Rattle.kerning.specs.declared.choices.Choices.{Choices}
use Rattle.kerx.specs.Kerx.{worked}
use Rattle.kerx.specs.Anchored.{worked_with}

adds_same : (ankr bytes : List ℕ) (version format : ℕ) (glyphs : List ℕ) (used : ℕ) (choices : Choices)
    → (worked_with ankr bytes version format glyphs used choices).additions ≡ (worked bytes version format glyphs used choices).additions
unfolding worked_with worked
adds_same ankr bytes version format glyphs used choices = go (eqb format 4) refl
  where
    go : (t : Bool) → eqb format 4 ≡ t → (worked_with ankr bytes version format glyphs used choices).additions ≡ (worked bytes version format glyphs used choices).additions
    go true e = rw (eqb-true format 4 e)
    go false e = rw e

pub adds_here : (ankr bytes : List ℕ) (version format : ℕ) (glyphs : List ℕ) (used : ℕ) (choices : Choices) (along : List ℤ)
    → add_all (worked_with ankr bytes version format glyphs used choices).additions along ≡ add_all (worked bytes version format glyphs used choices).additions along
adds_here ankr bytes version format glyphs used choices along = ap (λ (a : List Addition). add_all a along) (adds_same ankr bytes version format glyphs used choices)
