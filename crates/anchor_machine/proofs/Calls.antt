-- A pass by what a head gives.
use Rattle.std.specs.Prelude.{Result, Ok, Err}
use Prim.Native.Nat.{ℕ}
use mathlib.Core.Path.{◌≡◌, refl, ap}
use mathlib.Core.List.{List}
use lib.ListN.{length}
use Rattle.indexes.proofs.Laws.{no_index}
use Rattle.anchor_machine.specs.Machine.{own_classes, passed_by, passed, passed_indexed, worked_by, worked_indexed}
use Rattle.anchor_machine.specs.declared.Anchoring.{Anchoring}
use Rattle.kerning.specs.declared.heads.Unready.{Unready}

-- without entries, what is by an index is what is without one
pub plain_worked : (index : List ℕ) → length index ≡ 0 → (ankr bytes : List ℕ) (opened : Result Anchoring Unready) (glyphs : List ℕ) (used : ℕ)
    → worked_indexed index ankr bytes opened glyphs used ≡ worked_by ankr bytes opened glyphs used
unfolding worked_indexed worked_by passed_indexed passed
plain_worked index z ankr bytes (Ok anchoring) glyphs used =
    ap (λ (c : ℕ → ℕ). passed_by c ankr bytes anchoring glyphs used) (no_index index z (own_classes bytes anchoring))
plain_worked index z ankr bytes (Err why) glyphs used = refl
