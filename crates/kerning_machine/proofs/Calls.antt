-- A lone pass, by its tests and its machine.
use Rattle.std.specs.Prelude.{Result, Ok, Err}
use Prim.Native.Nat.{ℕ}
use mathlib.Core.Path.{◌≡◌, refl, ◌∙◌, ap}
use mathlib.Core.List.{List}
use lib.IntN.{ℤ}
use lib.ListN.{length}
use Rattle.answers.specs.declared.Answer.{Answer}
use Rattle.kerning.specs.Additions.{add_all, Kerned}
use Rattle.kerning.specs.declared.heads.Unready.{Unready}
use Rattle.kerning.specs.declared.heads.Unready.TheVariants.{Short, Tupled}
use Rattle.indexes.proofs.Laws.{no_index}
use Rattle.kerning_machine.specs.declared.Kerning.{Kerning}
use Rattle.kerning_machine.specs.Machine.{own_classes, passed_by, passed, passed_indexed, worked_by, worked_indexed}

-- the code's answer and adjustments are those of a definition
pub record Works (r : Kerned) (along₀ : List ℤ) (answer : Answer) (along : List ℤ) : Type 0 where
  pub answers : answer ≡ r.answer
  pub leaves : along ≡ add_all r.additions along₀

-- without entries, what is by an index is what is without one
pub plain-worked : (index : List ℕ) → length index ≡ 0 → (bytes : List ℕ) (opened : Result Kerning Unready) (glyphs : List ℕ) (used : ℕ)
    → worked_indexed index bytes opened glyphs used ≡ worked_by bytes opened glyphs used
unfolding worked_indexed worked_by passed_indexed passed
plain-worked index z bytes (Ok kerning) glyphs used =
    ap (λ (c : ℕ → ℕ). passed_by c bytes kerning glyphs used) (no_index index z (own_classes bytes kerning))
plain-worked index z bytes (Err Short) glyphs used = refl
plain-worked index z bytes (Err Tupled) glyphs used = refl

pub plain_works : (index : List ℕ) → length index ≡ 0 → (bytes : List ℕ) (opened : Result Kerning Unready) (glyphs : List ℕ) (used : ℕ) (along : List ℤ) {answer : Answer} {along' : List ℤ}
    → answer ≡ (worked_indexed index bytes opened glyphs used).answer → along' ≡ add_all (worked_indexed index bytes opened glyphs used).additions along
    → Works (worked_by bytes opened glyphs used) along answer along'
plain_works index z bytes opened glyphs used along a l =
    let e = plain-worked index z bytes opened glyphs used in
    record { answers = a ∙ ap (λ (k : Kerned). k.answer) e; leaves = l ∙ ap (λ (k : Kerned). add_all k.additions along) e }
