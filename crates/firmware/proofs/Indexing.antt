-- What the exported entries of indexes leave, in the reading that is chosen.
use Prim.Native.Nat.{ℕ}
use mathlib.Core.Path.{◌≡◌, ◌∙◌, ap}
use mathlib.Core.List.{List}
use lib.IntN.{ℤ}
use Rattle.answers.specs.declared.Answer.{Answer}
use Rattle.line.specs.Line.{Line}
use Rattle.kerning.specs.Additions.{add_all}
use Rattle.kerning.specs.declared.choices.Choices.{Choices}
use Rattle.anchor_machine.specs.Writes.{Write}
use Rattle.indexes.specs.Index.{Filled, fill_call}
use Rattle.kerx.specs.Indexed.{indexed_call}

module _ {choices known : Choices} (k : choices ≡ known) where
  pub fill_known : {A : Type 0} (table : List ℕ) (start : ℕ) (index : List ℕ) (was : ℕ) (of : Filled → A) {left : A}
      → left ≡ of (fill_call table start choices.reading index was) → left ≡ of (fill_call table start known.reading index was)
  fill_known table start index was of e = e ∙ ap (λ (c : Choices). of (fill_call table start c.reading index was)) k

  module _ (table ankr : List ℕ) (start version : ℕ) (l : Line) (along x y : List ℤ) (back index : List ℕ) (class_start : ℕ) where
    pub indexed-answers : {answer : Answer} → answer ≡ (indexed_call table ankr start version l along x y back choices.reading index class_start).answer
        → answer ≡ (indexed_call table ankr start version l along x y back known.reading index class_start).answer
    indexed-answers e = e ∙ ap (λ (c : Choices). (indexed_call table ankr start version l along x y back c.reading index class_start).answer) k

    pub indexed-adds : (before : List ℤ) {after : List ℤ}
        → after ≡ add_all (indexed_call table ankr start version l along x y back choices.reading index class_start).additions before
        → after ≡ add_all (indexed_call table ankr start version l along x y back known.reading index class_start).additions before
    indexed-adds before e = e ∙ ap (λ (c : Choices). add_all (indexed_call table ankr start version l along x y back c.reading index class_start).additions before) k

    pub indexed-writes : {A : Type 0} (part : List Write → List A → List A) {before after : List A}
        → after ≡ part (indexed_call table ankr start version l along x y back choices.reading index class_start).writes before
        → after ≡ part (indexed_call table ankr start version l along x y back known.reading index class_start).writes before
    indexed-writes part {before} e = e ∙ ap (λ (c : Choices). part (indexed_call table ankr start version l along x y back c.reading index class_start).writes before) k
