-- Changes that leave a part of the line as it is: of the slices that a machine is not lent to be written, and of the used length.
use Prim.Native.Nat.{ℕ, ◌≤◌}
use mathlib.Core.Path.{◌≡◌, refl, ◌∙◌, ap}
use mathlib.Core.Bool.{Bool}
use mathlib.Core.List.{List, [], ◌∷◌, ◌++◌}
use native.Mathlib.Omega.{arith}
use Rattle.line.specs.Line.{Line}
use Rattle.line.specs.Changes.{Change, apply, apply_all}
use Rattle.line.proofs.Histories.{apply_all-append}
use Rattle.state_tables.specs.declared.States.{States}
use Rattle.machine.specs.Machine.{Subtable, call_leaves, Machine, passed, subtable_of, step_leaves, StepCall}
use Rattle.machine.proofs.Having.{Closed, call_has, worked-has, step-has}
use Rattle.mort.proofs.Lent.{passed-has}

module _ {X : Type 0} (part : Line → X) where
  abbrev pub Kept : List Change → Type 0
  Kept changes = (l : Line) → part (apply_all changes l) ≡ part l

  pub kept-none : Kept []
  unfolding apply_all
  kept-none l = refl

  pub kept-one : (c : Change) → ((l : Line) → part (apply c l) ≡ part l) → Kept (c ∷ [])
  unfolding apply_all
  kept-one c kept l = kept l

  pub kept_more : (c : Change) (cs : List Change) → ((l : Line) → part (apply c l) ≡ part l) → Kept cs → Kept (c ∷ cs)
  unfolding apply_all
  kept_more c cs kept p l = p (apply c l) ∙ kept l

  pub kept_append : (cs ds : List Change) → Kept cs → Kept ds → Kept (cs ++ ds)
  kept_append cs ds p q l = ap part (apply_all-append cs ds l) ∙ q (apply_all cs l) ∙ p l

  -- so what every step of a machine keeps, its passes keep, and calls of both
  abbrev pub Has : List Change → Line → Type 0
  Has changes l = part (apply_all changes l) ≡ part l

  -- on any line
  abbrev Any : Line → Type 0
  Any l = 0 ≤ 0

  closed : Closed Any Has
  closed =
      record {
        none = λ l any. kept-none l;
        both = λ cs ds l any p q. ap part (apply_all-append cs ds l) ∙ q ∙ p;
        kept = λ cs l any p. omega arith;
      }

  pub call_keeps : (subtable : Subtable) → ((bytes : List ℕ) (l : Line) → Has (subtable.worked bytes l).changes l) → (table : List ℕ) (start : ℕ) (l : Line)
      → part (call_leaves subtable table start l) ≡ part l
  unfolding call_leaves
  call_keeps subtable kept table start l = call_has Any Has closed subtable (λ bytes k any. kept bytes k) table start l (omega arith)

  module _ {S : Type 0} (machine : Machine S)
      (kept : (classes : ℕ → ℕ) (bytes : List ℕ) (states : States) (s : S) (l : Line) (i g : ℕ) (e : Bool)
      → Kept (machine.step classes bytes states s l i g e).changes) where
    steps_keep : (classes : ℕ → ℕ) (bytes : List ℕ) (states : States) (s : S) (l : Line) (i g : ℕ) (e : Bool) → Any l
        → Has (machine.step classes bytes states s l i g e).changes l
    steps_keep classes bytes states s l i g e any = kept classes bytes states s l i g e l

    pub pass_keeps : (bytes : List ℕ) (l : Line) → Has ((subtable_of machine).worked bytes l).changes l
    pass_keeps bytes l = worked-has Any Has closed machine steps_keep bytes l (omega arith)

    -- by a state table that the machine is lent
    pub lent_keeps : (body : List ℕ) (states : States) (l : Line) → Has (passed machine body states l).changes l
    lent_keeps body states l = passed-has Any Has closed machine steps_keep body states l (omega arith)

    pub step_keeps : (c : StepCall S) (l : Line) → part (step_leaves machine c.table c.start c.state l c.index c.glyph c.ends) ≡ part l
    unfolding step_leaves
    step_keeps c l = step-has Any Has closed machine steps_keep c.table c.start c.state l c.index c.glyph c.ends (omega arith)
