-- A pass by an index is the plain pass wherever each entry is that glyph's class, and a filled index is such a one.
use Prim.Native.Nat.{ℕ, ◌<◌}
use mathlib.Core.Path.{◌≡◌, ap}
use mathlib.Core.List.{List}
use native.Mathlib.Omega.{arith}
use lib.ListN.{length, get_or}
use Rattle.laws.proofs.Lists.{length-tab, get_d_tab}
use Rattle.state_tables.specs.Classes.{class_of}
use Rattle.state_tables.specs.declared.States.{States}
use Rattle.line.specs.Line.{Line}
use Rattle.machine.specs.Pass.{pass_from}
use Rattle.machine.specs.Machine.{Machine, passed, passed_by, subtable_of}
use Rattle.machine.specs.Work.{work_leaves}
use Rattle.indexes.specs.Index.{classes_by, indexed, classes_below}
use Rattle.indexes.proofs.Laws.{right_index, indexed-none}

pub filled_right : (bytes : List ℕ) (states : States) (entries glyph : ℕ) → glyph < length (classes_below bytes states entries)
    → get_or (classes_below bytes states entries) glyph 0 ≡ class_of bytes states glyph
unfolding classes_below
filled_right bytes states entries glyph h =
    get_d_tab (class_of bytes states) entries glyph 0 (omega (arith, h, length-tab (class_of bytes states) entries))

pub filled_classes : (bytes : List ℕ) (states : States) (entries : ℕ)
    → classes_by (classes_below bytes states entries) (class_of bytes states) ≡ class_of bytes states
filled_classes bytes states entries = right_index (classes_below bytes states entries) (class_of bytes states) (filled_right bytes states entries)

pub same-pass : {S : Type 0} (machine : Machine S) (index bytes : List ℕ) (states : States) (l : Line)
    → classes_by index (class_of bytes states) ≡ class_of bytes states → passed (indexed index machine) bytes states l ≡ passed machine bytes states l
unfolding passed passed_by
same-pass machine index bytes states l e =
    ap (λ (c : ℕ → ℕ). pass_from (machine.step c bytes states) (machine.rest machine.fresh l 0) machine.fresh l 0) e

-- without entries, what is by an index is what is without one
module _ {S : Type 0} (machine : Machine S) (index : List ℕ) (e : length index ≡ 0) (bytes : List ℕ) (l : Line) where
  pub plain-answer : ((subtable_of (indexed index machine)).worked bytes l).answer ≡ ((subtable_of machine).worked bytes l).answer
  plain-answer = ap (λ (m : Machine S). ((subtable_of m).worked bytes l).answer) (indexed-none machine index e)

  pub plain-left : {A : Type 0} (of : Line → A) → of (work_leaves (subtable_of (indexed index machine)) bytes l) ≡ of (work_leaves (subtable_of machine) bytes l)
  plain-left of = ap (λ (m : Machine S). of (work_leaves (subtable_of m) bytes l)) (indexed-none machine index e)
