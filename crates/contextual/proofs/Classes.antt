-- The class table that a pass opens, and the class of a place by it.
use Prim.Native.Nat.{ℕ}
use mathlib.Core.Path.{◌≡◌, subst⁻¹}
use mathlib.Core.List.{List}
use Rattle.state_tables.specs.Opened.{opened_classes, class_by, LiesIn, Remembers, nothing_found}
use Rattle.state_tables.specs.declared.Edition.{Edition}
use Rattle.state_tables.specs.declared.opened.Classes.{Classes}
use Rattle.state_tables.proofs.Openings.{classes-lie, deleted-class, nothing_remembered}

-- a state table's own class table
pub own-lies : (bytes : List ℕ) (edition : Edition) {table : Classes} → table ≡ opened_classes bytes edition → LiesIn bytes table
own-lies bytes edition e = subst⁻¹ (λ (t : Classes). LiesIn bytes t) e (classes-lie bytes edition)

-- at first nothing is remembered
pub memory_start : (bytes : List ℕ) (table : Classes) {memo : List ℕ} → memo ≡ nothing_found → Remembers (class_by bytes table) memo
memory_start bytes table e = subst⁻¹ (λ (m : List ℕ). Remembers (class_by bytes table) m) e (nothing_remembered (deleted-class bytes table))
