-- Where a list begins.
use Prim.Native.Nat.{ℕ}
use mathlib.Core.Path.{◌≡◌, ◌∙◌}
use mathlib.Core.List.{List}
use lib.ListN.{length, drop}
use lib.Seq.{drop-length}
use borrow.Author.Tests.{eq-eqb, ne_eqb}
use Rattle.kerning_lists.specs.Walk.{list_bytes}

module _ (table : List ℕ) (start : ℕ) {part : List ℕ} where
  pub starts_nowhere : part ≡ drop (length table) table → start ≡ 0 → part ≡ list_bytes table start
  unfolding list_bytes
  starts_nowhere e h = e ∙ drop-length table ∙ rw (eq-eqb start 0 h)

  pub starts_there : part ≡ drop start table → (start ≡ 0 → ⊥) → part ≡ list_bytes table start
  unfolding list_bytes
  starts_there e h = e ∙ rw (ne_eqb start 0 h)
