-- The crate's cursors followed so many times from where a list begins.
use Rattle.std.specs.Prelude.{ℕ, zero, suc, List, Option, Some, None}
use Rattle.chains.specs.Lists.{next_chain, next_feature, next_subtable}
use Rattle.chains.specs.declared.Edition.{Edition}
use Rattle.chains.specs.declared.Cursor.{Cursor}
use Rattle.chains.specs.declared.Chain.{Chain}
use Rattle.chains.specs.declared.Feature.{Feature}
use Rattle.chains.specs.declared.Subtable.{Subtable}

-- a list whose elements are given by `next`, each with the cursor behind it
module _ {T : Type 0} (next : Cursor → Option T) (goes_on : T → Cursor) where
  -- the cursor behind an element; at the end of a list it stays
  abbrev pub behind : Option T → Cursor → Cursor
  behind (Some element) c = goes_on element
  behind None c = c

  -- the cursor behind the first so many elements
  unfoldable pub after : ℕ → Cursor → Cursor
  after zero c = c
  after (suc n) c = behind (next (after n c)) (after n c)

module _ (table : List ℕ) where
  abbrev pub after_chains : Edition → ℕ → Cursor → Cursor
  after_chains edition = after (next_chain edition table) (λ (chain : Chain). chain.next)

  abbrev pub after_features : ℕ → Cursor → Cursor
  after_features = after (next_feature table) (λ (feature : Feature). feature.next)

  abbrev pub after_subtables : Edition → ℕ → Cursor → Cursor
  after_subtables edition = after (next_subtable edition table) (λ (subtable : Subtable). subtable.next)
