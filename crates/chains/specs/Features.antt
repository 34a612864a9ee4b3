-- What an operator asks for, and the flags that a chain's features make of those it begins with.
use Rattle.std.specs.Prelude.{ℕ, zero, suc, ◌+◌, ◌*◌, Bool, true, false, cond, List, [], ◌∷◌, Some, None}
use Rattle.std.specs.Int.Bits.{bit_and, bit_or}
use Rattle.laws.specs.Choose.{if_eq}
use Rattle.chains.specs.Lists.{next_feature}
use Rattle.chains.specs.declared.Cursor.{Cursor}
use Rattle.chains.specs.declared.Feature.{Feature}

-- a feature is asked for by one number: its type times 65,536 plus its setting
unfoldable pub request_of : Feature → ℕ
request_of feature = feature.selector * 65536 + feature.setting

-- a number is among the requests
unfoldable pub is_asked : (requests : List ℕ) → (wanted : ℕ) → Bool
is_asked [] wanted = false
is_asked (request ∷ requests) wanted = if_eq request wanted true (is_asked requests wanted)

-- a feature that is asked for clears what its `disable` does not keep, then sets its `enable`; any other does nothing
unfoldable pub switched : (requests : List ℕ) → Feature → (flags : ℕ) → ℕ
switched requests feature flags =
    cond (is_asked requests (request_of feature)) (bit_or (bit_and flags feature.disable) feature.enable) flags

-- the features of a list, at most so many, in table order: it ends at its count, or at the first that does not lie wholly in the table
unfoldable pub features_of : List ℕ → (most : ℕ) → Cursor → List Feature
features_of table zero c = []
features_of table (suc most) c =
    elim (next_feature table c) [
      | Some feature ↦ feature ∷ features_of table most feature.next
      | None ↦ []
    ]

-- the flags behind one feature after the other
unfoldable pub switched_by : (requests : List ℕ) → List Feature → (flags : ℕ) → ℕ
switched_by requests [] flags = flags
switched_by requests (feature ∷ features) flags = switched_by requests features (switched requests feature flags)

-- and behind all of a list, which has no more than it counts
unfoldable pub flags_behind : List ℕ → (features : Cursor) → (flags : ℕ) → (requests : List ℕ) → ℕ
flags_behind table features flags requests = switched_by requests (features_of table features.left features) flags
