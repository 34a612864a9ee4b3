-- What the exported cursors leave in the numbers lent to them. A cursor crosses as the place of the next element and how many are left.
use Rattle.answers.specs.declared.Refusal.{Refusal}
use Rattle.std.specs.Prelude.{ℕ, List, [], ◌∷◌, get_or, Option, Some, None, Result, Ok, Err}
use Rattle.chains.specs.Orders.{order_of, order_number, is_reversed}
use Rattle.chains.specs.Lists.{cursor}
use Rattle.chains.specs.Entries.{chain_call, feature_call, subtable_call}
use Rattle.chains.specs.declared.Chain.{Chain}
use Rattle.chains.specs.declared.Feature.{Feature}
use Rattle.chains.specs.declared.Subtable.{Subtable}
use Rattle.chains.specs.declared.Edition.{Edition}
use Rattle.chains.specs.declared.Cursor.{Cursor}
use Rattle.firmware.specs.Steps.{is_flag, flag_number}

abbrev pub cursor_from : List ℕ → Cursor
cursor_from slots = cursor (get_or slots 0 0) (get_or slots 1 0)

abbrev pub cursor_slots : Cursor → List ℕ
cursor_slots c = c.place ∷ c.left ∷ []

-- the cursor at a table's chains; a refusal leaves what was lent
abbrev pub start_cursor : Result Cursor Refusal → (was : List ℕ) → List ℕ
start_cursor (Ok c) was = cursor_slots c
start_cursor (Err why) was = was

-- the next element from the cursor that the numbers say
unfoldable pub chain_after : Edition → List ℕ → (slots : List ℕ) → Result (Option Chain) Refusal
chain_after edition table slots = chain_call edition table (cursor_from slots)

unfoldable pub feature_after : List ℕ → (slots : List ℕ) → Result (Option Feature) Refusal
feature_after table slots = feature_call table (cursor_from slots)

unfoldable pub subtable_after : Edition → List ℕ → (slots : List ℕ) → Result (Option Subtable) Refusal
subtable_after edition table slots = subtable_call edition table (cursor_from slots)

-- the cursor goes behind an element, and stays at the end of its list
abbrev pub cursor_behind_chain : Option Chain → (was : List ℕ) → List ℕ
cursor_behind_chain (Some chain) was = cursor_slots chain.next
cursor_behind_chain None was = was

abbrev pub cursor_behind_feature : Option Feature → (was : List ℕ) → List ℕ
cursor_behind_feature (Some feature) was = cursor_slots feature.next
cursor_behind_feature None was = was

abbrev pub cursor_behind_subtable : Option Subtable → (was : List ℕ) → List ℕ
cursor_behind_subtable (Some subtable) was = cursor_slots subtable.next
cursor_behind_subtable None was = was

-- found, default flags, place and number of the features, place and number of the subtables
abbrev pub fields_of_chain : Option Chain → List ℕ
fields_of_chain (Some chain) =
    1 ∷ chain.flags ∷ chain.features.place ∷ chain.features.left ∷ chain.subtables.place ∷ chain.subtables.left ∷ []
fields_of_chain None = 0 ∷ 0 ∷ 0 ∷ 0 ∷ 0 ∷ 0 ∷ []

-- found, type, setting, enable flags, disable flags
abbrev pub fields_of_feature : Option Feature → List ℕ
fields_of_feature (Some feature) = 1 ∷ feature.selector ∷ feature.setting ∷ feature.enable ∷ feature.disable ∷ []
fields_of_feature None = 0 ∷ 0 ∷ 0 ∷ 0 ∷ 0 ∷ []

-- found, place, coverage, flags, kind, order
abbrev pub fields_of_subtable : Option Subtable → List ℕ
fields_of_subtable (Some subtable) =
    1 ∷ subtable.place ∷ subtable.coverage ∷ subtable.flags ∷ subtable.kind ∷ order_number subtable.order ∷ []
fields_of_subtable None = 0 ∷ 0 ∷ 0 ∷ 0 ∷ 0 ∷ 0 ∷ []

-- the numbers lent, afterwards; a refusal leaves them
abbrev pub chain_cursor : Result (Option Chain) Refusal → (was : List ℕ) → List ℕ
chain_cursor (Ok next) was = cursor_behind_chain next was
chain_cursor (Err why) was = was

abbrev pub chain_fields : Result (Option Chain) Refusal → (was : List ℕ) → List ℕ
chain_fields (Ok next) was = fields_of_chain next
chain_fields (Err why) was = was

abbrev pub feature_cursor : Result (Option Feature) Refusal → (was : List ℕ) → List ℕ
feature_cursor (Ok next) was = cursor_behind_feature next was
feature_cursor (Err why) was = was

abbrev pub feature_fields : Result (Option Feature) Refusal → (was : List ℕ) → List ℕ
feature_fields (Ok next) was = fields_of_feature next
feature_fields (Err why) was = was

abbrev pub subtable_cursor : Result (Option Subtable) Refusal → (was : List ℕ) → List ℕ
subtable_cursor (Ok next) was = cursor_behind_subtable next was
subtable_cursor (Err why) was = was

abbrev pub subtable_fields : Result (Option Subtable) Refusal → (was : List ℕ) → List ℕ
subtable_fields (Ok next) was = fields_of_subtable next
subtable_fields (Err why) was = was

-- whether a line is turned for a subtable of this coverage, 1 or 0
unfoldable pub reversed_number : (coverage right_to_left : ℕ) → ℕ
reversed_number coverage right_to_left = flag_number (is_reversed (order_of coverage) (is_flag right_to_left))
