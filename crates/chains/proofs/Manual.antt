-- The cursors give the manual's chains, features and subtables, and end where the manual's lists do; what a coverage says is the manual's.
use Rattle.std.specs.Prelude.{Option, Some, None}
use Prim.Native.Nat.{ℕ, zero, suc, ◌+◌, ◌-◌, ◌<◌, ◌≤◌}
use mathlib.Core.Path.{◌≡◌, refl, ◌∙◌, ap}
use mathlib.Core.Bool.{Bool, true, false, not, cond}
use mathlib.Core.List.{List}
use native.Mathlib.Omega.{arith}
use lib.Dec.{eqb}
use lib.ListN.{length}
use borrow.Author.Tests.{ne_eqb}
use Rattle.laws.specs.Bits.{is_set}
use Rattle.laws.specs.Lists.{both}
use Rattle.parse.specs.Reads.{u16_at, u32_at}
use Rattle.parse.proofs.Laws.{inside_yes, inside-over, read_u32_got, read_u32-short}
use Rattle.chains.specs.Orders.{kind_number, order_by, order_of, old_order, order_in, is_reversed, is_vertical}
use Rattle.chains.specs.Lists.{cursor, listed, width, number_at, chain_bytes, subtable_bytes, chain_count, chains_from, chain_at, next_chain, feature_at, next_feature, subtable_at, next_subtable}
use Rattle.chains.specs.Followed.{after, after_chains, after_features, after_subtables}
use Rattle.chains.specs.Manual.{is_descending, is_logical, manual_order, order_as, manual_reversed, reversed_in, only_vertical, place_from, chain_head_size, chain_size, chain_total, chain_place, feature_total, feature_place}
use Rattle.chains.specs.Manual.{subtable_head_size, subtable_total, subtable_size, subtable_place, first_subtable, manual_chain, manual_feature, manual_subtable, Lie, EndsAt}
use Rattle.chains.specs.declared.Edition.{Edition}
use Rattle.chains.specs.declared.Edition.TheVariants.{Morx, Mort}
use Rattle.chains.specs.declared.Order.TheVariants.{Layout, ReverseLayout}
use Rattle.chains.specs.declared.Cursor.{Cursor}
use Rattle.chains.specs.declared.Chain.{Chain}
use Rattle.chains.specs.declared.Feature.{Feature}
use Rattle.chains.specs.declared.Subtable.{Subtable}

-- what a coverage says
orders_alike : (descending logical : Bool) → order_by logical descending ≡ order_as descending logical
orders_alike false false = refl
orders_alike true false = refl
orders_alike false true = refl
orders_alike true true = refl

turns_alike : (descending logical right_to_left : Bool) → is_reversed (order_as descending logical) right_to_left ≡ reversed_in descending logical right_to_left
turns_alike false false right_to_left = refl
turns_alike true false right_to_left = refl
turns_alike false true right_to_left = refl
turns_alike true true right_to_left = refl

verticals_alike : (vertical either : Bool) → cond either false vertical ≡ both vertical (not either)
verticals_alike false false = refl
verticals_alike true false = refl
verticals_alike false true = refl
verticals_alike true true = refl

olds_alike : (descending : Bool) → cond descending ReverseLayout Layout ≡ order_as descending false
olds_alike false = refl
olds_alike true = refl

pub orders_as_manual : (edition : Edition) (coverage : ℕ) → order_in edition coverage ≡ manual_order edition coverage
unfolding order_in order_of old_order
orders_as_manual Morx coverage = orders_alike (is_set coverage 0x40000000) (is_set coverage 0x10000000)
orders_as_manual Mort coverage = olds_alike (is_set coverage 0x4000)

pub reverses_as_manual : (edition : Edition) (coverage : ℕ) (right_to_left : Bool)
    → is_reversed (order_in edition coverage) right_to_left ≡ manual_reversed edition coverage right_to_left
reverses_as_manual edition coverage right_to_left =
    rw (orders_as_manual edition coverage) (turns_alike (is_descending edition coverage) (is_logical edition coverage) right_to_left)

pub vertical_as_manual : (edition : Edition) (coverage : ℕ) → is_vertical edition coverage ≡ only_vertical edition coverage
unfolding is_vertical
vertical_as_manual Morx coverage = verticals_alike (is_set coverage 0x80000000) (is_set coverage 0x20000000)
vertical_as_manual Mort coverage = verticals_alike (is_set coverage 0x8000) (is_set coverage 0x2000)

-- of a morx coverage alone
module _ (coverage : ℕ) where
  pub order_as_manual : order_of coverage ≡ manual_order Morx coverage
  unfolding order_in
  order_as_manual = orders_as_manual Morx coverage

  pub reverse_as_manual : (right_to_left : Bool) → is_reversed (order_of coverage) right_to_left ≡ manual_reversed Morx coverage right_to_left
  unfolding order_in
  reverse_as_manual = reverses_as_manual Morx coverage

-- an edition's heads have as many bytes as the manual says, and its fields
pub chain_bytes_lem : (edition : Edition) → chain_bytes edition ≡ chain_head_size edition
unfolding width
chain_bytes_lem Morx = refl
chain_bytes_lem Mort = refl

pub subtable-bytes : (edition : Edition) → subtable_bytes edition ≡ subtable_head_size edition
unfolding width
subtable-bytes Morx = refl
subtable-bytes Mort = refl

chain_fields_lem : (edition : Edition) (table : List ℕ) (place left : ℕ) → chain_at edition table place left ≡ manual_chain edition table place left
unfolding chain_at width number_at
chain_fields_lem Morx table place left = refl
chain_fields_lem Mort table place left = refl

subtable_fields_lem : (edition : Edition) (table : List ℕ) (place left : ℕ) → subtable_at edition table place left ≡ manual_subtable edition table place left
unfolding subtable_at width number_at kind_number
subtable_fields_lem Morx table place left =
    rw (orders_as_manual Morx (u32_at table (place + 4)), vertical_as_manual Morx (u32_at table (place + 4)))
subtable_fields_lem Mort table place left =
    rw (orders_as_manual Mort (u16_at table (place + 2)), vertical_as_manual Mort (u16_at table (place + 2)))

-- any list: a cursor whose head lies in the table gives the element there; one whose count is used up, or whose head does not lie there, gives the end
some_left : (n : ℕ) → eqb (suc n) 0 ≡ false
some_left n = ne_eqb (suc n) 0 (λ (e : suc n ≡ 0). omega (arith, e))

module _ {T : Type 0} (table : List ℕ) (bytes : ℕ) (at : ℕ → ℕ → T) (place n : ℕ) where
  listed_here : 0 < bytes → place + bytes ≤ length table → listed table (cursor place (suc n)) bytes at ≡ Some (at place n)
  listed_here k h =
      let one : suc n - 1 ≡ n = omega arith in rw (some_left n, inside_yes table place bytes (omega arith) (omega arith), one)

  listed_cut : length table < place + bytes → listed table (cursor place (suc n)) bytes at ≡ None
  listed_cut h = rw (some_left n, inside-over table place bytes h)

module _ (table : List ℕ) (place : ℕ) where
  pub feature_none : next_feature table (cursor place 0) ≡ None
  unfolding next_feature
  feature_none = refl

  module _ (n : ℕ) where
    pub feature_here : place + 12 ≤ length table → next_feature table (cursor place (suc n)) ≡ Some (manual_feature table place n)
    unfolding next_feature feature_at
    feature_here h = listed_here table 12 (feature_at table) place n (omega arith) h

    pub feature_cut : length table < place + 12 → next_feature table (cursor place (suc n)) ≡ None
    unfolding next_feature
    feature_cut h = listed_cut table 12 (feature_at table) place n h

module _ (edition : Edition) (table : List ℕ) (place : ℕ) where
  pub chain_none : next_chain edition table (cursor place 0) ≡ None
  unfolding next_chain
  chain_none = refl

  pub subtable-none : next_subtable edition table (cursor place 0) ≡ None
  unfolding next_subtable
  subtable-none = refl

module _ (edition : Edition) (table : List ℕ) (place n : ℕ) where
  pub chain_here : place + chain_head_size edition ≤ length table → next_chain edition table (cursor place (suc n)) ≡ Some (manual_chain edition table place n)
  unfolding next_chain
  chain_here h =
      listed_here table (chain_bytes edition) (chain_at edition table) place n (omega arith) (omega (arith, h, chain_bytes_lem edition)) ∙ ap Some (chain_fields_lem edition table place n)

  pub chain_cut : length table < place + chain_head_size edition → next_chain edition table (cursor place (suc n)) ≡ None
  unfolding next_chain
  chain_cut h = listed_cut table (chain_bytes edition) (chain_at edition table) place n (omega (arith, h, chain_bytes_lem edition))

  pub subtable-here : place + subtable_head_size edition ≤ length table → next_subtable edition table (cursor place (suc n)) ≡ Some (manual_subtable edition table place n)
  unfolding next_subtable
  subtable-here h =
      listed_here table (subtable_bytes edition) (subtable_at edition table) place n (omega arith) (omega (arith, h, subtable-bytes edition)) ∙ ap Some (subtable_fields_lem edition table place n)

  pub subtable-cut : length table < place + subtable_head_size edition → next_subtable edition table (cursor place (suc n)) ≡ None
  unfolding next_subtable
  subtable-cut h = listed_cut table (subtable_bytes edition) (subtable_at edition table) place n (omega (arith, h, subtable-bytes edition))

-- where the manual's list ends the cursor does, by what it gives with none left and at a head that does not lie in the table
module _ {A : Type 0} (next : Cursor → A) (end : A) (table : List ℕ) (bytes : ℕ) (places : ℕ → ℕ) (total : ℕ)
    (none : (place : ℕ) → next (cursor place 0) ≡ end)
    (cut : (place n : ℕ) → length table < place + bytes → next (cursor place (suc n)) ≡ end) where
  pub ends_there : (n : ℕ) → EndsAt table bytes places total n → next (cursor (places n) (total - n)) ≡ end
  ends_there n e = go (total - n) refl
    where
      go : (left : ℕ) → total - n ≡ left → next (cursor (places n) left) ≡ end
      go zero f = none (places n)
      go (suc left) f = cut (places n) left (omega (arith, e.cut (omega arith)))

-- what is known of any list whose elements have these fields and sizes
record Laid {T : Type 0} (next : Cursor → Option T) (goes_on : T → Cursor) (table : List ℕ) (bytes : ℕ) (size : ℕ → ℕ) (fields : ℕ → ℕ → T) : Type 0 where
  none : (place : ℕ) → next (cursor place 0) ≡ None
  here : (place n : ℕ) → place + bytes ≤ length table → next (cursor place (suc n)) ≡ Some (fields place n)
  cut : (place n : ℕ) → length table < place + bytes → next (cursor place (suc n)) ≡ None
  goes : (place n : ℕ) → goes_on (fields place n) ≡ cursor (place + size place) n

-- So each element's cursor stands where the manual has the element, with what is left of the count, and gives the manual's fields.
module _ {T : Type 0} {next : Cursor → Option T} {goes_on : T → Cursor} {table : List ℕ} {bytes : ℕ} {size : ℕ → ℕ} {fields : ℕ → ℕ → T}
    (laid : Laid next goes_on table bytes size fields) (first count : ℕ) where
  after_some : (n : ℕ) → n ≤ count → Lie table bytes (place_from size first) n → after next goes_on n (cursor first count) ≡ cursor (place_from size first n) (count - n)
  unfolding place_from after
  after_some zero h lie = let all : count ≡ count - 0 = omega arith in ap (cursor first) all
  after_some (suc n) h lie =
      let one : count - n ≡ suc (count - suc n) = omega arith in
      let before : after next goes_on n (cursor first count) ≡ cursor (place_from size first n) (suc (count - suc n)) =
      after_some n (omega arith) (λ i k. lie i (omega arith)) ∙ ap (cursor (place_from size first n)) one in
      rw (before, laid.here (place_from size first n) (count - suc n) (lie n (omega arith)), after) (laid.goes (place_from size first n) (count - suc n))

  some_as_manual : (n : ℕ) → n < count → Lie table bytes (place_from size first) (suc n)
      → next (after next goes_on n (cursor first count)) ≡ Some (fields (place_from size first n) (count - suc n))
  some_as_manual n h lie =
      let one : count - n ≡ suc (count - suc n) = omega arith in
      ap next (after_some n (omega arith) (λ i k. lie i (omega arith)) ∙ ap (cursor (place_from size first n)) one)
      ∙ laid.here (place_from size first n) (count - suc n) (lie n (omega arith))

  some_end : (n : ℕ) → EndsAt table bytes (place_from size first) count n → next (after next goes_on n (cursor first count)) ≡ None
  some_end n e = ap next (after_some n e.counted e.lie) ∙ ends_there next None table bytes (place_from size first) count laid.none laid.cut n e

features_laid : (table : List ℕ) → Laid (next_feature table) (λ (feature : Feature). feature.next) table 12 (λ (p : ℕ). 12) (manual_feature table)
features_laid table = record { none = feature_none table; here = feature_here table; cut = feature_cut table; goes = λ place n. refl }

chains_laid : (edition : Edition) (table : List ℕ)
    → Laid (next_chain edition table) (λ (chain : Chain). chain.next) table (chain_head_size edition) (chain_size table) (manual_chain edition table)
chains_laid edition table = record { none = chain_none edition table; here = chain_here edition table; cut = chain_cut edition table; goes = λ place n. refl }

subtables_laid : (edition : Edition) (table : List ℕ)
    → Laid (next_subtable edition table) (λ (subtable : Subtable). subtable.next) table (subtable_head_size edition) (subtable_size edition table) (manual_subtable edition table)
subtables_laid edition table =
    record { none = subtable-none edition table; here = subtable-here edition table; cut = subtable-cut edition table; goes = λ place n. refl }

module _ (table : List ℕ) (start : ℕ) where
  -- a table whose own head does not lie there has no chains
  pub no_chains : length table < start + 8 → chains_from table start ≡ cursor (start + 8) 0
  unfolding chains_from chain_count
  no_chains h = rw (read_u32-short table (start + 4) (omega arith), chains_from)

  -- a list of chains begins where the manual says
  pub chains-first : start + 8 ≤ length table → chains_from table start ≡ cursor (start + 8) (chain_total table start)
  unfolding chains_from chain_count
  chains-first head = rw (read_u32_got table (start + 4) (omega arith), chains_from)

module _ (edition : Edition) (table : List ℕ) where
  -- the list of chains
  module _ (start : ℕ) (head : start + 8 ≤ length table) where
    pub chain_as_manual : (i : ℕ) → i < chain_total table start → Lie table (chain_head_size edition) (chain_place table start) (suc i)
        → next_chain edition table (after_chains table edition i (chains_from table start))
        ≡ Some (manual_chain edition table (chain_place table start i) (chain_total table start - suc i))
    chain_as_manual = rw (chains-first table start head) (some_as_manual (chains_laid edition table) (start + 8) (chain_total table start))

    pub chains-end : (n : ℕ) → EndsAt table (chain_head_size edition) (chain_place table start) (chain_total table start) n
        → next_chain edition table (after_chains table edition n (chains_from table start)) ≡ None
    chains-end = rw (chains-first table start head) (some_end (chains_laid edition table) (start + 8) (chain_total table start))

  -- the features and the subtables of the chain at a place
  module _ (chain : ℕ) where
    pub feature_as_manual : (j : ℕ) → j < feature_total edition table chain → Lie table 12 (feature_place edition chain) (suc j)
        → next_feature table (after_features table j (manual_chain edition table chain 0).features)
        ≡ Some (manual_feature table (feature_place edition chain j) (feature_total edition table chain - suc j))
    feature_as_manual = some_as_manual (features_laid table) (chain + chain_head_size edition) (feature_total edition table chain)

    pub features-end : (n : ℕ) → EndsAt table 12 (feature_place edition chain) (feature_total edition table chain) n
        → next_feature table (after_features table n (manual_chain edition table chain 0).features) ≡ None
    features-end = some_end (features_laid table) (chain + chain_head_size edition) (feature_total edition table chain)

    pub subtable_as_manual : (k : ℕ) → k < subtable_total edition table chain → Lie table (subtable_head_size edition) (subtable_place edition table chain) (suc k)
        → next_subtable edition table (after_subtables table edition k (manual_chain edition table chain 0).subtables)
        ≡ Some (manual_subtable edition table (subtable_place edition table chain k) (subtable_total edition table chain - suc k))
    subtable_as_manual = some_as_manual (subtables_laid edition table) (first_subtable edition table chain) (subtable_total edition table chain)

    pub subtables_end : (n : ℕ) → EndsAt table (subtable_head_size edition) (subtable_place edition table chain) (subtable_total edition table chain) n
        → next_subtable edition table (after_subtables table edition n (manual_chain edition table chain 0).subtables) ≡ None
    subtables_end = some_end (subtables_laid edition table) (first_subtable edition table chain) (subtable_total edition table chain)
