-- Apple's manual on morx tables, and on mort tables before them: where chain i, its feature j and its subtable k begin, what their fields are, what a coverage says, and the heads of
-- a table one after the other. The manual was not at hand: docs/DIFFERENCES.md says what these lines rest on.
use Rattle.std.specs.Prelude.{ℕ, zero, suc, ◌+◌, ◌*◌, ◌%◌, ◌≤◌, ◌<◌, Bool, true, false, not, cond, List, [], ◌∷◌, ◌++◌, length}
use Rattle.std.specs.Int.Bits.{bit_and, bit_or}
use Rattle.laws.specs.Bits.{is_set}
use Rattle.laws.specs.Choose.{if_lt}
use Rattle.laws.specs.Lists.{both}
use Rattle.parse.specs.Reads.{u16_at, u32_at}
use Rattle.chains.specs.Features.{is_asked}
use Rattle.chains.specs.declared.Edition.{Edition}
use Rattle.chains.specs.declared.Edition.TheVariants.{Morx, Mort}
use Rattle.chains.specs.declared.Cursor.{Cursor}
use Rattle.chains.specs.declared.Chain.{Chain}
use Rattle.chains.specs.declared.Feature.{Feature}
use Rattle.chains.specs.declared.Subtable.{Subtable}
use Rattle.chains.specs.declared.Order.{Order}
use Rattle.chains.specs.declared.Order.TheVariants.{Layout, ReverseLayout, Logical, ReverseLogical}
use Rattle.chains.specs.declared.Head.{Head}
use Rattle.chains.specs.declared.Head.TheVariants as Head'

-- A coverage, of 32 bits in morx and of 16 in mort: the kind is its low byte in morx, and its low three bits in mort.
abbrev pub manual_kind : Edition → (coverage : ℕ) → ℕ
manual_kind Morx coverage = coverage % 256
manual_kind Mort coverage = coverage % 8

-- 0x80000000 is for vertical text alone, unless 0x20000000 says both directions; in mort 0x8000 and 0x2000
abbrev pub only_vertical : Edition → (coverage : ℕ) → Bool
only_vertical Morx coverage = both (is_set coverage 0x80000000) (not (is_set coverage 0x20000000))
only_vertical Mort coverage = both (is_set coverage 0x8000) (not (is_set coverage 0x2000))

-- descending order and logical order, which mort does not define
abbrev pub is_descending : Edition → (coverage : ℕ) → Bool
is_descending Morx coverage = is_set coverage 0x40000000
is_descending Mort coverage = is_set coverage 0x4000

abbrev pub is_logical : Edition → (coverage : ℕ) → Bool
is_logical Morx coverage = is_set coverage 0x10000000
is_logical Mort coverage = false

-- the manual's table: the order in which glyphs are wanted
abbrev pub order_as : (descending logical : Bool) → Order
order_as false false = Layout
order_as true false = ReverseLayout
order_as false true = Logical
order_as true true = ReverseLogical

abbrev pub manual_order : Edition → (coverage : ℕ) → Order
manual_order edition coverage = order_as (is_descending edition coverage) (is_logical edition coverage)

-- its last column: whether glyphs in logical order are reversed for it, by the direction of the text
abbrev pub reversed_in : (descending logical right_to_left : Bool) → Bool
reversed_in false false right_to_left = right_to_left
reversed_in true false right_to_left = not right_to_left
reversed_in false true right_to_left = false
reversed_in true true right_to_left = true

abbrev pub manual_reversed : Edition → (coverage : ℕ) → (right_to_left : Bool) → Bool
manual_reversed edition coverage right_to_left = reversed_in (is_descending edition coverage) (is_logical edition coverage) right_to_left

-- element i of a list, where each has a size of its own and the next one follows it
unfoldable pub place_from : (size : ℕ → ℕ) → (first i : ℕ) → ℕ
place_from size first zero = first
place_from size first (suc i) = place_from size first i + size (place_from size first i)

-- a list goes on at a place, with so many elements
abbrev pub goes_on : (place left : ℕ) → Cursor
goes_on place left = record { place = place; left = left }

-- how many bytes the heads of a chain and of a subtable have
abbrev pub chain_head_size : Edition → ℕ
chain_head_size Morx = 16
chain_head_size Mort = 12

abbrev pub subtable_head_size : Edition → ℕ
subtable_head_size Morx = 12
subtable_head_size Mort = 8

-- a chain: the number of its features is at 8, of 32 bits in morx and of 16 in mort; that of its subtables, of as many bits, follows
abbrev pub feature_total : Edition → List ℕ → (chain : ℕ) → ℕ
feature_total Morx table chain = u32_at table (chain + 8)
feature_total Mort table chain = u16_at table (chain + 8)

abbrev pub subtable_total : Edition → List ℕ → (chain : ℕ) → ℕ
subtable_total Morx table chain = u32_at table (chain + 12)
subtable_total Mort table chain = u16_at table (chain + 10)

-- the features begin behind the chain's head, with 12 bytes each
abbrev pub feature_place : Edition → (chain j : ℕ) → ℕ
feature_place edition chain j = place_from (λ (p : ℕ). 12) (chain + chain_head_size edition) j

-- a subtable: its length is at its start, its coverage behind that, its flags, of 32 bits, behind that
abbrev pub subtable_size : Edition → List ℕ → (subtable : ℕ) → ℕ
subtable_size Morx table subtable = u32_at table subtable
subtable_size Mort table subtable = u16_at table subtable

abbrev pub subtable_coverage : Edition → List ℕ → (subtable : ℕ) → ℕ
subtable_coverage Morx table subtable = u32_at table (subtable + 4)
subtable_coverage Mort table subtable = u16_at table (subtable + 2)

abbrev pub subtable_flags : Edition → List ℕ → (subtable : ℕ) → ℕ
subtable_flags Morx table subtable = u32_at table (subtable + 8)
subtable_flags Mort table subtable = u32_at table (subtable + 4)

module _ (table : List ℕ) where
  -- the table: the number of chains is at 4, and they begin at 8; a chain's length is at 4
  abbrev pub chain_total : (start : ℕ) → ℕ
  chain_total start = u32_at table (start + 4)

  abbrev pub chain_size : (chain : ℕ) → ℕ
  chain_size chain = u32_at table (chain + 4)

  abbrev pub chain_place : (start i : ℕ) → ℕ
  chain_place start i = place_from chain_size (start + 8) i

  -- the fields of the feature at a place, and where its list goes on, with so many elements left
  abbrev pub manual_feature : (feature left : ℕ) → Feature
  manual_feature feature left =
      record {
        selector = u16_at table feature;
        setting = u16_at table (feature + 2);
        enable = u32_at table (feature + 4);
        disable = u32_at table (feature + 8);
        next = goes_on (feature + 12) left;
      }

module _ (edition : Edition) (table : List ℕ) where
  -- the subtables begin behind the features
  abbrev pub first_subtable : (chain : ℕ) → ℕ
  first_subtable chain = chain + chain_head_size edition + feature_total edition table chain * 12

  abbrev pub subtable_place : (chain k : ℕ) → ℕ
  subtable_place chain k = place_from (subtable_size edition table) (first_subtable chain) k

  -- the fields of the chain and the subtable at a place
  abbrev pub manual_chain : (chain left : ℕ) → Chain
  manual_chain chain left =
      record {
        flags = u32_at table chain;
        features = goes_on (chain + chain_head_size edition) (feature_total edition table chain);
        subtables = goes_on (first_subtable chain) (subtable_total edition table chain);
        next = goes_on (chain + chain_size table chain) left;
      }

  abbrev pub manual_subtable : (subtable left : ℕ) → Subtable
  manual_subtable subtable left =
      record {
        place = subtable;
        coverage = subtable_coverage edition table subtable;
        kind = manual_kind edition (subtable_coverage edition table subtable);
        order = manual_order edition (subtable_coverage edition table subtable);
        vertical = only_vertical edition (subtable_coverage edition table subtable);
        flags = subtable_flags edition table subtable;
        next = goes_on (subtable + subtable_size edition table subtable) left;
      }

  -- The flags behind the first n features of a chain, from its default flags on: one whose type and setting are asked for leaves of them what its last field
  -- has, and sets those of the field before.
  unfoldable pub manual_flags : (requests : List ℕ) → (chain n : ℕ) → ℕ
  manual_flags requests chain zero = u32_at table chain
  manual_flags requests chain (suc n) =
      let before : ℕ = manual_flags requests chain n in
      let feature : ℕ = feature_place edition chain n in
      cond (is_asked requests (u16_at table feature * 65536 + u16_at table (feature + 2)))
      (bit_or (bit_and before (u32_at table (feature + 8))) (u32_at table (feature + 4))) before

  -- The heads of the subtables from a place on, so many of them counted: the list ends at its count, or at the first head that does not lie in the table.
  unfoldable pub subtable_heads : (place count : ℕ) → List Head
  subtable_heads place zero = []
  subtable_heads place (suc left) =
      if_lt (length table) (place + subtable_head_size edition) []
      (Head'.Subtable (manual_subtable place left) ∷ subtable_heads (place + subtable_size edition table place) left)

  -- so do those of the chains, each with the heads of its subtables behind it
  unfoldable pub chain_heads : (place count : ℕ) → List Head
  chain_heads place zero = []
  chain_heads place (suc left) =
      if_lt (length table) (place + chain_head_size edition) []
      (Head'.Chain (manual_chain place left)
      ∷ subtable_heads (first_subtable place) (subtable_total edition table place) ++ chain_heads (place + chain_size table place) left)

  -- all heads of the table at a start, of which 8 bytes are to lie there
  unfoldable pub manual_heads : (start : ℕ) → List Head
  manual_heads start = if_lt (length table) (start + 8) [] (chain_heads (start + 8) (chain_total table start))

-- the heads of the first n elements lie in the table, each of so many bytes
abbrev pub Lie : List ℕ → (bytes : ℕ) → (places : ℕ → ℕ) → (n : ℕ) → Type 0
Lie table bytes places n = (i : ℕ) → i < n → places i + bytes ≤ length table

-- a list of so many elements ends behind the first n: these are all, or the next one's head does not lie in the table
pub record EndsAt (table : List ℕ) (bytes : ℕ) (places : ℕ → ℕ) (total n : ℕ) : Type 0 where
  pub counted : n ≤ total
  pub lie : Lie table bytes places n
  pub cut : n < total → places n + bytes ≤ length table → ⊥
