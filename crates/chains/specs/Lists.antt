-- The crate's iterators over chains, features and subtables, as cursors, and the same over a mort table. Places are those of the whole table.
use Rattle.std.specs.Prelude.{ℕ, ◌+◌, ◌*◌, ◌-◌, cond, List, Option, Some, None}
use Rattle.laws.specs.Choose.{if_eq}
use Rattle.parse.specs.Reads.{inside, u16_at, u32_at, read_u32}
use Rattle.parse.specs.Use.{on_u32}
use Rattle.chains.specs.Orders.{kind_number, order_in, is_vertical}
use Rattle.chains.specs.declared.Edition.{Edition}
use Rattle.chains.specs.declared.Edition.TheVariants.{Morx, Mort}
use Rattle.chains.specs.declared.Cursor.{Cursor}
use Rattle.chains.specs.declared.Chain.{Chain}
use Rattle.chains.specs.declared.Feature.{Feature}
use Rattle.chains.specs.declared.Subtable.{Subtable}

abbrev pub cursor : (place left : ℕ) → Cursor
cursor place left = record { place = place; left = left }

-- the next element of a list, whose head has so many bytes: none where the count is used up or the head does not lie in the table
abbrev pub listed : {T : Type 0} → List ℕ → Cursor → (bytes : ℕ) → (at : ℕ → ℕ → T) → Option T
listed table c bytes at = if_eq c.left 0 None (cond (inside table c.place bytes) (Some (at c.place (c.left - 1))) None)

-- the number of chains is at 4; where it can't be read there are none
unfoldable pub chain_count : List ℕ → (start : ℕ) → ℕ
chain_count table start = on_u32 (read_u32 table (start + 4)) (λ count. count) 0

-- the chains begin at 8
unfoldable pub chains_from : List ℕ → (start : ℕ) → Cursor
chains_from table start = cursor (start + 8) (chain_count table start)

-- the numbers of features and subtables, and a subtable's length and coverage: 32 bits in morx, 16 in mort
unfoldable pub width : Edition → ℕ
width Morx = 4
width Mort = 2

unfoldable pub number_at : Edition → List ℕ → (place : ℕ) → ℕ
number_at Morx table place = u32_at table place
number_at Mort table place = u16_at table place

-- a chain's head has 16 bytes in morx and 12 in mort: default flags, length, of 32 bits each, number of features, number of subtables
abbrev pub chain_bytes : Edition → ℕ
chain_bytes edition = 8 + 2 * width edition

-- its features follow, of 12 bytes each, then its subtables; the next chain begins where the length says
unfoldable pub chain_at : Edition → List ℕ → (place left : ℕ) → Chain
chain_at edition table place left =
    record {
      flags = u32_at table place;
      features = cursor (place + chain_bytes edition) (number_at edition table (place + 8));
      subtables =
          cursor (place + chain_bytes edition + number_at edition table (place + 8) * 12) (number_at edition table (place + (8 + width edition)));
      next = cursor (place + u32_at table (place + 4)) left;
    }

unfoldable pub next_chain : Edition → List ℕ → Cursor → Option Chain
next_chain edition table c = listed table c (chain_bytes edition) (chain_at edition table)

-- a feature has 12 bytes: type, setting, the flags that it enables, those that it does not disable
unfoldable pub feature_at : List ℕ → (place left : ℕ) → Feature
feature_at table place left =
    record {
      selector = u16_at table place;
      setting = u16_at table (place + 2);
      enable = u32_at table (place + 4);
      disable = u32_at table (place + 8);
      next = cursor (place + 12) left;
    }

unfoldable pub next_feature : List ℕ → Cursor → Option Feature
next_feature table c = listed table c 12 (feature_at table)

-- a subtable's head has 12 bytes in morx and 8 in mort: length, coverage, and flags, of 32 bits; the next one begins where the length says
abbrev pub subtable_bytes : Edition → ℕ
subtable_bytes edition = 2 * width edition + 4

unfoldable pub subtable_at : Edition → List ℕ → (place left : ℕ) → Subtable
subtable_at edition table place left =
    let coverage : ℕ = number_at edition table (place + width edition) in
    record {
      place = place;
      coverage = coverage;
      kind = kind_number edition coverage;
      order = order_in edition coverage;
      vertical = is_vertical edition coverage;
      flags = u32_at table (place + 2 * width edition);
      next = cursor (place + number_at edition table place) left;
    }

unfoldable pub next_subtable : Edition → List ℕ → Cursor → Option Subtable
next_subtable edition table c = listed table c (subtable_bytes edition) (subtable_at edition table)
