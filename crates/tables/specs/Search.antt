-- The crate's search by halves.
use Rattle.std.specs.Prelude.{ℕ, zero, suc, ◌+◌, ◌/◌, true, false, List, ltb}
use Rattle.laws.specs.Choose.{if_lt}
use Rattle.parse.specs.Reads.{read_u16, read_u32}
use Rattle.parse.specs.Use.{on_u16, on_u32}
use Rattle.tables.specs.Records.{record_place, pair_place}
use Rattle.tables.specs.declared.records.Kind.{Kind}
use Rattle.tables.specs.declared.records.Kind.TheVariants.{Ranges, Arrays, Singles}
use Rattle.tables.specs.declared.records.Keys.{Keys}
use Rattle.tables.specs.declared.records.Keys.TheVariants.{Glyphs, Pairs}
use Rattle.tables.specs.declared.records.Side.{Side}
use Rattle.tables.specs.declared.records.Side.TheVariants.{Left, Here, Right, Cut}
use Rattle.tables.specs.declared.records.Spot.{Spot}
use Rattle.tables.specs.declared.records.Spot.TheVariants as Spot'

-- a key against the first and last glyph of a record
abbrev pub against : ℕ → ℕ → ℕ → Side
against key first last = if_lt last key Right (if_lt key first Left Here)

-- format 2 reads first only where last does not decide
unfoldable pub side_of_range : List ℕ → ℕ → ℕ → Side
side_of_range bytes place key =
    on_u16 (read_u16 bytes place)
    (λ last. if_lt last key Right (on_u16 (read_u16 bytes (place + 2)) (λ first. if_lt key first Left Here) Cut))
    Cut

-- format 4 reads first, then last
unfoldable pub side_of_array : List ℕ → ℕ → ℕ → Side
side_of_array bytes place key =
    on_u16 (read_u16 bytes (place + 2)) (λ first. on_u16 (read_u16 bytes place) (λ last. against key first last) Cut) Cut

-- format 6 has one glyph
unfoldable pub side_of_single : List ℕ → ℕ → ℕ → Side
side_of_single bytes place key = on_u16 (read_u16 bytes place) (λ glyph. against key glyph glyph) Cut

-- a kerning pair has one key, both glyphs as one number of 32 bits
unfoldable pub side_of_pair : List ℕ → ℕ → ℕ → Side
side_of_pair bytes place key = on_u32 (read_u32 bytes place) (λ pair. against key pair pair) Cut

-- where a glyph lies from record i of a lookup table
unfoldable pub side_of_record : List ℕ → ℕ → Kind → ℕ → ℕ → Side
side_of_record bytes base Ranges key i = side_of_range bytes (record_place base Ranges i) key
side_of_record bytes base Arrays key i = side_of_array bytes (record_place base Arrays i) key
side_of_record bytes base Singles key i = side_of_single bytes (record_place base Singles i) key

-- where a key lies from record or pair i
unfoldable pub side_of : List ℕ → ℕ → Keys → ℕ → ℕ → Side
side_of bytes base (Glyphs kind) key i = side_of_record bytes base kind key i
side_of bytes base Pairs key i = side_of_pair bytes (pair_place base i) key

-- halving between lo and hi, by the side on which the key lies from the record in the middle; `turns` bounds how often
unfoldable pub find : (ℕ → Side) → ℕ → ℕ → ℕ → Spot
find side zero lo hi = Spot'.Absent
find side (suc turns) lo hi =
    elim (ltb lo hi) [
      | false ↦ Spot'.Absent
      | true ↦
          elim (side ((lo + hi) / 2)) [
            | Left ↦ find side turns lo ((lo + hi) / 2)
            | Right ↦ find side turns ((lo + hi) / 2 + 1) hi
            | Here ↦ Spot'.At ((lo + hi) / 2)
            | Cut ↦ Spot'.Cut
          ]
    ]

-- over `count` records or pairs, of which each turn leaves fewer
unfoldable pub searched : List ℕ → ℕ → Keys → ℕ → ℕ → Spot
searched bytes base keys count key = find (side_of bytes base keys key) count 0 count
