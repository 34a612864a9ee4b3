-- What a lookup finds in records, by the search: laws for the crates above, which unfold nothing of this one.
use Rattle.std.specs.Prelude.{Some, Ok, Err}
use Prim.Native.Nat.{ℕ, ◌+◌, ◌≤◌}
use mathlib.Core.Path.{◌≡◌, refl}
use mathlib.Core.List.{List}
use native.Mathlib.Omega.{arith}
use lib.ListN.{length}
use Rattle.parse.specs.Reads.{u16_at, read_u16}
use Rattle.parse.proofs.Laws.{read_u16_got}
use Rattle.tables.specs.Records.{record_place, format_of}
use Rattle.tables.specs.Search.{searched}
use Rattle.tables.specs.Lookup.{element_at, element_of, element_in, in_records, in_format, lookup_at}
use Rattle.tables.specs.declared.records.Format.TheVariants.{Records}
use Rattle.tables.specs.declared.records.Keys.TheVariants.{Glyphs}
use Rattle.tables.specs.declared.records.Kind.{Kind}
use Rattle.tables.specs.declared.records.Kind.TheVariants.{Ranges, Arrays, Singles}
use Rattle.tables.specs.declared.records.Spot.TheVariants as Spot'
use Rattle.tables.specs.declared.lookup.Why.TheVariants.{NotCovered}

-- the formats that have records
pub format-two : format_of 2 ≡ Records Ranges
unfolding format_of
format-two = refl

pub format_four : format_of 4 ≡ Records Arrays
unfolding format_of
format_four = refl

pub format_six : format_of 6 ≡ Records Singles
unfolding format_of
format_six = refl

module _ (bytes : List ℕ) (kind : Kind) (glyph : ℕ) where
  -- a lookup takes the element of the record that the search finds
  pub found_by_search : {number count : ℕ} → read_u16 bytes 0 ≡ Some number → format_of number ≡ Records kind → read_u16 bytes 4 ≡ Some count
      → lookup_at bytes glyph ≡ element_in bytes kind glyph (searched bytes 12 (Glyphs kind) count glyph)
  unfolding lookup_at in_format in_records
  found_by_search e f g = rw (e, f, g)

  pub found_at : (i : ℕ) → element_in bytes kind glyph (Spot'.At i) ≡ element_of bytes kind (record_place 12 kind i) glyph
  unfolding element_in
  found_at i = refl

  pub found-absent : element_in bytes kind glyph Spot'.Absent ≡ Err NotCovered
  unfolding element_in
  found-absent = refl

-- the element of a record that lies in the table
module _ (bytes : List ℕ) (place glyph : ℕ) where
  pub range_element : place + 6 ≤ length bytes → element_of bytes Ranges place glyph ≡ Ok (u16_at bytes (place + 4))
  unfolding element_of element_at
  range_element h = rw (read_u16_got bytes (place + 4) (omega arith))

  pub single_element : place + 4 ≤ length bytes → element_of bytes Singles place glyph ≡ Ok (u16_at bytes (place + 2))
  unfolding element_of element_at
  single_element h = rw (read_u16_got bytes (place + 2) (omega arith))
