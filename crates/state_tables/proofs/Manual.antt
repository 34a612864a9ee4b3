-- The class and the entry that are read are the manual's.
use Rattle.std.specs.Prelude.{Option, Some, None, Result, Ok, Err}
use Prim.Native.Nat.{ℕ, ◌+◌, ◌-◌, ◌*◌, ◌/◌, ◌<◌, ◌≤◌}
use mathlib.Core.Path.{◌≡◌, refl, sym, ◌∙◌, ap, subst⁻¹}
use mathlib.Core.List.{List}
use mathlib.Core.Logic.{⊎_elim}
use native.Mathlib.Nat.{add-zero, div-eq_of_eq-mul_left}
use native.Mathlib.Omega.{arith}
use lib.ListN.{length, drop}
use borrow.Author.Tests.{lt-ltb, le-ltb, eq-eqb, ne_eqb}
use Rattle.laws.proofs.Numbers.{lt-or-ge, eq-or-ne}
use Rattle.laws.specs.Choose.{if_eq}
use Rattle.parse.specs.Reads.{u8_at, u16_at, u32_at, read_u8, read_u16}
use Rattle.parse.proofs.Laws.{u8_from, u16_from, u8_read, u8_value, u16_value, read_u16_got}
use Rattle.tables.specs.Lookup.{lookup_at}
use Rattle.tables.specs.Units.{lookup_by}
use Rattle.tables.specs.ManualLookup.{format_number, Alike}
use Rattle.tables.specs.ManualLookup as Lookup
use Rattle.tables.specs.declared.lookup.Why.{Why}
use Rattle.tables.specs.declared.units.Reading.TheVariants.{Crate, Manual}
use Rattle.tables.proofs.ManualLookup.{lookup_as_manual}
use Rattle.tables.proofs.Sizes.{in_crate, other_formats}
use Rattle.state_tables.specs.States.{extended_by, extended_at, classic_at}
use Rattle.state_tables.specs.Classes.{found_class, class_by_lookup, class_by_array, class_in, class_of}
use Rattle.state_tables.specs.Entries.{read_narrow, number_in, entry_number, by_row, resolved_in, resolved}
use Rattle.state_tables.specs.Manual.{ClassIs, deleted, covered, uncovered, Layout, extended, classic, class_table, LookupGives, ArrayGives, class_count, cell_place, EntryLies, Names, head_at, IsEntry, AsManual}
use Rattle.state_tables.specs.declared.States.{States}
use Rattle.state_tables.specs.declared.entries.Entry.{Entry}
use Rattle.state_tables.proofs.Heads.{extended_states, classic_states, extended_by_lem, extended_is, classic_is}
use Rattle.state_tables.proofs.Readings.{Steps, raw_at, entry_by, entry-steps, by_row_lem}

-- the class in an array, whose bytes lie in the table
module _ (bytes : List ℕ) (table glyph : ℕ) (real : glyph ≡ 65535 → ⊥) where
  first-is : u16_at (drop table bytes) 0 ≡ u16_at bytes table
  first-is = u16_from bytes table 0 ∙ ap (u16_at bytes) (add-zero table)

  count_is : u16_at (drop table bytes) 2 ≡ u16_at bytes (table + 2)
  count_is = u16_from bytes table 2

  class_is : u8_at (drop table bytes) (4 + (glyph - u16_at (drop table bytes) 0)) ≡ u8_at bytes (table + 4 + (glyph - u16_at bytes table))
  class_is =
      ap (λ (n : ℕ). u8_at (drop table bytes) (4 + (glyph - n))) first-is
      ∙ u8_from bytes table (4 + (glyph - u16_at bytes table)) ∙ ap (u8_at bytes) (omega arith)

  in_array : table + 4 + u16_at bytes (table + 2) ≤ length bytes
      → ClassIs (ArrayGives (drop table bytes) glyph) glyph (class_by_array bytes (table + 4) (u16_at bytes table) (u16_at bytes (table + 2)) glyph)
  unfolding class_by_array
  in_array inside =
      ⊎_elim
      (λ (h : glyph < u16_at bytes table). rw (lt-ltb _ _ h) (uncovered real (λ class g. omega (arith, first-is, g.0))))
      (λ (h : u16_at bytes table ≤ glyph).
      ⊎_elim
      (λ (k : glyph - u16_at bytes table < u16_at bytes (table + 2)).
      rw (le-ltb _ _ h, lt-ltb _ _ k, ← (u8_read bytes (table + 4 + (glyph - u16_at bytes table)) (omega arith)))
      (covered real ((omega (arith, first-is), omega (arith, first-is, count_is)), sym class_is)))
      (λ (k : u16_at bytes (table + 2) ≤ glyph - u16_at bytes table).
      rw (le-ltb _ _ h, le-ltb _ _ k) (uncovered real (λ class g. omega (arith, first-is, count_is, g.0))))
      (lt-or-ge (glyph - u16_at bytes table) (u16_at bytes (table + 2))))
      (lt-or-ge glyph (u16_at bytes table))

-- a classic class, of any glyph
pub class_by_array_lem : (bytes : List ℕ) (glyph : ℕ) {states : States} → classic_at bytes ≡ Some states
    → ClassIs (ArrayGives (drop (class_table classic bytes) bytes) glyph) glyph (class_of bytes states glyph)
unfolding class_of class_in
class_by_array_lem bytes glyph e =
    let h = classic_is bytes e in
    subst⁻¹ (λ (s : States). ClassIs (ArrayGives (drop (class_table classic bytes) bytes) glyph) glyph (class_of bytes s glyph)) h.states_are
    (⊎_elim
    (λ (d : glyph ≡ 65535). rw (eq-eqb glyph 65535 d) (deleted d))
    (λ (real : glyph ≡ 65535 → ⊥). rw (ne_eqb glyph 65535 real) (in_array bytes (class_table classic bytes) glyph real h.array_inside))
    (eq-or-ne glyph 65535))

-- an extended class, where the class table reads as the manual's lookup table
in_lookup : (table : List ℕ) (layout : Lookup.Layout) (glyphs glyph : ℕ) → (glyph ≡ 65535 → ⊥) → Lookup.AsManual table glyphs glyph layout
    → (found : Result ℕ Why) → lookup_at table glyph ≡ found → ClassIs (LookupGives table layout glyphs glyph) glyph (found_class found)
in_lookup table layout glyphs glyph real m (Ok class) e = covered real (m.found class e)
in_lookup table layout glyphs glyph real m (Err why) e =
    uncovered real
    (λ class g. let t = m.there g.0 g.1 g.2 in let z : ◌≡◌ {A = ℕ} 0 1 = cc in omega arith)

pub class_by-lookup : (bytes : List ℕ) (layout : Lookup.Layout) (glyphs glyph : ℕ) {states : States} → extended_at bytes ≡ Some states
    → read_u16 (drop (class_table extended bytes) bytes) 0 ≡ Some (format_number layout)
    → ((glyph ≡ 65535 → ⊥) → Alike (drop (class_table extended bytes) bytes) glyphs glyph layout)
    → ClassIs (LookupGives (drop (class_table extended bytes) bytes) layout glyphs glyph) glyph (class_of bytes states glyph)
unfolding class_of class_in class_by_lookup
class_by-lookup bytes layout glyphs glyph e format alike =
    let table = drop (class_table extended bytes) bytes in
    subst⁻¹ (λ (s : States). ClassIs (LookupGives table layout glyphs glyph) glyph (class_of bytes s glyph)) (extended_is bytes e)
    (⊎_elim
    (λ (d : glyph ≡ 65535). rw (eq-eqb glyph 65535 d) (deleted d))
    (λ (real : glyph ≡ 65535 → ⊥).
    rw (ne_eqb glyph 65535 real)
    (in_lookup table layout glyphs glyph real (lookup_as_manual layout table glyphs glyph format (alike real)) (lookup_by Crate table glyph) (sym (in_crate table glyph))))
    (eq-or-ne glyph 65535))

-- a lookup that finds nothing gives class 1, whatever the reason
pub class_drops : (bytes : List ℕ) (glyph : ℕ) (why : Why) {states : States} → extended_at bytes ≡ Some states → (glyph ≡ 65535 → ⊥)
    → lookup_at (drop (class_table extended bytes) bytes) glyph ≡ Err why → class_of bytes states glyph ≡ 1
unfolding class_of class_in class_by_lookup
class_drops bytes glyph why e real f = ap (λ (s : States). class_of bytes s glyph) (extended_is bytes e) ∙ rw (ne_eqb glyph 65535 real, in_crate (drop (class_table extended bytes) bytes) glyph, f)

-- where the class table is not of format 10, both readings give the same classes
pub readings_class : (bytes : List ℕ) (glyph : ℕ) → (read_u16 (drop (u32_at bytes 4) bytes) 0 ≡ Some 10 → ⊥) → {crates manuals : States}
    → extended_by Crate bytes ≡ Some crates → extended_by Manual bytes ≡ Some manuals → class_of bytes manuals glyph ≡ class_of bytes crates glyph
unfolding class_of class_in class_by_lookup
readings_class bytes glyph other c m =
    let table = drop (u32_at bytes 4) bytes in
    ap (λ (s : States). class_of bytes s glyph) (extended_by_lem Manual bytes m)
    ∙ ap (λ (f : Result ℕ Why). if_eq glyph 65535 2 (found_class f)) (other_formats table glyph other ∙ sym (in_crate table glyph))
    ∙ sym (ap (λ (s : States). class_of bytes s glyph) (extended_by_lem Crate bytes c))

-- the cell that is read is the manual's
module _ (bytes : List ℕ) (state class : ℕ) where
  extended-cell : u32_at bytes 8 + (state * u32_at bytes 0 + class) * 2 ≡ cell_place extended bytes state class
  extended-cell = omega arith

  classic-cell : u16_at bytes 4 + (state * u16_at bytes 0 + class) ≡ cell_place classic bytes state class
  classic-cell = omega arith

-- an extended entry
module _ (bytes : List ℕ) (state class payload : ℕ) where
  extended-there : (place next : ℕ) → EntryLies extended bytes state class payload place → u16_at bytes place ≡ next
      → Steps bytes (extended_states bytes) state class payload (record { state = next; flags = u16_at bytes (place + 2); payload = place + 4 })
  unfolding entry_number number_in resolved resolved_in
  extended-there place next l n =
      record {
        number = u16_at bytes (cell_place extended bytes state class);
        place = place;
        numbered = rw (extended-cell bytes state class) (read_u16_got bytes (cell_place extended bytes state class) l.cell);
        lies = l.numbered;
        whole = l.whole;
        leads = rw n;
      }

  extended-found : (entry : Entry) → class < class_count extended bytes → Steps bytes (extended_states bytes) state class payload entry
      → IsEntry extended bytes state class payload entry
  unfolding entry_number number_in resolved resolved_in
  extended-found entry column s =
      let (inside, value) = u16_value bytes (u32_at bytes 8 + (state * u32_at bytes 0 + class) * 2) s.numbered in
      let cell = extended-cell bytes state class in
      let same : entry ≡ raw_at bytes s.place = cc s.leads in
      record {
        place = s.place;
        lies = record {
          column = column;
          cell = rw cell at inside;
          numbered = s.lies ∙ ap (λ (n : ℕ). u32_at bytes 12 + n * (4 + payload)) (value ∙ ap (u16_at bytes) cell);
          whole = s.whole;
        };
        leads = λ next n. ap (λ (x : Entry). x.state) same ∙ n;
        flags = ap (λ (x : Entry). x.flags) same;
        behind = ap (λ (x : Entry). x.payload) same;
      }

-- the state whose row begins at a place
row_of_lem : (array classes number next : ℕ) → (classes ≡ 0 → ⊥) → number ≡ array + next * (classes * 1) → (number - array) / classes ≡ next
row_of_lem array classes number next some n = div-eq_of_eq-mul_left (omega (arith, some)) (omega arith)

-- a classic entry
module _ (bytes : List ℕ) (state class payload : ℕ) where
  classic-number : cell_place classic bytes state class + 1 ≤ length bytes
      → entry_number bytes (classic_states bytes) state class ≡ Some (u8_at bytes (cell_place classic bytes state class))
  unfolding entry_number number_in read_narrow
  classic-number h = rw (classic-cell bytes state class, ← (u8_read bytes (cell_place classic bytes state class) (omega arith)))

  classic-there : (place next : ℕ) → EntryLies classic bytes state class payload place → Names classic bytes (u16_at bytes place) next
      → Steps bytes (classic_states bytes) state class payload (record { state = next; flags = u16_at bytes (place + 2); payload = place + 4 })
  unfolding resolved resolved_in by_row
  classic-there place next l n =
      record {
        number = u8_at bytes (cell_place classic bytes state class);
        place = place;
        numbered = classic-number l.cell;
        lies = l.numbered;
        whole = l.whole;
        leads =
            rw (
              le-ltb (u16_at bytes place) (u16_at bytes 4) (omega (arith, n)),
              ne_eqb (u16_at bytes 0) 0 (omega (arith, l.column)),
              row_of_lem (u16_at bytes 4) (u16_at bytes 0) (u16_at bytes place) next (omega (arith, l.column)) n,
            );
      }

  classic-value : {number : ℕ} → entry_number bytes (classic_states bytes) state class ≡ Some number
      → (cell_place classic bytes state class + 1 ≤ length bytes) × (number ≡ u8_at bytes (cell_place classic bytes state class))
  unfolding entry_number number_in read_narrow
  classic-value {number} e = go (read_u8 bytes (u16_at bytes 4 + (state * u16_at bytes 0 + class))) refl
    where
      go : (r : Option ℕ) → read_u8 bytes (u16_at bytes 4 + (state * u16_at bytes 0 + class)) ≡ r
          → (cell_place classic bytes state class + 1 ≤ length bytes) × (number ≡ u8_at bytes (cell_place classic bytes state class))
      go None p = let z : ◌≡◌ {A = ℕ} 0 1 = cc in absurd (omega arith)
      go (Some n) p =
          let (inside, value) = u8_value bytes (u16_at bytes 4 + (state * u16_at bytes 0 + class)) p in
          let same : number ≡ n = cc in
          let cell = classic-cell bytes state class in
          (omega arith, same ∙ value ∙ ap (u8_at bytes) cell)

  classic-found : (entry : Entry) → class < class_count classic bytes → Steps bytes (classic_states bytes) state class payload entry
      → IsEntry classic bytes state class payload entry
  unfolding resolved resolved_in
  classic-found entry column s =
      let (inside, value) = classic-value s.numbered in
      let (above, some, same) = by_row_lem (raw_at bytes s.place) (u16_at bytes 4) (u16_at bytes 0) s.leads in
      record {
        place = s.place;
        lies = record {
          column = column;
          cell = inside;
          numbered = s.lies ∙ ap (λ (n : ℕ). u16_at bytes 6 + n * (4 + payload)) value;
          whole = s.whole;
        };
        leads = λ next n. ap (λ (x : Entry). x.state) same ∙ row_of_lem (u16_at bytes 4) (u16_at bytes 0) (u16_at bytes s.place) next some n;
        flags = ap (λ (x : Entry). x.flags) same;
        behind = ap (λ (x : Entry). x.payload) same;
      }

-- in both layouts, whatever the state
pub entry_as_manual : (layout : Layout) (bytes : List ℕ) (state class payload : ℕ) {states : States} → head_at layout bytes ≡ Some states
    → AsManual layout bytes states state class payload
entry_as_manual extended bytes state class payload e =
    subst⁻¹ (λ (s : States). AsManual extended bytes s state class payload) (extended_is bytes e)
    (record {
      found = λ entry column f. extended-found bytes state class payload entry column (entry-steps bytes (extended_states bytes) state class payload f);
      there = λ place next l n. entry_by bytes (extended_states bytes) state class payload (extended-there bytes state class payload place next l n);
    })
entry_as_manual classic bytes state class payload e =
    subst⁻¹ (λ (s : States). AsManual classic bytes s state class payload) (classic_is bytes e).states_are
    (record {
      found = λ entry column f. classic-found bytes state class payload entry column (entry-steps bytes (classic_states bytes) state class payload f);
      there = λ place next l n. entry_by bytes (classic_states bytes) state class payload (classic-there bytes state class payload place next l n);
    })
