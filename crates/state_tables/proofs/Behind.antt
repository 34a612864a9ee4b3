-- More bytes behind a state table change nothing for a head, a class or an entry that was read without them.
use Rattle.std.specs.Prelude.{Option, Some, None}
use Prim.Native.Nat.{ℕ, ◌+◌, ◌-◌, ◌*◌, ◌<◌, ◌≤◌}
use mathlib.Core.Path.{◌≡◌, refl, ◌∙◌, ap, ap₂}
use mathlib.Core.Bool.{Bool, true, false, cond}
use mathlib.Core.List.{List}
use native.Mathlib.Omega.{arith}
use lib.Dec.{ltb, eqb}
use lib.ListN.{length}
use borrow.Author.Tests.{ltb-true, ltb-false, eqb-false}
use Rattle.parse.specs.Reads.{read_u8}
use Rattle.parse.proofs.Laws.{u8_read}
use Rattle.parse.proofs.Behind.{Begins, Stays, begins_from, read_u8_stays, read_u16_stays, on_u32_stays, u16_stays}
use Rattle.tables.specs.declared.units.Reading.{Reading}
use Rattle.tables.proofs.Behind.{lookup_stays}
use Rattle.state_tables.specs.Inside.{ClassReads, ClassInside}
use Rattle.state_tables.specs.States.{extended_by}
use Rattle.state_tables.specs.Classes.{found_class, class_by_lookup, byte_class, class_by_array, class_in, class_of}
use Rattle.state_tables.specs.Entries.{widened, read_narrow, number_in, entry_number, resolved, entry_of}
use Rattle.state_tables.specs.declared.Edition.{Edition}
use Rattle.state_tables.specs.declared.Edition.TheVariants.{Extended, Classic}
use Rattle.state_tables.specs.declared.States.{States}
use Rattle.state_tables.specs.declared.entries.Entry.{Entry}
use Rattle.state_tables.proofs.Readings.{raw_at, Steps, entry_by, entry-steps}

module _ {own whole : List ℕ} (b : Begins own whole) where
  pub head_stays : (reading : Reading) → Stays None (extended_by reading own) (extended_by reading whole)
  unfolding extended_by
  head_stays reading =
      on_u32_stays b 0 _ _
      (λ classes. on_u32_stays b 4 _ _ (λ table. on_u32_stays b 8 _ _ (λ array. on_u32_stays b 12 _ _ (λ entries not. refl))))

  -- the class of a glyph
  byte_stays : (place first count glyph : ℕ) → ClassReads own (Classic place first count) glyph
      → class_by_array whole place first count glyph ≡ class_by_array own place first count glyph
  unfolding ClassReads class_by_array
  byte_stays place first count glyph there = go (ltb glyph first) (ltb (glyph - first) count) refl refl
    where
      at : ℕ
      at = place + (glyph - first)

      go : (s t : Bool) → ltb glyph first ≡ s → ltb (glyph - first) count ≡ t
          → cond s 1 (cond t (byte_class (read_u8 whole at)) 1) ≡ cond s 1 (cond t (byte_class (read_u8 own at)) 1)
      go true t p q = refl
      go false false p q = refl
      go false true p q =
          let h : at < length own = there (ltb-false glyph first p) (ltb-true (glyph - first) count q) in
          let e = u8_read own at h in
          ap byte_class (read_u8_stays b at (λ short. let z : ◌≡◌ {A = ℕ} 0 1 = cc in omega arith))

  class_in_stays : (edition : Edition) (glyph : ℕ) → ClassReads own edition glyph → class_in whole edition glyph ≡ class_in own edition glyph
  unfolding ClassReads class_in class_by_lookup
  class_in_stays (Extended table reading) glyph not = ap found_class (lookup_stays (begins_from table b) reading glyph not)
  class_in_stays (Classic place first count) glyph there = byte_stays place first count glyph there

  pub class_stays : (states : States) (glyph : ℕ) → ClassInside own states glyph → class_of whole states glyph ≡ class_of own states glyph
  unfolding class_of
  class_stays states glyph reads = go (eqb glyph 65535) refl
    where
      go : (t : Bool) → eqb glyph 65535 ≡ t → cond t 2 (class_in whole states.edition glyph) ≡ cond t 2 (class_in own states.edition glyph)
      go true e = refl
      go false e = class_in_stays states.edition glyph (reads (eqb-false glyph 65535 e))

  -- the entry of a state and a class
  narrow_stays : (at : ℕ) → Stays None (read_narrow own at) (read_narrow whole at)
  unfolding read_narrow
  narrow_stays at = go (read_u8 own at) (read_u8_stays b at)
    where
      go : (r : Option ℕ) → Stays None r (read_u8 whole at) → Stays None (widened r) (widened (read_u8 whole at))
      go (Some n) e not = rw (e (λ p. let z : ◌≡◌ {A = ℕ} 0 1 = cc in omega arith))
      go None e not = absurd (not refl)

  number_stays : (states : States) (state class : ℕ) → Stays None (entry_number own states state class) (entry_number whole states state class)
  unfolding entry_number number_in
  number_stays states state class = go states.edition
    where
      go : (edition : Edition) → Stays None (number_in own edition states.array (state * states.classes + class)) (number_in whole edition states.array (state * states.classes + class))
      go (Extended table reading) = read_u16_stays b (states.array + (state * states.classes + class) * 2)
      go (Classic place first count) = narrow_stays (states.array + (state * states.classes + class))

  raw_stays : (place payload : ℕ) → place + (4 + payload) ≤ length own → raw_at whole place ≡ raw_at own place
  raw_stays place payload h =
      ap₂ (λ (s f : ℕ). record { state = s; flags = f; payload = place + 4 }) (u16_stays b place (omega arith)) (u16_stays b (place + 2) (omega arith))

  steps_stay : (states : States) (state class payload : ℕ) {entry : Entry} → Steps own states state class payload entry → Steps whole states state class payload entry
  steps_stay states state class payload s =
      record {
        number = s.number;
        place = s.place;
        numbered = number_stays states state class (λ p. let n = s.numbered in let z : ◌≡◌ {A = ℕ} 0 1 = cc in omega arith) ∙ s.numbered;
        lies = s.lies;
        whole = omega (arith, s.whole, b.fits);
        leads = ap (resolved states) (raw_stays s.place payload s.whole) ∙ s.leads;
      }

  pub entry_stays : (states : States) (state class payload : ℕ) {entry : Entry} → entry_of own states state class payload ≡ Some entry
      → entry_of whole states state class payload ≡ Some entry
  entry_stays states state class payload e =
      entry_by whole states state class payload (steps_stay states state class payload (entry-steps own states state class payload e))
