-- The survey says "sorted" exactly when the records have the stated size and are in order, and else names that size or the first that is not.
use Rattle.std.specs.Prelude.{Some, None}
use Prim.Native.Nat.{ℕ, zero, suc, ◌+◌, ◌<◌, ◌≤◌}
use mathlib.Core.Path.{◌≡◌, refl, sym, ◌∙◌, ap, subst, subst⁻¹}
use mathlib.Core.Bool.{Bool, true, false, cond}
use mathlib.Core.List.{List}
use mathlib.Core.Logic.{⊎_elim}
use native.Mathlib.Omega.{arith}
use native.Mathlib.Nat.{suc_inj}
use lib.Dec.{leb}
use lib.ListN.{length}
use borrow.Author.Tests.{le-leb, leb-true, eq-eqb, ne_eqb}
use Rattle.laws.proofs.Lists.{both_left, both_right}
use Rattle.laws.proofs.Numbers.{lt-or-ge, eq-or-ne}
use Rattle.parse.specs.Reads.{inside, u16_at, read_u16}
use Rattle.parse.proofs.Laws.{inside-fits, inside_yes, read_u16_got}
use Rattle.tables.specs.Records.{stride_of, record_place, format_of}
use Rattle.tables.specs.Survey.{record_in, record_at, floor_of, ordered, in_order, scan, scanned, survey_in, survey_at}
use Rattle.tables.specs.Order.{Good, InOrder, FirstBad, passed_size, Says, first_of, last_of}
use Rattle.tables.specs.declared.records.Format.TheVariants.{Records}
use Rattle.tables.specs.declared.records.Kind.{Kind}
use Rattle.tables.specs.declared.records.Kind.TheVariants.{Ranges, Arrays, Singles}
use Rattle.tables.specs.declared.survey.Surveyed.{Surveyed}
use Rattle.tables.specs.declared.survey.Surveyed.TheVariants.{Sorted, Bad, UnitSize, NoRecords, Nothing}

-- what a scan of any test says: that it holds at all of the numbers, or the first at which it fails
module _ (good : ℕ → Bool) where
  Said : ℕ → ℕ → Surveyed → Type 0
  Said i left Sorted = (k : ℕ) → i ≤ k → k < i + left → good k ≡ true
  Said i left (Bad k) = (i ≤ k) × (k < i + left) × (good k ≡ false) × ((j : ℕ) → i ≤ j → j < k → good j ≡ true)
  Said i left (UnitSize n) = ⊥
  Said i left NoRecords = ⊥
  Said i left Nothing = ⊥

  from_here : (i k : ℕ) → good i ≡ true → i ≤ k → (suc i ≤ k → good k ≡ true) → good k ≡ true
  from_here i k e h f = ⊎_elim (λ (p : k ≡ i). ap good p ∙ e) (λ (ne : k ≡ i → ⊥). f (omega (arith, ne))) (eq-or-ne k i)

  one_further : (i left : ℕ) → good i ≡ true → (s : Surveyed) → Said (suc i) left s → Said i (suc left) s
  unfolding Said
  one_further i left e Sorted f = λ k h l. from_here i k e h (λ m. f k m (omega arith))
  one_further i left e (Bad k) f =
      (omega (arith, f.0), omega (arith, f.1), f.2, λ j h l. from_here i j e h (λ m. f.3 j m l))
  one_further i left e (UnitSize n) f = f
  one_further i left e NoRecords f = f
  one_further i left e Nothing f = f

  scan-said : (left i : ℕ) → Said i left (scan good left i)
  unfolding Said scan
  scan-said zero i = λ k h l. absurd (omega arith)
  scan-said (suc left) i = go (good i) refl (scan-said left (suc i))
    where
      go : (t : Bool) → good i ≡ t → Said (suc i) left (scan good left (suc i))
          → Said i (suc left) (elim t [ true ↦ scan good left (suc i) | false ↦ Bad i ])
      go true e f = one_further i left e (scan good left (suc i)) f
      go false e f = (omega arith, omega arith, e, λ j h l. absurd (omega arith))

-- the test of a record is its order
stride_some : (kind : Kind) → 0 < stride_of kind
stride_some Ranges = omega arith
stride_some Arrays = omega arith
stride_some Singles = omega arith

module _ (bytes : List ℕ) (kind : Kind) where
  floor_met : (i : ℕ) → floor_of bytes kind i ≤ first_of bytes kind i → (j : ℕ) → suc j ≡ i → last_of bytes kind j < first_of bytes kind i
  unfolding floor_of
  floor_met zero h j e = absurd (omega arith)
  floor_met (suc i) h j e = subst (λ (n : ℕ). last_of bytes kind n < first_of bytes kind (suc i)) (sym (suc_inj e)) h

  meets_floor : (i : ℕ) → ((j : ℕ) → suc j ≡ i → last_of bytes kind j < first_of bytes kind i) → floor_of bytes kind i ≤ first_of bytes kind i
  unfolding floor_of
  meets_floor zero f = omega arith
  meets_floor (suc i) f = f i refl

  good_passes : (i : ℕ) → Good bytes kind i → in_order bytes kind i ≡ true
  unfolding in_order record_at record_in
  good_passes i g =
      rw (
        inside_yes bytes (record_place 12 kind i) (stride_of kind) (omega (arith, g.whole, stride_some kind)) (omega (arith, g.whole)),
        le-leb (floor_of bytes kind i) (first_of bytes kind i) (meets_floor i g.behind),
        le-leb (first_of bytes kind i) (last_of bytes kind i) g.upward,
        in_order,
      )

  passes_good : (i : ℕ) → in_order bytes kind i ≡ true → Good bytes kind i
  unfolding in_order record_at record_in
  passes_good i e = go (inside bytes (record_place 12 kind i) (stride_of kind)) refl e
    where
      go : (t : Bool) → inside bytes (record_place 12 kind i) (stride_of kind) ≡ t
          → ordered (floor_of bytes kind i) (cond t (Some (record { first = first_of bytes kind i; last = last_of bytes kind i })) None) ≡ true → Good bytes kind i
      go false p f = let z : ◌≡◌ {A = ℕ} 0 1 = cc in absurd (omega arith)
      go true p f =
          let low = leb (floor_of bytes kind i) (first_of bytes kind i) in
          let up = leb (first_of bytes kind i) (last_of bytes kind i) in
          record {
            whole = inside-fits bytes (record_place 12 kind i) (stride_of kind) p;
            upward = leb-true _ _ (both_right low up f);
            behind = floor_met i (leb-true _ _ (both_left low up f));
          }

  said : (count : ℕ) (s : Surveyed) → scanned bytes kind count ≡ s → Said (in_order bytes kind) 0 count s
  unfolding scanned
  said count s e = subst (Said (in_order bytes kind) 0 count) e (scan-said (in_order bytes kind) count 0)

  passes_not : (i : ℕ) → in_order bytes kind i ≡ false → Good bytes kind i → ⊥
  passes_not i e g = let p = good_passes i g in let z : ◌≡◌ {A = ℕ} 0 1 = cc in omega arith

  -- sorted exactly when all records are in order
  pub survey_sound : (count : ℕ) → scanned bytes kind count ≡ Sorted → InOrder bytes kind count
  unfolding Said
  survey_sound count e i h = passes_good i (said count Sorted e i (omega arith) (omega arith))

  pub survey_complete : (count : ℕ) → InOrder bytes kind count → scanned bytes kind count ≡ Sorted
  unfolding Said
  survey_complete count f = go (scanned bytes kind count) refl
    where
      go : (s : Surveyed) → scanned bytes kind count ≡ s → scanned bytes kind count ≡ Sorted
      go Sorted e = e
      go (Bad k) e =
          let b = said count (Bad k) e in
          absurd (passes_not k b.2 (f k (omega (arith, b.1))))
      go (UnitSize n) e = absurd (said count (UnitSize n) e)
      go NoRecords e = absurd (said count NoRecords e)
      go Nothing e = absurd (said count Nothing e)

  -- and else the record named is the first that is not
  pub survey_bad : (count i : ℕ) → scanned bytes kind count ≡ Bad i → FirstBad bytes kind count i
  unfolding Said
  survey_bad count i e =
      let b = said count (Bad i) e in
      record {
        counted = omega (arith, b.1);
        bad = passes_not i b.2;
        before = λ j h. passes_good j (b.3 j (omega arith) h);
      }

-- records are stepped over by the size that is passed
pub same_size : (kind : Kind) → stride_of kind ≡ passed_size kind
same_size Ranges = refl
same_size Arrays = refl
same_size Singles = refl

-- the answer itself: it says what it says, and nothing else can be said
module _ (bytes : List ℕ) (kind : Kind) where
  says_scanned : u16_at bytes 2 ≡ passed_size kind → (s : Surveyed) → scanned bytes kind (u16_at bytes 4) ≡ s → Says bytes kind s
  unfolding Said
  says_scanned e Sorted f = (e, survey_sound bytes kind (u16_at bytes 4) f)
  says_scanned e (Bad i) f = (e, survey_bad bytes kind (u16_at bytes 4) i f)
  says_scanned e (UnitSize n) f = absurd (said bytes kind (u16_at bytes 4) (UnitSize n) f)
  says_scanned e NoRecords f = absurd (said bytes kind (u16_at bytes 4) NoRecords f)
  says_scanned e Nothing f = absurd (said bytes kind (u16_at bytes 4) Nothing f)

  pub says_in : 6 ≤ length bytes → Says bytes kind (survey_in bytes (Records kind))
  unfolding survey_in
  says_in h =
      ⊎_elim
      (λ (e : u16_at bytes 2 ≡ stride_of kind).
      let f : survey_in bytes (Records kind) ≡ scanned bytes kind (u16_at bytes 4) =
      rw (read_u16_got bytes 4 (omega arith), eq-eqb (u16_at bytes 2) (stride_of kind) e, survey_in) in
      subst⁻¹ (Says bytes kind) f (says_scanned (e ∙ same_size kind) (scanned bytes kind (u16_at bytes 4)) refl))
      (λ (n : u16_at bytes 2 ≡ stride_of kind → ⊥).
      let f : survey_in bytes (Records kind) ≡ UnitSize (u16_at bytes 2) =
      rw (read_u16_got bytes 4 (omega arith), ne_eqb (u16_at bytes 2) (stride_of kind) n, survey_in) in
      subst⁻¹ (Says bytes kind) f (refl, λ p. n (p ∙ sym (same_size kind))))
      (eq-or-ne (u16_at bytes 2) (stride_of kind))

  one-first : {i j : ℕ} → FirstBad bytes kind (u16_at bytes 4) i → FirstBad bytes kind (u16_at bytes 4) j → (i < j) → ⊥
  one-first {i} a b h = a.bad (b.before i h)

  one_answer : (s t : Surveyed) → Says bytes kind s → Says bytes kind t → s ≡ t
  one_answer Sorted Sorted a b = refl
  one_answer Sorted (Bad j) a b = absurd (b.1.bad (a.1 j b.1.counted))
  one_answer Sorted (UnitSize m) a b = absurd (b.1 (sym b.0 ∙ a.0))
  one_answer Sorted NoRecords a b = absurd b
  one_answer Sorted Nothing a b = absurd b
  one_answer (Bad i) Sorted a b = absurd (a.1.bad (b.1 i a.1.counted))
  one_answer (Bad i) (Bad j) a b =
      ⊎_elim
      (λ (h : i < j). absurd (one-first a.1 b.1 h))
      (λ (h : j ≤ i).
      ⊎_elim (λ (k : j < i). absurd (one-first b.1 a.1 k)) (λ (k : i ≤ j). let e : i ≡ j = omega arith in ap Bad e) (lt-or-ge j i))
      (lt-or-ge i j)
  one_answer (Bad i) (UnitSize m) a b = absurd (b.1 (sym b.0 ∙ a.0))
  one_answer (Bad i) NoRecords a b = absurd b
  one_answer (Bad i) Nothing a b = absurd b
  one_answer (UnitSize n) Sorted a b = absurd (a.1 (sym a.0 ∙ b.0))
  one_answer (UnitSize n) (Bad j) a b = absurd (a.1 (sym a.0 ∙ b.0))
  one_answer (UnitSize n) (UnitSize m) a b = ap UnitSize (sym a.0 ∙ b.0)
  one_answer (UnitSize n) NoRecords a b = absurd b
  one_answer (UnitSize n) Nothing a b = absurd b
  one_answer NoRecords t a b = absurd a
  one_answer Nothing t a b = absurd a

  pub survey_exact : {number : ℕ} → read_u16 bytes 0 ≡ Some number → format_of number ≡ Records kind → 6 ≤ length bytes → (s : Surveyed)
      → (survey_at bytes ≡ s → Says bytes kind s) × (Says bytes kind s → survey_at bytes ≡ s)
  unfolding survey_at
  survey_exact {number} e f h s =
      let same : survey_at bytes ≡ survey_in bytes (Records kind) = rw (e, f, survey_at) in
      let says : Says bytes kind (survey_at bytes) = subst⁻¹ (Says bytes kind) same (says_in h) in
      (λ g. subst (Says bytes kind) g says, λ g. one_answer (survey_at bytes) s says g)
