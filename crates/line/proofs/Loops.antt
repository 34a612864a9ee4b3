-- The loops of the edits: what each turn leaves, and what is reached at the end.
use Prim.Native.Nat.{ℕ, zero, suc, ◌+◌, ◌-◌, ◌*◌, ◌/◌, ◌<◌, ◌≤◌, min}
use mathlib.Core.Path.{◌≡◌, refl, ◌∙◌, sym, ap, ap₂}
use mathlib.Core.List.{List, [], reverse, ◌∷◌, ◌++◌, append-nil, append_assoc}
use mathlib.Core.Logic.{⊎_elim}
use native.Mathlib.Nat.{zero-add, suc-add}
use native.Mathlib.Numerals.{add-one}
use native.Mathlib.Omega.{arith}
use lib.ListN.{length, get_or, take, drop, set, length-set, drop_of_length-le}
use lib.Seq.{take-nil, drop-nil, take-length, drop-length, take-take, drop-cons, get_or-set_same, get_or-set_other, get_or-drop, ext_get_or, take-append-le, drop_at, length-take-le, paste, paste-zero, paste-suc, slice}
use Rattle.std.specs.List.{copy_within}
use Rattle.std.proofs.lemmas.List.{drop-take}
use borrow.Rule.Slice.PartMut.{mid_of, put_mid}
use Rattle.laws.specs.Backward.{backward}
use Rattle.laws.specs.Choose.{if_eq}
use Rattle.laws.proofs.Backward.{length-backward, backward-inside, backward_outside}
use Rattle.laws.proofs.Lists.{length-tab, get_d_tab, get_d_behind}
use Rattle.laws.proofs.Numbers.{lt-or-ge, eq-or-ne}
use Rattle.laws.proofs.Parts.{part_is, part_put}
use Rattle.parse.specs.Reads.{u16_at}
use Rattle.line.specs.Steps.{raised}
use Rattle.line.specs.Changes.{numbers_from, rehomed, spliced, emptied, handed, emptied_all, handed_all, glyphs_of}
use Rattle.line.proofs.Once.{length-numbers_from, get_d_numbers_from}
use Rattle.line.proofs.Joins.{length-emptied, length-handed, length-rehomed, get_d_rehomed}

-- Writing a list from some place on, element by element.
pub record Pasting (before : List ℕ) (at : ℕ) (new : List ℕ) (count : ℕ) (after : List ℕ) (k : ℕ) : Type 0 where
  pub within : k ≤ count
  pub same : after ≡ paste before at new k
  pub long : length after ≡ length before

module _ (before : List ℕ) (at : ℕ) (new : List ℕ) (count : ℕ) where
  pub pasting_start : Pasting before at new count before 0
  pasting_start = record { within = omega arith; same = paste-zero before at new; long = refl }

  pub pasting_next : {after : List ℕ} {k i x : ℕ} → length new ≡ count → at + count ≤ length before → Pasting before at new count after k → k < count
      → i ≡ at + k → x ≡ get_or new k 0 → Pasting before at new count (set after i x) (k + 1)
  pasting_next {after} {k} {i} {x} n fits p h e v =
      record {
        within = omega arith;
        same =
            rw (p.same, e, v, add-one k) (paste-suc before at new k 0 (omega arith) (omega arith));
        long = length-set after i x ∙ p.long;
      }

  pub pasting_done : {after : List ℕ} {k : ℕ} → Pasting before at new count after k → count ≤ k → after ≡ paste before at new count
  pasting_done {after} {k} p h = let e : k ≡ count = omega (arith, p.within) in rw e at p.same

-- a whole list written over another from its start
pub paste_over : (before new : List ℕ) → length new ≡ length before → paste before 0 new (length before) ≡ new
paste_over before new e =
    rw (zero-add (length before), drop-length before, ← e, take-length new) (append-nil new)

-- what is not written yet
paste_rest : (before new : List ℕ) (k : ℕ) → k ≤ length new → get_or (paste before 0 new k) k 0 ≡ get_or before k 0
paste_rest before new k h =
    let long : length (take k new) ≡ k = length-take-le k new h in
    let e : 0 + k + (k - length (take k new)) ≡ k = omega arith in
    get_d_behind (take k new) (drop (0 + k) before) 0 k (omega arith)
    ∙ get_or-drop (0 + k) before (k - length (take k new)) 0
    ∙ ap (λ (i : ℕ). get_or before i 0) e

pub length-glyphs_of : (bytes : List ℕ) → length (glyphs_of bytes) ≡ length bytes / 2
unfolding glyphs_of
length-glyphs_of bytes = length-tab _ (length bytes / 2)

pub get_d_glyphs_of : (bytes : List ℕ) (k : ℕ) → k < length bytes / 2
    → get_or (glyphs_of bytes) k 0 ≡ u16_at bytes (k * 2)
unfolding glyphs_of
get_d_glyphs_of bytes k h = get_d_tab _ (length bytes / 2) k 0 h

-- the three lists that are written so: numbers in order, glyphs from bytes, and homes
pub number_next : (before : List ℕ) (at first count : ℕ) {after : List ℕ} {k : ℕ} → at + count ≤ length before
    → Pasting before at (numbers_from first count) count after k → k < count
    → Pasting before at (numbers_from first count) count (set after (at + k) (first + k)) (k + 1)
number_next before at first count {k = k} fits p h =
    pasting_next before at (numbers_from first count) count (length-numbers_from first count) fits p h refl (sym (get_d_numbers_from first count k h))

pub put_next : (before : List ℕ) (at : ℕ) (bytes : List ℕ) {after : List ℕ} {k glyph : ℕ} → at + length bytes / 2 ≤ length before
    → Pasting before at (glyphs_of bytes) (length bytes / 2) after k → k < length bytes / 2 → glyph ≡ u16_at bytes (k * 2)
    → Pasting before at (glyphs_of bytes) (length bytes / 2) (set after (at + k) glyph) (k + 1)
put_next before at bytes {k = k} fits p h e =
    pasting_next before at (glyphs_of bytes) (length bytes / 2) (length-glyphs_of bytes) fits p h refl (e ∙ sym (get_d_glyphs_of bytes k h))

pub rehome_next : (before : List ℕ) (from to : ℕ) {after : List ℕ} {c x : ℕ} → Pasting before 0 (rehomed from to before) (length before) after c
    → c < length before → x ≡ if_eq (get_or after c 0) from to (get_or after c 0)
    → Pasting before 0 (rehomed from to before) (length before) (set after c x) (c + 1)
rehome_next before from to {after} {c} p k e =
    let same : get_or after c 0 ≡ get_or before c 0 =
    rw p.same (paste_rest before (rehomed from to before) c (omega (arith, length-rehomed from to before))) in
    pasting_next before 0 (rehomed from to before) (length before) (length-rehomed from to before) (omega arith) p k (sym (zero-add c))
    (e ∙ rw same (sym (get_d_rehomed from to before c k)))

pub rehome_done : (before : List ℕ) (from to : ℕ) {after : List ℕ} {c : ℕ} → Pasting before 0 (rehomed from to before) (length before) after c
    → length before ≤ c → after ≡ rehomed from to before
rehome_done before from to p h =
    pasting_done before 0 (rehomed from to before) (length before) p h
    ∙ paste_over before (rehomed from to before) (length-rehomed from to before)

-- what stands from a place to the used length, moved up
pub raised_within : (at used count : ℕ) (xs : List ℕ) → at ≤ used → copy_within xs at used (at + count) ≡ raised at used count xs
unfolding raised
raised_within at used count xs h =
    let e : at + (used - at) ≡ used = omega arith in
    let end : at + count + (used - at) ≡ used + count = omega arith in
    let middle : slice at used xs ≡ take (used - at) (drop at xs) = rw e at (drop-take at (used - at) xs) in
    rw (end, ← middle)

-- the same in a part that begins at the place
raised-behind : (at rest count : ℕ) (xs : List ℕ) → take at xs ++ raised 0 rest count (drop at xs) ≡ raised at (at + rest) count xs
unfolding raised
raised-behind zero rest count xs = rw (zero-add rest)
raised-behind (suc at) rest count [] =
    rw (
      take-nil {A = ℕ} (0 + count),
      take-nil {A = ℕ} (suc at + count),
      take-nil {A = ℕ} rest,
      take-nil {A = ℕ} (suc at + rest),
      drop-nil {A = ℕ} (rest + count),
      drop-nil {A = ℕ} (suc at + rest + count),
    )
raised-behind (suc at) rest count (x ∷ xs) =
    rw (suc-add at rest, suc-add at count, suc-add (at + rest) count) (ap (λ (z : List ℕ). x ∷ z) (raised-behind at rest count xs))

pub raised_part : (at used : ℕ) (xs : List ℕ) {count : ℕ} {part : List ℕ} → at ≤ used → count ≡ 1
    → part ≡ raised 0 (used - at) 1 (mid_of at (length xs - at) xs) → put_mid at (length xs - at) xs part ≡ raised at used count xs
raised_part at used xs {count} {part} h one e =
    let all : at + (used - at) ≡ used = omega arith in
    part_put at xs part
    ∙ ap (λ (z : List ℕ). take at xs ++ z) (e ∙ ap (raised 0 (used - at) 1) (part_is at xs))
    ∙ raised-behind at (used - at) 1 xs
    ∙ ap₂ (λ (end n : ℕ). raised at end n xs) all (sym one)

-- the gap filled: the insertion
pub raised_filled : (at used : ℕ) (new xs : List ℕ) → at ≤ used → used + length new ≤ length xs
    → paste (raised at used (length new) xs) at new (length new) ≡ spliced at used new xs
unfolding raised spliced
raised_filled at used new xs inside fits =
    let n : ℕ = length new in
    let front : List ℕ = take (at + n) xs in
    let rest : List ℕ = slice at used xs ++ drop (used + n) xs in
    let long : length front ≡ at + n = length-take-le (at + n) xs (omega arith) in
    rw (
      append_assoc front (slice at used xs) (drop (used + n) xs),
      take-append-le at front rest (rw long (omega arith)),
      take-take at (at + n) xs (omega arith),
      take-length new,
      drop_at front rest (at + n) long,
    )
    (sym (append_assoc (take at xs ++ new) (slice at used xs) (drop (used + n) xs)))

pub filled : (at used : ℕ) (new xs : List ℕ) {place count : ℕ} {wide after : List ℕ} → place ≡ min at used → length new ≡ count
    → used + count ≤ length xs → wide ≡ raised place used count xs → after ≡ paste wide place new count → after ≡ spliced (min at used) used new xs
filled at used new xs p n fits r q = q ∙ rw (r, ← n, p) (raised_filled (min at used) used new xs (omega arith) (omega arith))

-- the first n turned round
pub turned_part : (n : ℕ) (xs : List ℕ) → put_mid 0 n xs (reverse (mid_of 0 n xs)) ≡ backward n xs
unfolding backward
turned_part n xs = refl

-- Turning the first n round, from both ends.
pub record Turning (before : List ℕ) (n : ℕ) (after : List ℕ) (low high : ℕ) : Type 0 where
  pub sum : low + high ≡ n
  pub long : length after ≡ length before
  pub turned : (k : ℕ) → k < n → (low ≤ k → k < high → ⊥) → get_or after k 0 ≡ get_or before (n - suc k) 0
  pub between : (k : ℕ) → low ≤ k → k < high → get_or after k 0 ≡ get_or before k 0
  pub rest : (k : ℕ) → n ≤ k → get_or after k 0 ≡ get_or before k 0

module _ (before : List ℕ) (n : ℕ) (fits : n ≤ length before) where
  pub turning_start : Turning before n before 0 n
  turning_start =
      record {
        sum = zero-add n;
        long = refl;
        turned = λ k h out. absurd (out (omega arith) h);
        between = λ k h i. refl;
        rest = λ k h. refl;
      }

  module _ {after : List ℕ} {low high : ℕ} (t : Turning before n after low high) (more : low < high) where
    abbrev h : ℕ
    h = high - 1

    abbrev swapped : List ℕ
    swapped = set (set after low (get_or after h 0)) h (get_or after low 0)

    inside : h < length after
    inside = omega (arith, t.sum, t.long)

    -- what the exchange leaves at its two places and elsewhere
    at_high : get_or swapped h 0 ≡ get_or before low 0
    at_high =
        get_or-set_same (set after low (get_or after h 0)) h (get_or after low 0) 0 (rw (length-set after low (get_or after h 0)) inside)
        ∙ t.between low (omega arith) more

    at_low : (low ≡ h → ⊥) → get_or swapped low 0 ≡ get_or before h 0
    at_low ne =
        get_or-set_other (set after low (get_or after h 0)) h low (get_or after low 0) 0 ne
        ∙ get_or-set_same after low (get_or after h 0) 0 (omega (arith, inside))
        ∙ t.between h (omega arith) (omega arith)

    elsewhere : (k : ℕ) → (k ≡ low → ⊥) → (k ≡ h → ⊥) → get_or swapped k 0 ≡ get_or after k 0
    elsewhere k i j =
        get_or-set_other (set after low (get_or after h 0)) h k (get_or after low 0) 0 j
        ∙ get_or-set_other after low k (get_or after h 0) 0 i

    now_turned : (k : ℕ) → k < n → (low + 1 ≤ k → k < h → ⊥) → get_or swapped k 0 ≡ get_or before (n - suc k) 0
    now_turned k i out =
        ⊎_elim
        (λ (e : k ≡ h).
        ap (λ (q : ℕ). get_or swapped q 0) e ∙ at_high ∙ ap (λ (q : ℕ). get_or before q 0) (omega (arith, t.sum)))
        (λ (ne : k ≡ h → ⊥).
        ⊎_elim
        (λ (e : k ≡ low).
        ap (λ (q : ℕ). get_or swapped q 0) e
        ∙ at_low (λ (j : low ≡ h). ne (e ∙ j))
        ∙ ap (λ (q : ℕ). get_or before q 0) (omega (arith, t.sum)))
        (λ (ne' : k ≡ low → ⊥).
        elsewhere k ne' ne ∙ t.turned k i (λ (a : low ≤ k) (b : k < high). out (omega (arith, ne')) (omega (arith, ne))))
        (eq-or-ne k low))
        (eq-or-ne k h)

    pub turning_next : Turning before n swapped (low + 1) h
    turning_next =
        record {
          sum = omega (arith, t.sum);
          long = length-set (set after low (get_or after h 0)) h (get_or after low 0) ∙ length-set after low (get_or after h 0) ∙ t.long;
          turned = now_turned;
          between = λ k i j. elsewhere k (λ (e : k ≡ low). omega arith) (λ (e : k ≡ h). omega arith) ∙ t.between k (omega arith) (omega arith);
          rest = λ k i.
              elsewhere k (λ (e : k ≡ low). omega (arith, t.sum)) (λ (e : k ≡ h). omega (arith, t.sum)) ∙ t.rest k i;
        }

  pub turning_done : {after : List ℕ} {low high : ℕ} → Turning before n after low high → high ≤ low → after ≡ backward n before
  turning_done {after} {low} {high} t h =
      ext_get_or 0 after (backward n before) (t.long ∙ sym (length-backward 0 n before fits))
      (λ k i.
      ⊎_elim
      (λ (j : k < n). t.turned k j (λ a b. omega arith) ∙ sym (backward-inside 0 n before fits k j))
      (λ (j : n ≤ k). t.rest k j ∙ sym (backward_outside 0 n before fits k j))
      (lt-or-ge k n))

-- Joining a ligature's components: the rest of them gives what all of them give.
pub record Joining (used at : ℕ) (parts tags glyphs₀ homes₀ glyphs homes : List ℕ) (k : ℕ) : Type 0 where
  pub within : k ≤ length parts
  pub long : length glyphs ≡ length glyphs₀
  pub all : length homes ≡ length homes₀
  pub emptying : emptied_all used at (drop k parts) glyphs ≡ emptied_all used at parts glyphs₀
  pub handing : handed_all used at (drop k parts) tags homes ≡ handed_all used at parts tags homes₀

module _ (used at : ℕ) (parts tags glyphs₀ homes₀ : List ℕ) where
  pub joining_start : Joining used at parts tags glyphs₀ homes₀ glyphs₀ homes₀ 0
  joining_start = record { within = omega arith; long = refl; all = refl; emptying = refl; handing = refl }

  pub joining_next : {glyphs homes glyphs' homes' : List ℕ} {k : ℕ} → Joining used at parts tags glyphs₀ homes₀ glyphs homes k → k < length parts
      → glyphs' ≡ emptied used at (get_or parts k 0) glyphs → homes' ≡ handed used at (get_or parts k 0) tags homes
      → Joining used at parts tags glyphs₀ homes₀ glyphs' homes' (k + 1)
  unfolding emptied_all handed_all
  joining_next {glyphs} {homes} {glyphs'} {homes'} {k} j h e i =
      let d : drop k parts ≡ get_or parts k 0 ∷ drop (suc k) parts = drop-cons parts k 0 h in
      record {
        within = omega arith;
        long = rw e (length-emptied used at (get_or parts k 0) glyphs ∙ j.long);
        all = rw i (length-handed used at (get_or parts k 0) tags homes ∙ j.all);
        emptying = rw (add-one k, e) (rw d at j.emptying);
        handing = rw (add-one k, i) (rw d at j.handing);
      }

  module _ {glyphs homes : List ℕ} {k : ℕ} (j : Joining used at parts tags glyphs₀ homes₀ glyphs homes k) (done : length parts ≤ k) where
    pub joining_glyphs : glyphs ≡ emptied_all used at parts glyphs₀
    unfolding emptied_all
    joining_glyphs = rw (drop_of_length-le parts {i = k} done) at j.emptying

    pub joining_homes : homes ≡ handed_all used at parts tags homes₀
    unfolding handed_all
    joining_homes = rw (drop_of_length-le parts {i = k} done) at j.handing
