-- The crate's reading of kern format 1's lists is the manual's, along the stream and across it.
use Prim.Native.Nat.{ℕ, zero, suc, ◌+◌, ◌-◌, ◌%◌, ◌≤◌, ◌<◌}
use mathlib.Core.Path.{◌≡◌, refl, sym, ◌∙◌, ap, subst}
use mathlib.Core.Bool.{Bool, true, false, cond}
use mathlib.Core.List.{List, append_assoc, append-nil}
use mathlib.Core.Logic.{⊎_elim}
use native.Mathlib.Omega.{arith}
use lib.Dec.{eqb}
use lib.IntN.{pos}
use lib.ListN.{length, get_or}
use borrow.Author.Tests.{eq-eqb, ne_eqb}
use Rattle.laws.specs.Lists.{both}
use Rattle.laws.specs.Signed.{signed16}
use Rattle.laws.proofs.Numbers.{lt-or-ge, eq-or-ne}
use Rattle.parse.specs.Reads.{u16_at}
use Rattle.parse.proofs.Laws.{read_u16_got, read_u16-short}
use Rattle.kerning.specs.Additions.{Addition, additions_at}
use Rattle.kerning.specs.Lists.{amount_of, ruled, number_at, Walk, leaves, before, walk}
use Rattle.kerning.specs.declared.lists.Rule.TheVariants.{Odd}
use Rattle.kerning.specs.declared.lists.Number.TheVariants.{Last, More}
use Rattle.kerning_machine.specs.Machine.{kern_start, walked_from}
use Rattle.kerning_machine.specs.declared.Reading.TheVariants.{Kern}
use Rattle.kerning_machine.specs.declared.Start.{Start}
use Rattle.kerning_machine.specs.declared.Start.TheVariants as Start'
use Rattle.kern_machine.specs.Manual.{number_place, IsLast, amount_at, list_place, Pops, list_adds, WholeList}

module _ (bytes : List ℕ) (crossed : Bool) (place : ℕ) (h : place + 2 ≤ length bytes) where
  read : number_at bytes (Odd crossed) place ≡ ruled (Odd crossed) (u16_at bytes place)
  unfolding number_at
  read = rw (read_u16_got bytes place h, number_at)

  odd_is : IsLast bytes place → number_at bytes (Odd crossed) place ≡ Last (amount_at bytes crossed place)
  unfolding ruled amount_of
  odd_is e =
      read ∙ rw (eq-eqb (u16_at bytes place % 2) 1 e, ruled)
      (ap (λ (n : ℕ). Last (cond (both crossed (eqb n 0x8000)) (pos 0) (signed16 n))) (let q : u16_at bytes place - 1 ≡ u16_at bytes place - u16_at bytes place % 2 = omega (arith, e) in q))

  even_is : (IsLast bytes place → ⊥) → number_at bytes (Odd crossed) place ≡ More (amount_at bytes crossed place)
  unfolding ruled amount_of
  even_is e =
      let z : u16_at bytes place % 2 ≡ 0 = zero_of (u16_at bytes place) e in
      read ∙ rw (ne_eqb (u16_at bytes place % 2) 1 e, ruled)
      (ap (λ (n : ℕ). More (cond (both crossed (eqb n 0x8000)) (pos 0) (signed16 n))) (let q : u16_at bytes place ≡ u16_at bytes place - u16_at bytes place % 2 = omega (arith, z) in q))
    where
      zero_of : (n : ℕ) → (n % 2 ≡ 1 → ⊥) → n % 2 ≡ 0
      zero_of n f = rest (n % 2) (omega arith) f
        where
          rest : (m : ℕ) → m < 2 → (m ≡ 1 → ⊥) → m ≡ 0
          rest m k g = omega (arith, g)

not_both : {A : Type 0} {b : Bool} → b ≡ true → b ≡ false → A
not_both e f = absurd (cc)

-- the whole list
module _ (bytes : List ℕ) (crossed : Bool) (list : ℕ) (stack : List ℕ) (depth used : ℕ) where
  unfoldable walked : (left place : ℕ) → Walk
  walked left place = walk bytes (Odd crossed) 2 stack used left place

  abbrev adds : (count : ℕ) → List Addition
  adds count = list_adds bytes crossed list stack depth used count

  abbrev place : (k : ℕ) → ℕ
  place k = number_place list k

  -- number k adds, and the walk is over, or goes on behind it
  module _ (left k : ℕ) (e : suc left + k ≡ depth) (h : place k + 2 ≤ length bytes) where
    top : depth - suc k ≡ left
    top = omega arith

    walked_last : IsLast bytes (place k) → before (adds k) (walked (suc left) (place k)) ≡ leaves false 0 (adds (suc k))
    unfolding walked walk list_adds
    walked_last l = rw (odd_is bytes crossed (place k) h l, walk, top)

    walked_more : (IsLast bytes (place k) → ⊥) → before (adds k) (walked (suc left) (place k)) ≡ before (adds (suc k)) (walked left (place (suc k)))
    unfolding walked walk list_adds
    walked_more l =
        let next : place k + 2 ≡ place (suc k) = omega arith in
        rw (even_is bytes crossed (place k) h l, walk, top, next)
        (ap (λ (xs : List Addition). record { left = (walk bytes (Odd crossed) 2 stack used left (place (suc k))).left; additions = xs })
        (sym (append_assoc (adds k) (additions_at used (get_or stack left 0) (amount_at bytes crossed (place k))) (walk bytes (Odd crossed) 2 stack used left (place (suc k))).additions)))

  -- the list's numbers that pop a place, from number k on
  from_number : (count : ℕ) → Pops bytes list depth count → (left k : ℕ) → left + k ≡ depth → k ≤ count → (k ≡ count → count ≡ depth)
      → before (adds k) (walked left (place k)) ≡ leaves false 0 (adds count)
  unfolding walked walk
  from_number count pops zero k e h all =
      let same : k ≡ count = omega (arith, pops.deep) in
      ap (leaves false 0) (append-nil (adds k)) ∙ ap (λ (n : ℕ). leaves false 0 (adds n)) same
  from_number count pops (suc left) k e h all =
      ⊎_elim
      (λ (l : IsLast bytes (place k)).
      let same : suc k ≡ count = last_one l in
      walked_last left k e (pops.inside k more) l ∙ ap (λ (n : ℕ). leaves false 0 (adds n)) same)
      (λ (l : IsLast bytes (place k) → ⊥).
      walked_more left k e (pops.inside k more) l ∙ from_number count pops left (suc k) (omega (arith, e)) more (λ s. at-end s l))
      (eq-or-ne (u16_at bytes (place k) % 2) 1)
    where
      not-all : k ≡ count → ⊥
      not-all s = let d = all s in omega (arith, d, s, e)

      more : k < count
      more = omega (arith, not-all, h)

      last_one : IsLast bytes (place k) → suc k ≡ count
      last_one l =
          ⊎_elim (λ (lt : suc k < count). absurd (pops.goes_on k lt l)) (λ (ge : count ≤ suc k). omega (arith, ge, more)) (lt-or-ge (suc k) count)

      at-end : suc k ≡ count → (IsLast bytes (place k) → ⊥) → count ≡ depth
      at-end s l =
          ⊎_elim
          (λ (lt : count < depth).
          let (j, c, is) = pops.ends lt in
          let same : j ≡ k = omega (arith, c, s) in
          absurd (l (subst (λ (n : ℕ). IsLast bytes (place n)) same is)))
          (λ (ge : depth ≤ count). omega (arith, ge, pops.deep))
          (lt-or-ge count depth)

  -- a walk that does not end the step: none of the first k numbers was the last
  find-count : (left k : ℕ) → left + k ≡ depth → ((j : ℕ) → j < k → place j + 2 ≤ length bytes) → ((j : ℕ) → j < k → IsLast bytes (place j) → ⊥)
      → (walked left (place k)).left.ended ≡ false → (count : ℕ) × Pops bytes list depth count
  unfolding walked walk number_at
  find-count zero k e inside on f =
      (k, record { deep = omega (arith, e); inside = inside; goes_on = λ j h. on j (omega (arith, h)); ends = λ h. absurd (omega (arith, h, e)) })
  find-count (suc left) k e inside on f =
      ⊎_elim
      (λ (short : length bytes < place k + 2). not_both (ended short) f)
      (λ (h : place k + 2 ≤ length bytes).
      ⊎_elim
      (λ (l : IsLast bytes (place k)). (
        suc k,
        record {
          deep = omega (arith, e);
          inside = λ j lt. below (λ (n : ℕ). place n + 2 ≤ length bytes) inside h j lt;
          goes_on = λ j lt. on j (omega (arith, lt));
          ends = λ lt. (k, refl, l);
        },
      ))
      (λ (l : IsLast bytes (place k) → ⊥).
      find-count left (suc k) (omega (arith, e)) (below (λ (n : ℕ). place n + 2 ≤ length bytes) inside h)
      (below (λ (n : ℕ). IsLast bytes (place n) → ⊥) on l) (sym (ap (λ (w : Walk). w.left.ended) (walked_more left k e h l)) ∙ f))
      (eq-or-ne (u16_at bytes (place k) % 2) 1))
      (lt-or-ge (length bytes) (place k + 2))
    where
      ended : length bytes < place k + 2 → (walked (suc left) (place k)).left.ended ≡ true
      ended short = rw (read_u16-short bytes (place k) short, number_at, walk)

      below : (P : ℕ → Type 0) → ((j : ℕ) → j < k → P j) → P k → (j : ℕ) → j < suc k → P j
      below P earlier here j lt =
          ⊎_elim (λ (h : j < k). earlier j h) (λ (h : k ≤ j). let same : k ≡ j = omega (arith, h, lt) in subst P same here) (lt-or-ge j k)

  all-numbers : (count : ℕ) → Pops bytes list depth count → walked depth list ≡ leaves false 0 (adds count)
  unfolding list_adds
  all-numbers count pops =
      ap (λ (p : ℕ). walked depth p) (let e : list ≡ place 0 = omega arith in e)
      ∙ from_number count pops depth 0 (omega arith) (omega arith) (λ s. none-popped s)
    where
      none-popped : 0 ≡ count → count ≡ depth
      none-popped s =
          ⊎_elim (λ (lt : count < depth). let (j, c, is) = pops.ends lt in absurd (omega (arith, c, s)))
          (λ (ge : depth ≤ count). omega (arith, ge, pops.deep)) (lt-or-ge count depth)

  count-found : (walked depth list).left.ended ≡ false → (count : ℕ) × Pops bytes list depth count
  count-found f =
      find-count depth 0 (omega arith) (λ j h. absurd (omega arith)) (λ j h. absurd (omega arith))
      (subst (λ (p : ℕ). (walked depth p).left.ended ≡ false) (let e : list ≡ place 0 = omega arith in e) f)

pub list_as_manual : (bytes : List ℕ) (crossed : Bool) (flags : ℕ) (stack : List ℕ) (depth used : ℕ) → WholeList bytes crossed flags stack depth used
unfolding walked_from kern_start walked
list_as_manual bytes crossed flags stack depth used =
    record {
      none = λ e. rw (eq-eqb (list_place flags) 0 e, kern_start, walked_from);
      there = λ h count pops. rw (ne_eqb (list_place flags) 0 (λ e. omega (arith, e, h)), kern_start, walked_from) (all-numbers bytes crossed (list_place flags) stack depth used count pops);
      found = λ h f.
          count-found bytes crossed (list_place flags) stack depth used
          (let e : kern_start flags ≡ Start'.At (list_place flags) = rw (ne_eqb (list_place flags) 0 (λ e. omega (arith, e, h)), kern_start) in
          subst (λ (s : Start). (walked_from bytes (Kern crossed) s stack depth used).left.ended ≡ false) e f);
    }
