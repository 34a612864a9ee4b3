-- The walk of a list is what the one statement about walks says, and nothing else is.
use Prim.Native.Nat.{ℕ, zero, suc, ◌+◌, ◌*◌, ◌-◌, ◌%◌, ◌<◌, ◌≤◌}
use mathlib.Core.Path.{◌≡◌, refl, sym, ◌∙◌, ap, subst}
use mathlib.Core.Bool.{Bool, true, false, cond}
use mathlib.Core.List.{List, [], ◌++◌, append_assoc, append-nil}
use mathlib.Core.Logic.{⊎_elim}
use native.Mathlib.Omega.{arith}
use lib.Dec.{eqb}
use lib.IntN.{ℤ, pos}
use lib.ListN.{length, get_or}
use Rattle.laws.specs.Signed.{signed16}
use Rattle.laws.proofs.Numbers.{lt-or-ge}
use Rattle.parse.specs.Reads.{u16_at}
use Rattle.parse.proofs.Laws.{read_u16_got, read_u16-short}
use Rattle.kerning.specs.Additions.{Addition, additions_at}
use Rattle.kerning.specs.Lists.{amount_of, ruled, number_at, on_number, Walk, leaves, before, walk}
use Rattle.kerning.specs.Walks.{made_of, amount_at, GoesOn, list_adds, Ends, empty, short, stop, last, Walks}
use Rattle.kerning.specs.declared.lists.Rule.{Rule}
use Rattle.kerning.specs.declared.lists.Rule.TheVariants.{Odd, Never, Marked}
use Rattle.kerning.specs.declared.lists.Number.{Number}
use Rattle.kerning.specs.declared.lists.Number.TheVariants.{Short, Stop, Last, More}

-- a rule makes something of every number
never_short : (rule : Rule) (n : ℕ) → ruled rule n ≡ Short → ⊥
unfolding ruled
never_short (Odd crossed) n e = go (eqb (n % 2) 1) e
  where
    go : (t : Bool) → cond t (Last (amount_of crossed (n - 1))) (More (amount_of crossed n)) ≡ Short → ⊥
    go true f = cc
    go false f = cc
never_short Never n e = cc
never_short Marked n e = go (eqb n 0xFFFF) e
  where
    go : (t : Bool) → cond t Stop (More (signed16 n)) ≡ Short → ⊥
    go true f = cc
    go false f = cc

module _ (bytes : List ℕ) (rule : Rule) (stride list : ℕ) (stack : List ℕ) (depth used : ℕ) where
  abbrev place : (k : ℕ) → ℕ
  place k = list + k * stride

  abbrev made : (k : ℕ) → Number
  made k = made_of bytes place (ruled rule) k

  abbrev adds : (count : ℕ) → List Addition
  adds count = list_adds bytes place (ruled rule) stack depth used count

  abbrev goes_on : (count : ℕ) → Type 0
  goes_on count = GoesOn bytes place (ruled rule) count

  -- what the walk makes of number k
  turn : (left k : ℕ) → Number → Walk
  turn left k number =
      on_number number (leaves true (suc left) []) (leaves false (suc left) [])
      (λ z. leaves false 0 (additions_at used (get_or stack left 0) z))
      (λ z. before (additions_at used (get_or stack left 0) z) (walk bytes rule stride stack used left (place k + stride)))

  turned : (left k : ℕ) {number : Number} → number_at bytes rule (place k) ≡ number → walk bytes rule stride stack used (suc left) (place k) ≡ turn left k number
  unfolding walk turn
  turned left k e = rw e

  read : (k : ℕ) → place k + 2 ≤ length bytes → number_at bytes rule (place k) ≡ made k
  unfolding number_at
  read k h = rw (read_u16_got bytes (place k) h, number_at)

  unread : (k : ℕ) → length bytes < place k + 2 → number_at bytes rule (place k) ≡ Short
  unfolding number_at
  unread k h = rw (read_u16-short bytes (place k) h, number_at)

  below : (P : ℕ → Type 0) (k : ℕ) → ((j : ℕ) → j < k → P j) → P k → (j : ℕ) → j < suc k → P j
  below P k earlier here j lt =
      ⊎_elim (λ (h : j < k). earlier j h) (λ (h : k ≤ j). let same : k ≡ j = omega (arith, h, lt) in subst P same here) (lt-or-ge j k)

  one_more : (k : ℕ) {z : ℤ} → goes_on k → place k + 2 ≤ length bytes → made k ≡ More z → goes_on (suc k)
  one_more k {z} g h e =
      record {
        there = below (λ (j : ℕ). place j + 2 ≤ length bytes) k g.there h;
        more = below (λ (j : ℕ). made j ≡ More (amount_at bytes place (ruled rule) j)) k g.more
            (e ∙ ap More (sym (ap (λ (n : Number). on_number n (pos 0) (pos 0) (λ amount. amount) (λ amount. amount)) e)));
      }

  -- the list from number k on, the numbers before it letting it go on
  from_number : (left k : ℕ) → left + k ≡ depth → goes_on k → (w : Walk) → w ≡ before (adds k) (walk bytes rule stride stack used left (place k))
      → Walks bytes place (ruled rule) stack depth used w
  unfolding walk turn list_adds
  from_number zero k e g w f =
      record { count = k; goes = g; ends = empty (omega (arith, e)) (f ∙ ap (leaves false 0) (append-nil (adds k))) }
  from_number (suc left) k e g w f =
      ⊎_elim
      (λ (h : length bytes < place k + 2).
      record {
        count = k;
        goes = g;
        ends = short (omega (arith, e)) (λ t. omega (arith, t, h)) (at-end (unread k h) ∙ cut true);
      })
      (λ (h : place k + 2 ≤ length bytes). by_number (made k) refl h (λ g' f'. from_number left (suc k) (omega (arith, e)) g' w f'))
      (lt-or-ge (length bytes) (place k + 2))
    where
      at-end : {number : Number} → number_at bytes rule (place k) ≡ number → w ≡ before (adds k) (turn left k number)
      at-end n = f ∙ ap (before (adds k)) (turned left k n)

      cut : (ended : Bool) → leaves ended (suc left) (adds k ++ []) ≡ leaves ended (depth - k) (adds k)
      cut ended =
          ap (leaves ended (suc left)) (append-nil (adds k))
          ∙ ap (λ (n : ℕ). leaves ended n (adds k)) (let q : suc left ≡ depth - k = omega (arith, e) in q)

      by_number : (number : Number) → made k ≡ number → place k + 2 ≤ length bytes
          → (goes_on (suc k) → w ≡ before (adds (suc k)) (walk bytes rule stride stack used left (place (suc k))) → Walks bytes place (ruled rule) stack depth used w)
          → Walks bytes place (ruled rule) stack depth used w
      by_number Short m h rest = absurd (never_short rule (u16_at bytes (place k)) m)
      by_number Stop m h rest =
          record { count = k; goes = g; ends = stop (omega (arith, e)) h m (at-end (read k h ∙ m) ∙ cut false) }
      by_number (Last z) m h rest =
          record {
            count = k;
            goes = g;
            ends = last (omega (arith, e)) h (m ∙ ap Last (sym (amount m))) (at-end (read k h ∙ m) ∙ popped m);
          }
        where
          amount : made k ≡ Last z → amount_at bytes place (ruled rule) k ≡ z
          amount q = ap (λ (n : Number). on_number n (pos 0) (pos 0) (λ amount. amount) (λ amount. amount)) q

          popped : made k ≡ Last z → leaves false 0 (adds k ++ additions_at used (get_or stack left 0) z) ≡ leaves false 0 (adds (suc k))
          popped q = rw (amount q, (let t : depth - suc k ≡ left = omega (arith, e) in t))
      by_number (More z) m h rest =
          rest (one_more k g h m) (at-end (read k h ∙ m) ∙ next m)
        where
          amount : made k ≡ More z → amount_at bytes place (ruled rule) k ≡ z
          amount q = ap (λ (n : Number). on_number n (pos 0) (pos 0) (λ amount. amount) (λ amount. amount)) q

          next : made k ≡ More z
              → before (adds k) (before (additions_at used (get_or stack left 0) z) (walk bytes rule stride stack used left (place k + stride)))
              ≡ before (adds (suc k)) (walk bytes rule stride stack used left (place (suc k)))
          next q =
              let step : place k + stride ≡ place (suc k) = omega arith in
              rw (amount q, (let t : depth - suc k ≡ left = omega (arith, e) in t), step)
              (ap (λ (xs : List Addition). record { left = (walk bytes rule stride stack used left (place (suc k))).left; additions = xs })
              (sym (append_assoc (adds k) (additions_at used (get_or stack left 0) z) (walk bytes rule stride stack used left (place (suc k))).additions)))

  pub walks : Walks bytes place (ruled rule) stack depth used (walk bytes rule stride stack used depth list)
  unfolding list_adds
  walks =
      from_number depth 0 (omega arith) (record { there = λ k h. absurd (omega arith); more = λ k h. absurd (omega arith) })
      (walk bytes rule stride stack used depth list)
      (ap (λ (p : ℕ). walk bytes rule stride stack used depth p) (let e : list ≡ place 0 = omega arith in e))

-- the statement allows one walk
module _ (bytes : List ℕ) (place_of : ℕ → ℕ) (rule : ℕ → Number) (stack : List ℕ) (depth used : ℕ) where
  clash : {A : Type 0} {number : Number} {a : ℤ} → number ≡ Stop → number ≡ More a → A
  clash e f = absurd cc

  clash-last : {A : Type 0} {number : Number} {a b : ℤ} → number ≡ Last a → number ≡ More b → A
  clash-last e f = absurd cc

  clash-stop : {A : Type 0} {number : Number} {a : ℤ} → number ≡ Stop → number ≡ Last a → A
  clash-stop e f = absurd cc

  in_depth : {count : ℕ} {w : Walk} → Ends bytes place_of rule stack depth used count w → count ≤ depth
  in_depth (empty e f) = omega (arith, e)
  in_depth (short h t f) = omega (arith, h)
  in_depth (stop h t m f) = omega (arith, h)
  in_depth (last h t m f) = omega (arith, h)

  not_past : {count later : ℕ} {w : Walk} → Ends bytes place_of rule stack depth used count w → GoesOn bytes place_of rule later → later ≤ depth → count < later → ⊥
  not_past (empty e f) g d lt = omega (arith, e, d, lt)
  not_past {count} (short h t f) g d lt = t (g.there count lt)
  not_past {count} (stop h t m f) g d lt = clash m (g.more count lt)
  not_past {count} (last h t m f) g d lt = clash-last m (g.more count lt)

  same_end : {count : ℕ} {v w : Walk} → Ends bytes place_of rule stack depth used count v → Ends bytes place_of rule stack depth used count w → v ≡ w
  same_end (empty e f) (empty e' f') = f ∙ sym f'
  same_end (empty e f) (short h t f') = absurd (omega (arith, e, h))
  same_end (empty e f) (stop h t m f') = absurd (omega (arith, e, h))
  same_end (empty e f) (last h t m f') = absurd (omega (arith, e, h))
  same_end (short h t f) (empty e f') = absurd (omega (arith, e, h))
  same_end (short h t f) (short h' t' f') = f ∙ sym f'
  same_end (short h t f) (stop h' t' m f') = absurd (t t')
  same_end (short h t f) (last h' t' m f') = absurd (t t')
  same_end (stop h t m f) (empty e f') = absurd (omega (arith, e, h))
  same_end (stop h t m f) (short h' t' f') = absurd (t' t)
  same_end (stop h t m f) (stop h' t' m' f') = f ∙ sym f'
  same_end (stop h t m f) (last h' t' m' f') = clash-stop m m'
  same_end (last h t m f) (empty e f') = absurd (omega (arith, e, h))
  same_end (last h t m f) (short h' t' f') = absurd (t' t)
  same_end (last h t m f) (stop h' t' m' f') = clash-stop m' m
  same_end (last h t m f) (last h' t' m' f') = f ∙ sym f'

  pub walks_one : {v w : Walk} → Walks bytes place_of rule stack depth used v → Walks bytes place_of rule stack depth used w → v ≡ w
  walks_one {v} {w} a b =
      ⊎_elim
      (λ (lt : a.count < b.count). absurd (not_past a.ends b.goes (in_depth b.ends) lt))
      (λ (ge : b.count ≤ a.count).
      ⊎_elim
      (λ (lt : b.count < a.count). absurd (not_past b.ends a.goes (in_depth a.ends) lt))
      (λ (le : a.count ≤ b.count).
      let same : b.count ≡ a.count = omega (arith, ge, le) in
      same_end a.ends (subst (λ (n : ℕ). Ends bytes place_of rule stack depth used n w) same b.ends))
      (lt-or-ge b.count a.count))
      (lt-or-ge a.count b.count)
