-- The loop that writes the numbers of every line.
use Prim.Native.Nat.{ℕ, zero, suc, ◌+◌, ◌*◌, ◌-◌, ◌<◌, ◌≤◌, ◌^◌}
use mathlib.Core.Path.{◌≡◌, refl, ◌∙◌, sym, ap, ap₂, subst}
use mathlib.Core.Bool.{Bool, true, false, cond}
use mathlib.Core.List.{List, [], ◌∷◌}
use mathlib.Core.Logic.{◌⊎◌, ⊎_elim}
use native.Mathlib.Numerals.{add-one}
use native.Mathlib.Nat.{not-suc-le-zero}
use native.Mathlib.Omega.{arith}
use lib.Dec.{eqb}
use lib.IntN.{ℤ, pos, nat_abs, ◌+ℤ◌}
use lib.ListN.{length, get_or, set, take, drop, length-set, length-drop}
use lib.Seq.{length-take-le, get_or-set_same, get_or-set_other, ext_get_or}
use mir.Syntax.{w64}
use mir.Val.{to_z, of_z}
use Rattle.laws.specs.Lists.{tab}
use Rattle.laws.proofs.Lists.{length-tab, get_d_tab}
use Rattle.laws.proofs.Numbers.{eq-or-ne}
use Rattle.kerning.specs.Line.{is_modest}
use Rattle.kerning.proofs.Signs.{size-sum}
use Rattle.reel.specs.Parts.{place_of, part_of}
use Rattle.reel.proofs.Parts.{place_first, place_next, part_inside}
use Rattle.report.specs.Choices.{extreme_of, larger_one, smaller_one}
use Rattle.report.specs.Numbers.{larger, smaller, sum_of, chosen_of, largest_of, smallest_of, has_some, chosen_beside}
use Rattle.report.specs.Report.{sum_at, largest_at, smallest_at, some_of, sum_of_all, largest_of_all, smallest_of_all, written, page_of}
use Rattle.report.specs.Work.{Sound, Ready}
use Rattle.report.proofs.Sums.{extreme_largest, extreme_smallest, back-small, modest-at, sum-small}
use Rattle.report.proofs.Calls.{Left}

-- the first n of these numbers are so many
pub record First (f : ℕ → ℤ) (xs : List ℤ) (n : ℕ) : Type 0 where
  pub are : (k : ℕ) → k < n → get_or xs k (pos 0) ≡ f k

module _ (f : ℕ → ℤ) where
  first-none : (xs : List ℤ) → First f xs 0
  first-none xs = record { are = λ k h. absurd (not-suc-le-zero h) }

  first_next : (xs : List ℤ) (n : ℕ) (x : ℤ) → First f xs n → n < length xs → x ≡ f n → First f (set xs n x) (n + 1)
  first_next xs n x g h e =
      record {
        are =
            λ k b.
            ⊎_elim
            (λ (s : k ≡ n). subst (λ (j : ℕ). get_or (set xs n x) j (pos 0) ≡ f j) (sym s) (get_or-set_same xs n x (pos 0) h ∙ e))
            (λ (ne : k ≡ n → ⊥). get_or-set_other xs n k x (pos 0) ne ∙ g.are k (omega (arith, b, ne)))
            (eq-or-ne k n);
      }

  first-all : (xs : List ℤ) (n m : ℕ) → First f xs n → n ≡ m → length xs ≡ m → xs ≡ tab f m
  first-all xs n m g e l =
      ext_get_or (pos 0) xs (tab f m) (l ∙ sym (length-tab f m))
      (λ i h. g.are i (omega (arith, h, e, l)) ∙ sym (get_d_tab f m i (pos 0) (omega (arith, h, l))))

-- what is chosen of modest numbers is modest
module _ (choose : ℤ → ℤ → ℤ) (one : (a b : ℤ) → (choose a b ≡ a) ⊎ (choose a b ≡ b)) where
  either-small : (a b : ℤ) → nat_abs a ≤ 1099511627776 → nat_abs b ≤ 1099511627776 → nat_abs (choose a b) ≤ 1099511627776
  either-small a b p q =
      ⊎_elim
      (λ (e : choose a b ≡ a). subst (λ (y : ℤ). nat_abs y ≤ 1099511627776) (sym e) p)
      (λ (e : choose a b ≡ b). subst (λ (y : ℤ). nat_abs y ≤ 1099511627776) (sym e) q)
      (one a b)

  chosen_small : (xs : List ℤ) → is_modest xs ≡ true → (n : ℕ) → n < length xs → nat_abs (chosen_of choose xs n) ≤ 1099511627776
  unfolding chosen_of
  chosen_small xs m zero h = modest-at xs m 0 h
  chosen_small xs m (suc n) h = either-small (chosen_of choose xs n) (get_or xs (suc n) (pos 0)) (chosen_small xs m n (omega (arith, h))) (modest-at xs m (suc n) h)

  beside_small : (some : Bool) (all : ℤ) (used : ℕ) (line : ℤ) → nat_abs all ≤ 1099511627776 → nat_abs line ≤ 1099511627776
      → nat_abs (chosen_beside choose some all used line) ≤ 1099511627776
  unfolding chosen_beside
  beside_small some all used line p q = go (eqb used 0) some
    where
      go : (none some : Bool) → nat_abs (cond none all (cond some (choose all line) line)) ≤ 1099511627776
      go true some = p
      go false true = either-small all line p q
      go false false = q

largest-small : (xs : List ℤ) → is_modest xs ≡ true → (n : ℕ) → n ≤ length xs → nat_abs (largest_of xs n) ≤ 1099511627776
unfolding largest_of
largest-small xs m zero h = omega arith
largest-small xs m (suc n) h = chosen_small larger larger_one xs m n h

smallest-small : (xs : List ℤ) → is_modest xs ≡ true → (n : ℕ) → n ≤ length xs → nat_abs (smallest_of xs n) ≤ 1099511627776
unfolding smallest_of
smallest-small xs m zero h = omega arith
smallest-small xs m (suc n) h = chosen_small smaller smaller_one xs m n h

-- the numbers of the first i lines are written
pub record Filled (rooms used : List ℕ) (along sums largest smallest : List ℤ) (some : Bool) (whole most least : ℤ) (at i : ℕ) : Type 0 where
  pub ready : Ready rooms used along sums largest smallest
  pub within : i ≤ length rooms
  pub few : i ≤ 255
  pub at_place : at ≡ place_of rooms i
  pub sums_are : First (sum_at rooms used along) sums i
  pub largest_are : First (largest_at rooms used along) largest i
  pub smallest_are : First (smallest_at rooms used along) smallest i
  pub some_is : some ≡ some_of rooms used along i
  pub whole_is : whole ≡ sum_of_all rooms used along i
  pub most_is : most ≡ largest_of_all rooms used along i
  pub least_is : least ≡ smallest_of_all rooms used along i
  pub whole-small : nat_abs whole ≤ i * 36028797018963968
  pub most_small : nat_abs most ≤ 1099511627776
  pub least_small : nat_abs least ≤ 1099511627776

module _ (rooms used : List ℕ) (along sums largest smallest : List ℤ) where
  pub filled_start : Ready rooms used along sums largest smallest → Filled rooms used along sums largest smallest false (pos 0) (pos 0) (pos 0) 0 0
  unfolding some_of sum_of_all largest_of_all smallest_of_all
  filled_start r =
      record {
        ready = r;
        within = omega arith;
        few = omega arith;
        at_place = sym (place_first rooms);
        sums_are = first-none _ _;
        largest_are = first-none _ _;
        smallest_are = first-none _ _;
        some_is = refl;
        whole_is = refl;
        most_is = refl;
        least_is = refl;
        whole-small = omega arith;
        most_small = omega arith;
        least_small = omega arith;
      }

  module _ {some : Bool} {whole most least : ℤ} {at i : ℕ} (f : Filled rooms used along sums largest smallest some whole most least at i) where
    -- one turn
    module _ (h : i < length rooms) where
      abbrev here : List ℤ
      here = take (at + get_or rooms i 0 - at) (drop at along)

      abbrev places : ℕ
      places = get_or used i 0

      pub here-fits : at + get_or rooms i 0 ≤ length along
      here-fits = omega (arith, f.at_place, part_inside rooms i h, f.ready.whole)

      here_is : here ≡ part_of rooms i along
      unfolding part_of
      here_is = ap₂ (λ n a. take n (drop a along)) size f.at_place
        where
          size : at + get_or rooms i 0 - at ≡ get_or rooms i 0
          size = omega arith

      part_long : length (part_of rooms i along) ≡ get_or rooms i 0
      unfolding part_of
      part_long =
          length-take-le (get_or rooms i 0) (drop (place_of rooms i) along)
          (omega (arith, here-fits, f.at_place, length-drop (place_of rooms i) along))

      sound : Sound rooms used along i
      sound = f.ready.sound i h

      part_used : places ≤ length (part_of rooms i along)
      part_used = omega (arith, sound.within, part_long)

      pub sum_may : (places ≤ length here) × ((places ≤ 32768) × (is_modest here ≡ true))
      sum_may =
          subst (λ (xs : List ℤ). (places ≤ length xs) × ((places ≤ 32768) × (is_modest xs ≡ true))) (sym here_is)
          (part_used, (sound.short, sound.modest))

      pub choose_may : (places ≤ length here) × (is_modest here ≡ true)
      choose_may = (sum_may.0, sum_may.1.1)

      sum-size : nat_abs (sum_at rooms used along i) ≤ 36028797018963968
      sum-size = omega (arith, sum-small (part_of rooms i along) sound.modest places part_used, sound.short)

      largest_size : nat_abs (largest_at rooms used along i) ≤ 1099511627776
      largest_size = largest-small (part_of rooms i along) sound.modest places part_used

      smallest-size : nat_abs (smallest_at rooms used along i) ≤ 1099511627776
      smallest-size = smallest-small (part_of rooms i along) sound.modest places part_used

      -- a number that the code has got comes back from its bits
      returned : {r z : ℤ} {n : ℕ} → r ≡ z → nat_abs z ≤ n → n < 2 ^ 63 → to_z w64 (of_z w64 r) ≡ z
      returned e b k = ap (λ (x : ℤ). to_z w64 (of_z w64 x)) e ∙ back-small b k

      module _ {s : ℤ} (es : s ≡ sum_of here places) where
        sum_back : to_z w64 (of_z w64 s) ≡ sum_at rooms used along i
        sum_back = returned (es ∙ ap (λ (xs : List ℤ). sum_of xs places) here_is) sum-size (omega arith)

        pub whole-fits : nat_abs whole + nat_abs (to_z w64 (of_z w64 s)) < 2 ^ 63
        whole-fits =
            let same : nat_abs (to_z w64 (of_z w64 s)) ≡ nat_abs (sum_at rooms used along i) = ap nat_abs sum_back in
            omega (arith, same, sum-size, f.whole-small, h, f.ready.few)

        module _ {m l t m' l' : ℤ} {some' : Bool}
            (em : m ≡ extreme_of larger here places)
            (el : l ≡ extreme_of smaller here places)
            (et : t ≡ whole +ℤ to_z w64 (of_z w64 s))
            (em' : m' ≡ chosen_beside larger some most places (to_z w64 (of_z w64 m)))
            (el' : l' ≡ chosen_beside smaller some least places (to_z w64 (of_z w64 l)))
            (eo : some' ≡ has_some some places) where
          largest-back : to_z w64 (of_z w64 m) ≡ largest_at rooms used along i
          largest-back = returned (em ∙ extreme_largest here places ∙ ap (λ (xs : List ℤ). largest_of xs places) here_is) largest_size (omega arith)

          smallest-back : to_z w64 (of_z w64 l) ≡ smallest_at rooms used along i
          smallest-back = returned (el ∙ extreme_smallest here places ∙ ap (λ (xs : List ℤ). smallest_of xs places) here_is) smallest-size (omega arith)

          whole-size : nat_abs (whole +ℤ sum_at rooms used along i) ≤ (i + 1) * 36028797018963968
          whole-size = omega (arith, size-sum whole (sum_at rooms used along i), sum-size, f.whole-small)

          whole_back : to_z w64 (of_z w64 t) ≡ whole +ℤ sum_at rooms used along i
          whole_back = returned (et ∙ ap (λ (z : ℤ). whole +ℤ z) sum_back) whole-size (omega (arith, h, f.ready.few))

          most_size : nat_abs (chosen_beside larger some most places (largest_at rooms used along i)) ≤ 1099511627776
          most_size = beside_small larger larger_one some most places (largest_at rooms used along i) f.most_small largest_size

          most_back : to_z w64 (of_z w64 m') ≡ chosen_beside larger some most places (largest_at rooms used along i)
          most_back = returned (em' ∙ ap (λ (z : ℤ). chosen_beside larger some most places z) largest-back) most_size (omega arith)

          least_size : nat_abs (chosen_beside smaller some least places (smallest_at rooms used along i)) ≤ 1099511627776
          least_size = beside_small smaller smaller_one some least places (smallest_at rooms used along i) f.least_small smallest-size

          least_back : to_z w64 (of_z w64 l') ≡ chosen_beside smaller some least places (smallest_at rooms used along i)
          least_back = returned (el' ∙ ap (λ (z : ℤ). chosen_beside smaller some least places z) smallest-back) least_size (omega arith)

          still_ready : Ready rooms used along (set sums i (to_z w64 (of_z w64 s))) (set largest i (to_z w64 (of_z w64 m))) (set smallest i (to_z w64 (of_z w64 l)))
          still_ready =
              record {
                few = f.ready.few;
                all-used = f.ready.all-used;
                whole = f.ready.whole;
                all-sums = length-set sums i _ ∙ f.ready.all-sums;
                all-largest = length-set largest i _ ∙ f.ready.all-largest;
                all-smallest = length-set smallest i _ ∙ f.ready.all-smallest;
                sound = f.ready.sound;
              }

          pub filled_next : Filled rooms used along
              (set sums i (to_z w64 (of_z w64 s)))
              (set largest i (to_z w64 (of_z w64 m)))
              (set smallest i (to_z w64 (of_z w64 l)))
              some' (to_z w64 (of_z w64 t)) (to_z w64 (of_z w64 m')) (to_z w64 (of_z w64 l')) (at + get_or rooms i 0) (i + 1)
          unfolding some_of sum_of_all largest_of_all smallest_of_all
          filled_next =
              record {
                ready = still_ready;
                within = omega (arith, h);
                few = omega (arith, h, f.ready.few);
                at_place = ap (λ (n : ℕ). n + get_or rooms i 0) f.at_place ∙ place_next rooms i;
                sums_are = first_next _ sums i _ f.sums_are (omega (arith, h, f.ready.all-sums)) sum_back;
                largest_are = first_next _ largest i _ f.largest_are (omega (arith, h, f.ready.all-largest)) largest-back;
                smallest_are = first_next _ smallest i _ f.smallest_are (omega (arith, h, f.ready.all-smallest)) smallest-back;
                some_is = eo ∙ ap (λ (b : Bool). has_some b places) f.some_is ∙ sym (ap (some_of rooms used along) (add-one i));
                whole_is = whole_back ∙ ap (λ (z : ℤ). z +ℤ sum_at rooms used along i) f.whole_is ∙ sym (ap (sum_of_all rooms used along) (add-one i));
                most_is =
                    most_back
                    ∙ ap₂ (λ b z. chosen_beside larger b z places (largest_at rooms used along i)) f.some_is f.most_is
                    ∙ sym (ap (largest_of_all rooms used along) (add-one i));
                least_is =
                    least_back
                    ∙ ap₂ (λ b z. chosen_beside smaller b z places (smallest_at rooms used along i)) f.some_is f.least_is
                    ∙ sym (ap (smallest_of_all rooms used along) (add-one i));
                whole-small = subst (λ (z : ℤ). nat_abs z ≤ (i + 1) * 36028797018963968) (sym whole_back) whole-size;
                most_small = subst (λ (z : ℤ). nat_abs z ≤ 1099511627776) (sym most_back) most_size;
                least_small = subst (λ (z : ℤ). nat_abs z ≤ 1099511627776) (sym least_back) least_size;
              }

    -- all lines
    module _ (h : length rooms ≤ i) where
      ended : i ≡ length rooms
      ended = omega (arith, h, f.within)

      pub filled_all : Left (page_of sums largest smallest (whole ∷ most ∷ least ∷ [])) (written rooms used along)
      unfolding written
      filled_all = (
        first-all _ sums i (length rooms) f.sums_are ended f.ready.all-sums,
        (
          first-all _ largest i (length rooms) f.largest_are ended f.ready.all-largest,
          (
            first-all _ smallest i (length rooms) f.smallest_are ended f.ready.all-smallest,
            all_three,
          ),
        ),
      )
        where
          all_three :
              whole ∷ most ∷ least ∷ []
              ≡ sum_of_all rooms used along (length rooms) ∷ largest_of_all rooms used along (length rooms) ∷ smallest_of_all rooms used along (length rooms) ∷ []
          all_three =
              ap (λ (z : ℤ). z ∷ most ∷ least ∷ []) (f.whole_is ∙ ap (sum_of_all rooms used along) ended)
              ∙ ap₂ (λ y z. sum_of_all rooms used along (length rooms) ∷ y ∷ z ∷ [])
              (f.most_is ∙ ap (largest_of_all rooms used along) ended)
              (f.least_is ∙ ap (smallest_of_all rooms used along) ended)
