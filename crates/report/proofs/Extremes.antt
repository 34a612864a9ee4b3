-- The largest is one of the numbers that none is above, and the smallest one that none is below: of a line, and of all lines.
use Rattle.std.specs.Prelude.{Result, Ok, Err}
use Prim.Native.Nat.{ℕ, zero, suc, ◌<◌}
use mathlib.Core.Path.{◌≡◌, refl, sym, ◌∙◌, ap, subst}
use mathlib.Core.Bool.{Bool, true, false, cond}
use mathlib.Core.List.{List}
use mathlib.Core.Logic.{◌⊎◌, inl, inr, ⊎_elim}
use native.Mathlib.Nat.{not-suc-le-zero, le_refl}
use native.Mathlib.Omega.{arith}
use lib.IntN.{ℤ, pos, negsuc}
use lib.ListN.{get_or}
use lib.Signed.{lt_z}
use borrow.Author.Tests.{le-ltb, ltb-true, ltb-false, eq-eqb, ne_eqb}
use Rattle.reel.specs.Parts.{part_of}
use Rattle.laws.specs.Lists.{tab}
use Rattle.laws.proofs.Lists.{get_d_tab}
use Rattle.laws.proofs.Numbers.{eq-or-ne}
use Rattle.answers.specs.Refuse.{refuse}
use Rattle.answers.specs.declared.Refusal.{Refusal}
use Rattle.answers.specs.declared.Answer.TheVariants as Answer'
use Rattle.report.specs.Numbers.{chosen_of, largest_of, smallest_of, has_some, chosen_beside}
use Rattle.report.specs.Report.{Lines, Page, count_of, along_at, used_at, report_tests, sum_at, largest_at, smallest_at, some_of, largest_of_all, smallest_of_all, written, answer_by, page_by, report_answer, report_leaves}
use Rattle.report.specs.Extremes.{above, below, Extreme, ExtremeOfAll, Reported}

not_both : true ≡ false → ⊥
not_both e = let z : ◌≡◌ {A = ℕ} 0 1 = cc in omega arith

-- the order of whole numbers
not_itself : (z : ℤ) → lt_z z z ≡ false
not_itself (pos n) = le-ltb n n (le_refl n)
not_itself (negsuc n) = le-ltb n n (le_refl n)

not_back : (a b : ℤ) → lt_z a b ≡ true → lt_z b a ≡ false
not_back (pos a) (pos b) h = le-ltb b a (omega (arith, ltb-true a b h))
not_back (pos a) (negsuc b) h = absurd (not_both (sym h))
not_back (negsuc a) (pos b) h = refl
not_back (negsuc a) (negsuc b) h = le-ltb a b (omega (arith, ltb-true b a h))

not_through : (a b c : ℤ) → lt_z b a ≡ false → lt_z c b ≡ false → lt_z c a ≡ false
not_through (pos a) (pos b) (pos c) h k = le-ltb c a (omega (arith, ltb-false b a h, ltb-false c b k))
not_through (pos a) (pos b) (negsuc c) h k = absurd (not_both k)
not_through (pos a) (negsuc b) c h k = absurd (not_both h)
not_through (negsuc a) (pos b) (pos c) h k = refl
not_through (negsuc a) (pos b) (negsuc c) h k = absurd (not_both k)
not_through (negsuc a) (negsuc b) (pos c) h k = refl
not_through (negsuc a) (negsuc b) (negsuc c) h k = le-ltb a c (omega (arith, ltb-false a b h, ltb-false b c k))

record Ordered (beyond : ℤ → ℤ → Bool) : Type 0 where
  pub itself : (z : ℤ) → beyond z z ≡ false
  pub back : (a b : ℤ) → beyond b a ≡ true → beyond a b ≡ false
  pub through : (x y z : ℤ) → beyond x y ≡ false → beyond y z ≡ false → beyond x z ≡ false

above-ordered : Ordered above
above-ordered = record { itself = not_itself; back = not_back; through = not_through }

below-ordered : Ordered below
below-ordered = record { itself = not_itself; back = λ a b h. not_back b a h; through = λ x y z h k. not_through z y x k h }

-- of two numbers the one that is beyond the other
module _ (beyond : ℤ → ℤ → Bool) (o : Ordered beyond) where
  abbrev choose : ℤ → ℤ → ℤ
  choose a b = cond (beyond b a) b a

  one : (a b : ℤ) → (choose a b ≡ a) ⊎ (choose a b ≡ b)
  one a b = go (beyond b a)
    where
      go : (t : Bool) → (cond t b a ≡ a) ⊎ (cond t b a ≡ b)
      go true = inr refl
      go false = inl refl

  first : (a b x : ℤ) → beyond x a ≡ false → beyond x (choose a b) ≡ false
  first a b x h = go (beyond b a) refl
    where
      go : (t : Bool) → beyond b a ≡ t → beyond x (cond t b a) ≡ false
      go true e = o.through x a b h (o.back a b e)
      go false e = h

  second : (a b : ℤ) → beyond b (choose a b) ≡ false
  second a b = go (beyond b a) refl
    where
      go : (t : Bool) → beyond b a ≡ t → beyond b (cond t b a) ≡ false
      go true e = o.itself b
      go false e = e

  -- of the numbers of a line
  line-more : (xs : List ℤ) (n : ℕ) (z : ℤ) → Extreme beyond xs n z → Extreme beyond xs (suc n) (choose z (get_or xs n (pos 0)))
  line-more xs n z x =
      ⊎_elim
      (λ (e : choose z (get_or xs n (pos 0)) ≡ z).
      record { place = x.place; inside = omega (arith, x.inside); there = x.there ∙ sym e; none = none' })
      (λ (e : choose z (get_or xs n (pos 0)) ≡ get_or xs n (pos 0)). record { place = n; inside = omega arith; there = sym e; none = none' })
      (one z (get_or xs n (pos 0)))
    where
      none' : (p : ℕ) → p < suc n → beyond (get_or xs p (pos 0)) (choose z (get_or xs n (pos 0))) ≡ false
      none' p h =
          ⊎_elim
          (λ (e : n ≡ p). subst (λ (k : ℕ). beyond (get_or xs k (pos 0)) (choose z (get_or xs n (pos 0))) ≡ false) e (second z (get_or xs n (pos 0))))
          (λ (ne : n ≡ p → ⊥). first z (get_or xs n (pos 0)) (get_or xs p (pos 0)) (x.none p (omega (arith, h, ne))))
          (eq-or-ne n p)

  line_extreme : (xs : List ℤ) (n : ℕ) → Extreme beyond xs (suc n) (chosen_of choose xs n)
  unfolding chosen_of
  line_extreme xs zero =
      record {
        place = 0;
        inside = omega arith;
        there = refl;
        none =
            λ p h.
            let e : 0 ≡ p = omega (arith, h) in
            subst (λ (k : ℕ). beyond (get_or xs k (pos 0)) (get_or xs 0 (pos 0)) ≡ false) e (o.itself (get_or xs 0 (pos 0)));
      }
  line_extreme xs (suc n) = line-more xs (suc n) (chosen_of choose xs n) (line_extreme xs n)

  -- of all lines: one more line beside those before it
  module _ (numbers : ℕ → List ℤ) (used : ℕ → ℕ) where
    -- what is so of the lines so far
    record SoFar (n : ℕ) (some : Bool) (all : ℤ) : Type 0 where
      pub extreme : some ≡ true → ExtremeOfAll beyond numbers used n all
      pub empty : some ≡ false → (k : ℕ) → k < n → used k ≡ 0

    far_start : (all : ℤ) → SoFar 0 false all
    far_start all = record { extreme = λ e. absurd (not_both (sym e)); empty = λ e k h. absurd (not-suc-le-zero h) }

    module _ (n : ℕ) (all line : ℤ) where
      -- an empty line
      far_none : (some : Bool) → SoFar n some all → used n ≡ 0 → SoFar (suc n) some all
      far_none some s z =
          record {
            extreme =
                λ e.
                let x = s.extreme e in
                record {
                  line = x.line;
                  place = x.place;
                  among = omega (arith, x.among);
                  inside = x.inside;
                  there = x.there;
                  none = λ k p h u. x.none k p (earlier k p h u) u;
                };
            empty =
                λ e k h. ⊎_elim (λ (m : k ≡ n). ap used m ∙ z) (λ (ne : k ≡ n → ⊥). s.empty e k (omega (arith, h, ne))) (eq-or-ne k n);
          }
        where
          earlier : (k p : ℕ) → k < suc n → p < used k → k < n
          earlier k p h u = ⊎_elim (λ (m : k ≡ n). absurd (omega (arith, u, ap used m, z))) (λ (ne : k ≡ n → ⊥). omega (arith, h, ne)) (eq-or-ne k n)

      module _ (x : Extreme beyond (numbers n) (used n) line) where
        -- the first line with a used place
        far_first : SoFar n false all → SoFar (suc n) true line
        far_first s =
            record {
              extreme =
                  λ e.
                  record {
                    line = n;
                    place = x.place;
                    among = omega arith;
                    inside = x.inside;
                    there = x.there;
                    none =
                        λ k p h u.
                        ⊎_elim
                        (λ (m : n ≡ k). subst (λ (j : ℕ). p < used j → beyond (get_or (numbers j) p (pos 0)) line ≡ false) m (x.none p) u)
                        (λ (ne : n ≡ k → ⊥). absurd (omega (arith, u, s.empty refl k (omega (arith, h, ne)))))
                        (eq-or-ne n k);
                  };
              empty = λ e. absurd (not_both e);
            }

        -- one more
        far_more : SoFar n true all → SoFar (suc n) true (choose all line)
        far_more s =
            let a = s.extreme refl in
            record {
              extreme =
                  λ e.
                  ⊎_elim
                  (λ (i : choose all line ≡ all).
                  record { line = a.line; place = a.place; among = omega (arith, a.among); inside = a.inside; there = a.there ∙ sym i; none = none' a })
                  (λ (i : choose all line ≡ line).
                  record { line = n; place = x.place; among = omega arith; inside = x.inside; there = x.there ∙ sym i; none = none' a })
                  (one all line);
              empty = λ e. absurd (not_both e);
            }
          where
            none' : ExtremeOfAll beyond numbers used n all → (k p : ℕ) → k < suc n → p < used k → beyond (get_or (numbers k) p (pos 0)) (choose all line) ≡ false
            none' a k p h u =
                ⊎_elim
                (λ (m : n ≡ k).
                subst (λ (j : ℕ). p < used j → beyond (get_or (numbers j) p (pos 0)) (choose all line) ≡ false) m
                (λ v. beside (get_or (numbers n) p (pos 0)) (x.none p v)) u)
                (λ (ne : n ≡ k → ⊥). first all line (get_or (numbers k) p (pos 0)) (a.none k p (omega (arith, h, ne)) u))
                (eq-or-ne n k)
              where
                beside : (y : ℤ) → beyond y line ≡ false → beyond y (choose all line) ≡ false
                beside y g = go (beyond line all) refl
                  where
                    go : (t : Bool) → beyond line all ≡ t → beyond y (cond t line all) ≡ false
                    go true e = g
                    go false e = o.through y line all g e

      -- the line that comes, whatever it has
      far_next : (some : Bool) → SoFar n some all → (0 < used n → Extreme beyond (numbers n) (used n) line)
          → SoFar (suc n) (has_some some (used n)) (chosen_beside choose some all (used n) line)
      unfolding has_some chosen_beside
      far_next some s x =
          ⊎_elim
          (λ (z : used n ≡ 0). rw (eq-eqb (used n) 0 z) (far_none some s z))
          (λ (nz : used n ≡ 0 → ⊥). rw (ne_eqb (used n) 0 nz) (go some s (x (omega (arith, nz)))))
          (eq-or-ne (used n) 0)
        where
          go : (some : Bool) → SoFar n some all → Extreme beyond (numbers n) (used n) line → SoFar (suc n) true (cond some (choose all line) line)
          go true s x = far_more x s
          go false s x = far_first x s

pub largest_is : (xs : List ℤ) (n : ℕ) → 0 < n → Extreme above xs n (largest_of xs n)
unfolding largest_of
largest_is xs zero h = absurd (not-suc-le-zero h)
largest_is xs (suc n) h = line_extreme above above-ordered xs n

pub smallest_is : (xs : List ℤ) (n : ℕ) → 0 < n → Extreme below xs n (smallest_of xs n)
unfolding smallest_of
smallest_is xs zero h = absurd (not-suc-le-zero h)
smallest_is xs (suc n) h = line_extreme below below-ordered xs n

-- of all lines
module _ (rooms used : List ℕ) (along : List ℤ) where
  abbrev numbers : ℕ → List ℤ
  numbers k = part_of rooms k along

  abbrev places : ℕ → ℕ
  places k = get_or used k 0

  largest_so_far : (n : ℕ) → SoFar above above-ordered numbers places n (some_of rooms used along n) (largest_of_all rooms used along n)
  unfolding some_of largest_of_all
  largest_so_far zero = far_start above above-ordered numbers places (pos 0)
  largest_so_far (suc n) =
      far_next above above-ordered numbers places n
      (largest_of_all rooms used along n) (largest_at rooms used along n) (some_of rooms used along n) (largest_so_far n)
      (λ h. largest_is (numbers n) (places n) h)

  smallest_so_far : (n : ℕ) → SoFar below below-ordered numbers places n (some_of rooms used along n) (smallest_of_all rooms used along n)
  unfolding some_of smallest_of_all
  smallest_so_far zero = far_start below below-ordered numbers places (pos 0)
  smallest_so_far (suc n) =
      far_next below below-ordered numbers places n
      (smallest_of_all rooms used along n) (smallest_at rooms used along n) (some_of rooms used along n) (smallest_so_far n)
      (λ h. smallest_is (numbers n) (places n) h)

  -- a line with a used place makes them some
  some-there : (n k : ℕ) → k < n → 0 < places k → some_of rooms used along n ≡ true
  some-there n k h u = go (some_of rooms used along n) (largest_so_far n).empty
    where
      go : (t : Bool) → (t ≡ false → (k : ℕ) → k < n → places k ≡ 0) → t ≡ true
      go true e = refl
      go false e = absurd (omega (arith, u, e refl k h))

  none-largest : (n : ℕ) → ((k : ℕ) → k < n → places k ≡ 0) → largest_of_all rooms used along n ≡ pos 0
  unfolding largest_of_all chosen_beside
  none-largest zero e = refl
  none-largest (suc n) e = rw (eq-eqb (places n) 0 (e n (omega arith))) (none-largest n (λ k h. e k (omega (arith, h))))

  none-smallest : (n : ℕ) → ((k : ℕ) → k < n → places k ≡ 0) → smallest_of_all rooms used along n ≡ pos 0
  unfolding smallest_of_all chosen_beside
  none-smallest zero e = refl
  none-smallest (suc n) e = rw (eq-eqb (places n) 0 (e n (omega arith))) (none-smallest n (λ k h. e k (omega (arith, h))))

written-reports : (r : Lines) → Reported r (written r.rooms r.used r.along)
unfolding written along_at largest_of smallest_of
written-reports r =
    record {
      sum = λ k h. get_d_tab (sum_at r.rooms r.used r.along) (count_of r) k (pos 0) h;
      largest = λ k h u. subst (λ (z : ℤ). Extreme above (along_at r k) (used_at r k) z) (sym (most k h)) (largest_is (along_at r k) (used_at r k) u);
      smallest = λ k h u. subst (λ (z : ℤ). Extreme below (along_at r k) (used_at r k) z) (sym (least k h)) (smallest_is (along_at r k) (used_at r k) u);
      no_largest = λ k h z. most k h ∙ ap (largest_of (along_at r k)) z;
      no_smallest = λ k h z. least k h ∙ ap (smallest_of (along_at r k)) z;
      sum_of-all = refl;
      largest_of-all =
          λ k h u. (largest_so_far r.rooms r.used r.along (count_of r)).extreme (some-there r.rooms r.used r.along (count_of r) k h u);
      smallest_of-all =
          λ k h u. (smallest_so_far r.rooms r.used r.along (count_of r)).extreme (some-there r.rooms r.used r.along (count_of r) k h u);
      none_of_all =
          λ e. (none-largest r.rooms r.used r.along (count_of r) e, none-smallest r.rooms r.used r.along (count_of r) e);
    }
  where
    most : (k : ℕ) → k < count_of r → get_or (tab (largest_at r.rooms r.used r.along) (count_of r)) k (pos 0) ≡ largest_of (along_at r k) (used_at r k)
    most k h = get_d_tab (largest_at r.rooms r.used r.along) (count_of r) k (pos 0) h

    least : (k : ℕ) → k < count_of r → get_or (tab (smallest_at r.rooms r.used r.along) (count_of r)) k (pos 0) ≡ smallest_of (along_at r k) (used_at r k)
    least k h = get_d_tab (smallest_at r.rooms r.used r.along) (count_of r) k (pos 0) h

pub reported : (r : Lines) (page : Page) → report_answer r page ≡ Answer'.Done → Reported r (report_leaves r page)
unfolding report_answer report_leaves
reported r page e = go (refuse (report_tests r page.sums page.largest page.smallest)) e
  where
    go : (c : Result Unit Refusal) → answer_by c ≡ Answer'.Done → Reported r (page_by c page (written r.rooms r.used r.along))
    go (Ok tt) e = written-reports r
    go (Err why) e = let z : ◌≡◌ {A = ℕ} 0 1 = cc in absurd (omega arith)

-- a refused one leaves the page as it was
pub refused_stays : (r : Lines) (page : Page) (why : Refusal) → report_answer r page ≡ Answer'.Refused why → report_leaves r page ≡ page
unfolding report_answer report_leaves
refused_stays r page why e = go (refuse (report_tests r page.sums page.largest page.smallest)) e
  where
    go : (c : Result Unit Refusal) → answer_by c ≡ Answer'.Refused why → page_by c page (written r.rooms r.used r.along) ≡ page
    go (Ok tt) e = let z : ◌≡◌ {A = ℕ} 0 1 = cc in absurd (omega arith)
    go (Err other) e = refl
