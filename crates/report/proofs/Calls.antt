-- The tests of a report, from what the code has tested, and what lines have that pass them.
use Rattle.std.specs.Prelude.{Result, Ok, Err}
use Prim.Native.Nat.{ℕ, ◌<◌}
use mathlib.Core.Path.{◌≡◌, refl, sym, ◌∙◌}
use mathlib.Core.Bool.{Bool, true, false, not}
use mathlib.Core.List.{List}
use native.Mathlib.Omega.{arith}
use lib.Dec.{leb, eqb}
use lib.IntN.{ℤ}
use lib.ListN.{length, get_or}
use borrow.Author.Tests.{leb-true, eqb-true, not-true, not-false}
use Rattle.laws.proofs.Lists.{both_left, both_right, every-at}
use Rattle.answers.specs.Limits.{room_limit}
use Rattle.answers.specs.Refuse.{refuse}
use Rattle.answers.specs.declared.Refusal.{Refusal}
use Rattle.answers.specs.declared.Refusal.TheVariants as Refusal'
use Rattle.answers.specs.declared.Answer.TheVariants as Answer'
use Rattle.answers.proofs.Refusals.{passed_here, passed_later}
use Rattle.line.specs.Line.{Valid}
use Rattle.kerning.specs.Line.{is_modest, is_kernable, is_taken}
use Rattle.kerning.proofs.Calls.{kernable_of}
use Rattle.reel.specs.Parts.{total, adds_up, part_of}
use Rattle.reel.proofs.Parts.{part_inside, length_part}
use Rattle.report.specs.Report.{Lines, Page, count_of, line_limit, line_at, along_at, is_lent, are_taken, report_tests, written, report_answer, report_leaves}
use Rattle.report.specs.Work.{Cut, Sound, Ready}

adds_true : (sizes : List ℕ) (slice : ℕ) → adds_up sizes slice ≡ true → total sizes ≡ slice
unfolding adds_up
adds_true sizes slice e = eqb-true (total sizes) slice e

-- what is lent for a report
record Lent (r : Lines) (sums largest smallest : List ℤ) : Type 0 where
  pub cut : Cut r
  pub all-sums : length sums ≡ count_of r
  pub all-largest : length largest ≡ count_of r
  pub all-smallest : length smallest ≡ count_of r

lent_of : (r : Lines) (sums largest smallest : List ℤ) → is_lent r sums largest smallest ≡ true → Lent r sums largest smallest
unfolding is_lent line_limit
lent_of r sums largest smallest e =
    let e1 = both_right (leb (count_of r) 255) _ e in
    let e2 = both_right (eqb (length r.characters) (count_of r)) _ e1 in
    let e3 = both_right (eqb (length r.used) (count_of r)) _ e2 in
    let e4 = both_right (eqb (length sums) (count_of r)) _ e3 in
    let e5 = both_right (eqb (length largest) (count_of r)) _ e4 in
    let e6 = both_right (eqb (length smallest) (count_of r)) _ e5 in
    let e7 = both_right (adds_up r.rooms (length r.glyphs)) _ e6 in
    let e8 = both_right (adds_up r.rooms (length r.tags)) _ e7 in
    record {
      cut =
          record {
            few = leb-true _ _ (both_left (leb (count_of r) 255) _ e);
            all-characters = eqb-true _ _ (both_left (eqb (length r.characters) (count_of r)) _ e1);
            all-used = eqb-true _ _ (both_left (eqb (length r.used) (count_of r)) _ e2);
            whole-glyphs = adds_true _ _ (both_left (adds_up r.rooms (length r.glyphs)) _ e6);
            whole-tags = adds_true _ _ (both_left (adds_up r.rooms (length r.tags)) _ e7);
            whole-along = adds_true _ _ (both_left (adds_up r.rooms (length r.along)) _ e8);
            whole-homes = adds_true _ _ (both_right (adds_up r.rooms (length r.along)) _ e8);
          };
      all-sums = eqb-true _ _ (both_left (eqb (length sums) (count_of r)) _ e3);
      all-largest = eqb-true _ _ (both_left (eqb (length largest) (count_of r)) _ e4);
      all-smallest = eqb-true _ _ (both_left (eqb (length smallest) (count_of r)) _ e5);
    }

-- a line that LINE takes may be added up
module _ (r : Lines) (cut : Cut r) (k : ℕ) (h : k < count_of r) where
  long : length (part_of r.rooms k r.glyphs) ≡ get_or r.rooms k 0
  long = length_part r.rooms k r.glyphs (omega (arith, part_inside r.rooms k h, cut.whole-glyphs))

  valid-sound : Valid (line_at r k) → is_modest (along_at r k) ≡ true → Sound r.rooms r.used r.along k
  unfolding line_at along_at room_limit
  valid-sound v m =
      record {
        within = omega (arith, long, v.within);
        short = omega (arith, v.within, v.limited);
        modest = m;
      }

  sound : is_taken (line_at r k) (along_at r k) ≡ true → Sound r.rooms r.used r.along k
  unfolding is_taken
  sound e =
      valid-sound
      (kernable_of (line_at r k) (along_at r k) (both_left (is_kernable (line_at r k) (along_at r k)) _ e)).valid
      (both_right (is_kernable (line_at r k) (along_at r k)) _ e)

module _ (r : Lines) (sums largest smallest : List ℤ) where
  ready : Lent r sums largest smallest → are_taken r ≡ true → Ready r.rooms r.used r.along sums largest smallest
  unfolding are_taken
  ready v e =
      record {
        few = v.cut.few;
        all-used = v.cut.all-used;
        whole = v.cut.whole-along;
        all-sums = v.all-sums;
        all-largest = v.all-largest;
        all-smallest = v.all-smallest;
        sound = λ k h. sound r v.cut k h (every-at (λ k. is_taken (line_at r k) (along_at r k)) (count_of r) k e h);
      }

  -- the tests, as the code makes them
  module _ {lent : Bool} (e : lent ≡ is_lent r sums largest smallest) where
    pub no_reel : not lent ≡ true → Err Refusal'.Reel ≡ refuse (report_tests r sums largest smallest)
    unfolding refuse report_tests
    no_reel h = rw (sym e ∙ not-true _ h)

    module _ (h : not lent ≡ false) where
      pub is_cut : Cut r
      is_cut = (lent_of r sums largest smallest (sym e ∙ not-false _ h)).cut

      module _ {taken : Bool} (t : taken ≡ are_taken r) where
        pub no_line : not taken ≡ true → Err Refusal'.Line ≡ refuse (report_tests r sums largest smallest)
        unfolding refuse report_tests
        no_line n = rw (sym e ∙ not-false _ h, sym t ∙ not-true _ n)

        pub all_pass : not taken ≡ false → Ok tt ≡ refuse (report_tests r sums largest smallest)
        unfolding refuse report_tests
        all_pass n = rw (sym e ∙ not-false _ h, sym t ∙ not-false _ n)

  -- and what passed them
  pub is_ready_lem : refuse (report_tests r sums largest smallest) ≡ Ok tt → Ready r.rooms r.used r.along sums largest smallest
  unfolding report_tests
  is_ready_lem p = ready (lent_of r sums largest smallest (not-false _ (passed_here _ _ p))) (not-false _ (passed_here _ _ (passed_later _ _ p)))

-- what stands in the slices that were lent to be written
abbrev pub Left : (after left : Page) → Type 0
Left after left =
    (after.sums ≡ left.sums) × ((after.largest ≡ left.largest) × ((after.smallest ≡ left.smallest) × (after.totals ≡ left.totals)))

module _ (r : Lines) (page : Page) {check : (Result Unit Refusal)} (e : check ≡ refuse (report_tests r page.sums page.largest page.smallest)) where
  pub refused_leaves : {why : Refusal} → check ≡ Err why → (Answer'.Refused why ≡ report_answer r page) × Left page (report_leaves r page)
  unfolding report_answer report_leaves
  refused_leaves f = rw (sym e ∙ f) (refl, (refl, (refl, (refl, refl))))

  pub passed-leaves : {after : Page} → check ≡ Ok tt → Left after (written r.rooms r.used r.along)
      → (Answer'.Done ≡ report_answer r page) × Left after (report_leaves r page)
  unfolding report_answer report_leaves
  passed-leaves f left = rw (sym e ∙ f) (refl, left)
