-- REEL is given exactly when it should be: the test decides what is a reel.
use Prim.Native.Nat.{ℕ}
use mathlib.Core.Path.{◌≡◌, refl}
use mathlib.Core.Bool.{Bool, true, false}
use mathlib.Core.List.{List}
use native.Mathlib.Omega.{arith}
use lib.Dec.{leb, eqb}
use lib.ListN.{length}
use borrow.Author.Tests.{le-leb, leb-true, eq-eqb, eqb-true}
use Rattle.laws.proofs.Lists.{both_left, both_right}
use Rattle.line.specs.Test.{Decides}
use Rattle.reel.specs.Parts.{total, adds_up}
use Rattle.reel.specs.Reel.{Reel, Lent, is_lent, lines_of, line_limit}

adds_true : (sizes : List ℕ) (slice : ℕ) → adds_up sizes slice ≡ true → total sizes ≡ slice
unfolding adds_up
adds_true sizes slice e = eqb-true (total sizes) slice e

true_adds : (sizes : List ℕ) (slice : ℕ) → total sizes ≡ slice → adds_up sizes slice ≡ true
unfolding adds_up
true_adds sizes slice e = eq-eqb (total sizes) slice e

pub lent_of : (r : Reel) → is_lent r ≡ true → Lent r
unfolding is_lent
lent_of r e =
    let e1 = both_right (leb (lines_of r) line_limit) _ e in
    let e2 = both_right (eqb (length r.characters) (lines_of r)) _ e1 in
    let e3 = both_right (eqb (length r.used) (lines_of r)) _ e2 in
    let e4 = both_right (eqb (length r.answers) (lines_of r)) _ e3 in
    let e5 = both_right (eqb (length r.heads) (lines_of r)) _ e4 in
    let e6 = both_right (adds_up r.rooms (length r.glyphs)) _ e5 in
    record {
      few = leb-true _ _ (both_left (leb (lines_of r) line_limit) _ e);
      all-characters = eqb-true _ _ (both_left (eqb (length r.characters) (lines_of r)) _ e1);
      all-used = eqb-true _ _ (both_left (eqb (length r.used) (lines_of r)) _ e2);
      all-answers = eqb-true _ _ (both_left (eqb (length r.answers) (lines_of r)) _ e3);
      all-heads = eqb-true _ _ (both_left (eqb (length r.heads) (lines_of r)) _ e4);
      whole-glyphs = adds_true _ _ (both_left (adds_up r.rooms (length r.glyphs)) _ e5);
      whole-tags = adds_true _ _ (both_left (adds_up r.rooms (length r.tags)) _ e6);
      whole-homes = adds_true _ _ (both_right (adds_up r.rooms (length r.tags)) _ e6);
    }

pub of_lent : (r : Reel) → Lent r → is_lent r ≡ true
unfolding is_lent
of_lent r v =
    rw (
      le-leb _ _ v.few,
      eq-eqb _ _ v.all-characters,
      eq-eqb _ _ v.all-used,
      eq-eqb _ _ v.all-answers,
      eq-eqb _ _ v.all-heads,
      true_adds _ _ v.whole-glyphs,
      true_adds _ _ v.whole-tags,
      true_adds _ _ v.whole-homes,
    )

pub lent_exact : (r : Reel) → Decides (Lent r) (is_lent r)
lent_exact r = go (is_lent r) (lent_of r) (of_lent r)
  where
    go : (b : Bool) → (b ≡ true → Lent r) → (Lent r → b ≡ true) → Decides (Lent r) b
    go true to from = to refl
    go false to from = λ v. let e : false ≡ true = from v in let z : ◌≡◌ {A = ℕ} 0 1 = cc in omega arith
