-- The loop of the search: what is left to do gives what the whole search gives.
use Prim.Native.Nat.{ℕ, zero, suc, ◌+◌, ◌/◌, ◌<◌, ◌≤◌}
use mathlib.Core.Path.{◌≡◌, refl, sym, ◌∙◌}
use native.Mathlib.Omega.{arith}
use borrow.Author.Tests.{lt-ltb, le-ltb}
use Rattle.tables.specs.Search.{find}
use Rattle.tables.specs.declared.records.Side.{Side}
use Rattle.tables.specs.declared.records.Side.TheVariants.{Left, Here, Right, Cut}
use Rattle.tables.specs.declared.records.Spot.{Spot}
use Rattle.tables.specs.declared.records.Spot.TheVariants as Spot'

abbrev pub middle : ℕ → ℕ → ℕ
middle lo hi = (lo + hi) / 2

-- one turn, by the side of the record in the middle
module _ (side : ℕ → Side) (turns lo hi : ℕ) (h : lo < hi) where
  pub find-left : side (middle lo hi) ≡ Left → find side (suc turns) lo hi ≡ find side turns lo (middle lo hi)
  unfolding find
  find-left e = rw (lt-ltb lo hi h, e, find)

  pub find_right : side (middle lo hi) ≡ Right → find side (suc turns) lo hi ≡ find side turns (middle lo hi + 1) hi
  unfolding find
  find_right e = rw (lt-ltb lo hi h, e, find)

  pub find-here : side (middle lo hi) ≡ Here → find side (suc turns) lo hi ≡ Spot'.At (middle lo hi)
  unfolding find
  find-here e = rw (lt-ltb lo hi h, e, find)

  pub find-cut : side (middle lo hi) ≡ Cut → find side (suc turns) lo hi ≡ Spot'.Cut
  unfolding find
  find-cut e = rw (lt-ltb lo hi h, e, find)

pub find-done : (side : ℕ → Side) (turns lo hi : ℕ) → hi ≤ lo → find side turns lo hi ≡ Spot'.Absent
unfolding find
find-done side zero lo hi h = refl
find-done side (suc turns) lo hi h = rw (le-ltb lo hi h, find)

-- between lo and hi the search goes on, with enough turns left, and gives what the whole gives
pub record Going (side : ℕ → Side) (whole : Spot) (lo hi : ℕ) : Type 0 where
  pub turns : ℕ
  pub enough : hi ≤ lo + turns
  pub same : find side turns lo hi ≡ whole

pub going_start : (side : ℕ → Side) (count : ℕ) → Going side (find side count 0 count) 0 count
going_start side count = record { turns = count; enough = omega arith; same = refl }

module _ {side : ℕ → Side} {lo hi : ℕ} {whole : Spot} (g : Going side whole lo hi) where
  -- a turn is left where lo is below hi
  one_more : lo < hi → (n : ℕ) × (g.turns ≡ suc n)
  one_more h = go g.turns refl
    where
      go : (n : ℕ) → g.turns ≡ n → (m : ℕ) × (g.turns ≡ suc m)
      go zero e = absurd (omega (arith, g.enough))
      go (suc m) e = (m, e)

  turned : (n : ℕ) → g.turns ≡ suc n → find side (suc n) lo hi ≡ whole
  turned n e = rw e at g.same

  pub going_left : lo < hi → side (middle lo hi) ≡ Left → Going side whole lo (middle lo hi)
  going_left h s =
      let (n, e) = one_more h in
      record {
        turns = n;
        enough = omega (arith, g.enough);
        same = sym (find-left side n lo hi h s) ∙ turned n e;
      }

  pub going_right : lo < hi → side (middle lo hi) ≡ Right → Going side whole (middle lo hi + 1) hi
  going_right h s =
      let (n, e) = one_more h in
      record {
        turns = n;
        enough = omega (arith, g.enough);
        same = sym (find_right side n lo hi h s) ∙ turned n e;
      }

  pub going_here : lo < hi → side (middle lo hi) ≡ Here → Spot'.At (middle lo hi) ≡ whole
  going_here h s = let (n, e) = one_more h in sym (find-here side n lo hi h s) ∙ turned n e

  pub going_cut : lo < hi → side (middle lo hi) ≡ Cut → Spot'.Cut ≡ whole
  going_cut h s = let (n, e) = one_more h in sym (find-cut side n lo hi h s) ∙ turned n e

  pub going_done : hi ≤ lo → Spot'.Absent ≡ whole
  going_done h = sym (find-done side g.turns lo hi h) ∙ g.same
