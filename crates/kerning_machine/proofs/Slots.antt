-- A test of the first elements of a list, by the elements and by their places.
use Prim.Native.Nat.{ℕ, zero, suc, ◌≤◌}
use mathlib.Core.Path.{◌≡◌, refl, sym, ◌∙◌, ap}
use mathlib.Core.Bool.{Bool, true, false, ◌&&◌}
use mathlib.Core.List.{List}
use native.Mathlib.Numerals.{add-one}
use native.Mathlib.Omega.{arith}
use lib.ListN.{length, get_or, take}
use Rattle.std.specs.List.{list_all}
use Rattle.std.proofs.lemmas.List.Folds.{list_all_more}
use Rattle.laws.specs.Lists.{both, every}

and_both : (a b : Bool) → (a && b) ≡ both b a
and_both true true = refl
and_both true false = refl
and_both false true = refl
and_both false false = refl

module _ {A : Type 0} (p : A → Bool) (d : A) (xs : List A) where
  pub all_every : (n : ℕ) → n ≤ length xs → list_all p (take n xs) ≡ every (λ k. p (get_or xs k d)) n
  unfolding every
  all_every zero h = refl
  all_every (suc n) h =
      ap (λ (m : ℕ). list_all p (take m xs)) (sym (add-one n))
      ∙ list_all_more p xs n d (omega arith)
      ∙ and_both (list_all p (take n xs)) (p (get_or xs n d))
      ∙ ap (both (p (get_or xs n d))) (all_every n (omega arith))
