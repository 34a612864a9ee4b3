-- The STATE test of the used slots' places.
use Rattle.std.specs.Prelude.{MatchBool}
use Rattle.std.specs.List.{AllWithin, HoldsAt}
use Prim.Native.Nat.{ℕ, zero, suc, ◌<◌, ◌≤◌}
use mathlib.Core.Path.{◌≡◌, sym}
use mathlib.Core.Bool.{Bool, true, false}
use mathlib.Core.List.{List}
use native.Mathlib.Omega.{arith}
use lib.Dec.{leb}
use lib.ListN.{length, get_or, take}
use lib.Seq.{get_or-take, length-take-le}
use borrow.Author.Tests.{le-leb, lt-leb}
use Rattle.laws.specs.Lists.{every}
use Rattle.laws.proofs.Lists.{every-none, every_more, every_fails}
use Rattle.ligature.specs.Calls.{are_inside}

module _ (places : List ℕ) (used : ℕ) where
  abbrev test : ℕ → Bool
  test slot = leb (get_or places slot 0) used

  all-inside : (depth : ℕ) → ((k : ℕ) → k < depth → get_or places k 0 ≤ used) → every test depth ≡ true
  all-inside zero h = every-none test
  all-inside (suc n) h = every_more test n (all-inside n (λ k l. h k (omega arith))) (le-leb _ _ (h n (omega arith)))

-- from what the code has found of the used slots' places
pub inside_by : (places : List ℕ) (depth used : ℕ) {b : Bool} → depth ≤ length places
    → MatchBool b (AllWithin (λ (x : ℕ). x ≤ used) (take depth places) 0 (length (take depth places)))
    ((k : ℕ) × (k < length (take depth places)) × HoldsAt (λ (x : ℕ). used < x) (take depth places) k)
    → b ≡ are_inside places depth used
unfolding are_inside
inside_by places depth used {b = true} f h =
    let long = length-take-le depth places f in
    sym (all-inside places used depth (λ k l. rw (sym (get_or-take depth places k 0 l)) (h k 0 (omega arith) (omega (arith, long)))))
inside_by places depth used {b = false} f h =
    let long = length-take-le depth places f in
    let l : h.0 < depth = omega (arith, long, h.1) in
    sym (every_fails (test places used) depth h.0 (lt-leb _ _ (rw (sym (get_or-take depth places h.0 0 l)) (h.2 0))) l)
