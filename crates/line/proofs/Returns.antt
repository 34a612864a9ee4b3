-- Each way out of an edit's code leaves what the definition says.
use Prim.Native.Nat.{ℕ, suc, ◌+◌, ◌-◌, ◌<◌, ◌≤◌, min}
use mathlib.Core.Path.{◌≡◌, ◌∙◌, sym, ap}
use mathlib.Core.List.{List, ◌++◌}
use mathlib.Core.Logic.{⊎_elim}
use native.Mathlib.Omega.{arith}
use lib.ListN.{length, get_or, take, drop, length-drop}
use lib.Seq.{ext_get_or}
use borrow.Rule.Slice.PartMut.{mid_of, put_mid}
use Rattle.laws.proofs.Numbers.{lt-or-ge}
use Rattle.laws.proofs.Parts.{part_is, part_put}
use Rattle.verbs.specs.Verbs.{from_of, rearranged}
use Rattle.verbs.proofs.Laws.{from_of_outside}
use Rattle.line.specs.Edits.{width_of}
use Rattle.line.specs.Changes.{windowed, spliced}
use Rattle.line.proofs.Slices.{beyond, beyond_before, beyond_from, length-windowed, get_d_windowed, length-spliced, spliced-before, spliced-moved, spliced-rest}

-- a window: with no place in the line, or lent from its first place on
windowed-none : (first verb : ℕ) (xs : List ℕ) → windowed first 0 verb xs ≡ xs
windowed-none first verb xs =
    ext_get_or 0 (windowed first 0 verb xs) xs (length-windowed first 0 verb xs)
    (λ k h.
    get_d_windowed first 0 verb xs k (rw (length-windowed first 0 verb xs) at h)
    ∙ ap (λ (q : ℕ). get_or xs q 0) (stays k))
  where
    stays : (k : ℕ) → beyond first (from_of verb 0) k ≡ k
    stays k =
        ⊎_elim
        (λ (h : k < first). beyond_before first (from_of verb 0) k h)
        (λ (h : first ≤ k). beyond_from first (from_of verb 0) k h ∙ rw (from_of_outside verb 0 (k - first) (omega arith)) (omega arith))
        (lt-or-ge k first)

module _ (first last used verb : ℕ) (xs : List ℕ) {end : ℕ} (cut : end ≡ min (suc last) used) where
  width_is : width_of first last used ≡ end - first
  unfolding width_of
  width_is = rw (← cut)

  pub window_off : end ≤ first → xs ≡ windowed first (width_of first last used) verb xs
  window_off h =
      let e : end - first ≡ 0 = omega arith in
      rw (width_is, e) (sym (windowed-none first verb xs))

  pub window_on : {part : List ℕ} → used ≤ length xs
      → part ≡ rearranged verb (min (end - first) (length (mid_of first (length xs - first) xs))) (mid_of first (length xs - first) xs)
      → put_mid first (length xs - first) xs part ≡ windowed first (width_of first last used) verb xs
  unfolding windowed
  window_on {part} fits e =
      let short : min (end - first) (length (drop first xs)) ≡ end - first = omega (arith, length-drop first xs, cut) in
      part_put first xs part
      ∙ ap (λ (z : List ℕ). take first xs ++ z) (e ∙ rw (part_is first xs, short, width_is))

-- an insertion of nothing
pub spliced-none : (at used : ℕ) (new xs : List ℕ) {count : ℕ} → length new ≡ count → count ≡ 0 → used ≤ length xs → xs ≡ spliced (min at used) used new xs
spliced-none at used new xs n none fits =
    let place : ℕ = min at used in
    let inside : place ≤ used = omega arith in
    let room : used + length new ≤ length xs = omega arith in
    sym
    (ext_get_or 0 (spliced place used new xs) xs (length-spliced place used new xs inside room)
    (λ p h.
    ⊎_elim
    (λ (k : p < place). spliced-before place used new xs inside room p k)
    (λ (k : place ≤ p).
    ⊎_elim
    (λ (j : p < used). spliced-moved place used new xs inside room p (omega arith) (omega arith) ∙ ap (λ (q : ℕ). get_or xs q 0) (omega arith))
    (λ (j : used ≤ p). spliced-rest place used new xs inside room p (omega arith))
    (lt-or-ge p used))
    (lt-or-ge p place)))
