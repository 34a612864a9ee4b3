-- More bytes behind a table change nothing for a list of numbers all of which that are tried can be read without them.
use Prim.Native.Nat.{ℕ, zero, suc, ◌+◌}
use mathlib.Core.Path.{◌≡◌, refl, ap}
use mathlib.Core.Bool.{true, false}
use mathlib.Core.List.{List, []}
use lib.IntN.{ℤ}
use lib.ListN.{get_or}
use Rattle.parse.proofs.Behind.{Begins, Stays, on_u16_stays}
use Rattle.kerning.specs.Additions.{Addition, additions_at}
use Rattle.kerning.specs.Lists.{ruled, number_at, Walk, leaves, before, on_number, walk}
use Rattle.kerning.specs.declared.lists.Rule.{Rule}
use Rattle.kerning.specs.declared.lists.Number.{Number}
use Rattle.kerning.specs.declared.lists.Number.TheVariants.{Short, Stop, Last, More}

module _ {own whole : List ℕ} (b : Begins own whole) where
  number_stays : (rule : Rule) (place : ℕ) → Stays Short (number_at own rule place) (number_at whole rule place)
  unfolding number_at
  number_stays rule place = on_u16_stays b place (ruled rule) (ruled rule) (λ n not. refl)

  -- a list is left ended where a number that is tried can't be read
  pub walk_stays : (rule : Rule) (stride : ℕ) (stack : List ℕ) (used depth place : ℕ) → (walk own rule stride stack used depth place).left.ended ≡ false
      → walk whole rule stride stack used depth place ≡ walk own rule stride stack used depth place
  unfolding walk
  walk_stays rule stride stack used zero place e = refl
  walk_stays rule stride stack used (suc depth) place e = go (number_at own rule place) (number_stays rule place) (walk_stays rule stride stack used depth (place + stride)) e
    where
      adds : ℤ → List Addition
      adds amount = additions_at used (get_or stack depth 0) amount

      next : Number → List ℕ → Walk
      next number bytes =
          on_number number (leaves true (suc depth) []) (leaves false (suc depth) []) (λ amount. leaves false 0 (adds amount))
          (λ amount. before (adds amount) (walk bytes rule stride stack used depth (place + stride)))

      later : List ℕ → Walk
      later bytes = walk bytes rule stride stack used depth (place + stride)

      go : (number : Number) → Stays Short number (number_at whole rule place) → ((later own).left.ended ≡ false → later whole ≡ later own)
          → (next number own).left.ended ≡ false → next (number_at whole rule place) whole ≡ next number own
      go Short s again f = absurd (cc)
      go Stop s again f = rw (s (λ p. cc))
      go (Last amount) s again f = rw (s (λ p. cc))
      go (More amount) s again f =
          rw (s (λ p. cc))
          (ap (before (adds amount)) (again f))
