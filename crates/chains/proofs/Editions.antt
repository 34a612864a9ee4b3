-- What the two editions are.
use Prim.Native.Nat.{ℕ}
use mathlib.Core.Path.{◌≡◌, sym, ◌∙◌, ap}
use mathlib.Core.Bool.{Bool}
use mathlib.Core.List.{List}
use Rattle.parse.specs.Reads.{inside, u16_at, u32_at}
use Rattle.chains.specs.Lists.{width, number_at}
use Rattle.chains.specs.declared.Edition.{Edition}
use Rattle.chains.specs.declared.Edition.TheVariants.{Morx, Mort}

-- what lies inside, by a size that is known to be another
pub as_long : (table : List ℕ) (at : ℕ) {size head : ℕ} {b : Bool} → head ≡ size → inside table at head ≡ b → inside table at size ≡ b
as_long table at {size} {head} {b} e f = sym (ap (inside table at) e) ∙ f

module _ {edition : Edition} where
  pub wide_morx : edition ≡ Morx → width edition ≡ 4
  unfolding width
  wide_morx e = ap width e

  pub wide_mort : edition ≡ Mort → width edition ≡ 2
  unfolding width
  wide_mort e = ap width e

  module _ (table : List ℕ) (at : ℕ) {number : ℕ} where
    pub number_morx : edition ≡ Morx → number ≡ u32_at table at → number ≡ number_at edition table at
    unfolding number_at
    number_morx e n = rw (e, number_at) n

    pub number_mort : edition ≡ Mort → number ≡ u16_at table at → number ≡ number_at edition table at
    unfolding number_at
    number_mort e n = rw (e, number_at) n
