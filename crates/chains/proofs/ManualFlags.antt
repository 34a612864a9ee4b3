-- The flags that a chain's features make are the manual's, over the features that lie where the manual says, up to the first that does not.
use Rattle.std.specs.Prelude.{Some, None}
use Prim.Native.Nat.{ℕ, zero, suc, ◌+◌, ◌-◌, ◌<◌, ◌≤◌}
use mathlib.Core.Path.{◌≡◌, refl, ◌∙◌, ap, subst⁻¹}
use mathlib.Core.List.{List}
use mathlib.Core.Logic.{⊎_elim}
use native.Mathlib.Omega.{arith}
use lib.ListN.{length}
use Rattle.laws.proofs.Numbers.{lt-or-ge, eq-or-ne}
use Rattle.parse.specs.Reads.{u32_at}
use Rattle.chains.specs.Lists.{cursor, next_feature}
use Rattle.chains.specs.Features.{request_of, switched, features_of, switched_by, flags_behind}
use Rattle.chains.specs.Manual.{place_from, chain_head_size, feature_total, feature_place, manual_feature, manual_chain, manual_flags, Lie, EndsAt}
use Rattle.chains.specs.declared.Edition.{Edition}
use Rattle.chains.specs.declared.Feature.{Feature}
use Rattle.chains.proofs.Manual.{feature_here, feature_cut, feature_none, ends_there}
use Rattle.chains.proofs.Switching.{features-end, features-at}

module _ (edition : Edition) (table requests : List ℕ) (chain : ℕ) where
  abbrev total : ℕ
  total = feature_total edition table chain

  -- the list from feature j on
  abbrev from : ℕ → List Feature
  from j = features_of table (total - j) (cursor (feature_place edition chain j) (total - j))

  one_more : (j left : ℕ) → switched requests (manual_feature table (feature_place edition chain j) left) (manual_flags edition table requests chain j) ≡ manual_flags edition table requests chain (suc j)
  unfolding switched request_of manual_flags
  one_more j left = refl

  -- what is left of it makes of the manual's flags so far those of the end
  module _ (n : ℕ) (e : EndsAt table 12 (feature_place edition chain) total n) where
    rest : (k j : ℕ) → j + k ≡ n → switched_by requests (from j) (manual_flags edition table requests chain j) ≡ manual_flags edition table requests chain n
    unfolding switched_by place_from
    rest zero j h =
        let j≡n : j ≡ n = omega arith in
        ap (λ (i : ℕ). switched_by requests (from i) (manual_flags edition table requests chain i)) j≡n
        ∙ ap (λ (fs : List Feature). switched_by requests fs (manual_flags edition table requests chain n))
        (features-end table (total - n) (cursor (feature_place edition chain n) (total - n))
        (ends_there (next_feature table) None table 12 (feature_place edition chain) total (feature_none table) (feature_cut table) n e))
    rest (suc k) j h =
        let left : ℕ = total - suc j in
        let one : total - j ≡ suc left = omega (arith, e.counted) in
        let here : next_feature table (cursor (feature_place edition chain j) (suc left)) ≡ Some (manual_feature table (feature_place edition chain j) left) =
        feature_here table (feature_place edition chain j) left (e.lie j (omega arith)) in
        ap (λ (m : ℕ). switched_by requests (features_of table m (cursor (feature_place edition chain j) m)) (manual_flags edition table requests chain j)) one
        ∙ ap (λ (fs : List Feature). switched_by requests fs (manual_flags edition table requests chain j)) (features-at table left (cursor (feature_place edition chain j) (suc left)) here)
        ∙ ap (switched_by requests (from (suc j))) (one_more j left)
        ∙ rest k (suc j) (omega arith)

    pub flags-behind_as_manual : flags_behind table (manual_chain edition table chain 0).features (u32_at table chain) requests ≡ manual_flags edition table requests chain n
    unfolding flags_behind manual_flags place_from
    flags-behind_as_manual =
        let all : total ≡ total - 0 = omega arith in
        ap (λ (m : ℕ). switched_by requests (features_of table m (cursor (chain + chain_head_size edition) m)) (u32_at table chain)) all ∙ rest n 0 (omega arith)

-- every list of features ends somewhere
module _ (edition : Edition) (table : List ℕ) (chain : ℕ) where
  one_lies : (j : ℕ) → Lie table 12 (feature_place edition chain) j → feature_place edition chain j + 12 ≤ length table → Lie table 12 (feature_place edition chain) (suc j)
  one_lies j lie h i k =
      ⊎_elim
      (λ (e : i ≡ j). subst⁻¹ (λ (x : ℕ). feature_place edition chain x + 12 ≤ length table) e h)
      (λ (ne : i ≡ j → ⊥). lie i (omega (arith, ne)))
      (eq-or-ne i j)

  seek : (left j : ℕ) → j + left ≡ feature_total edition table chain → Lie table 12 (feature_place edition chain) j
      → (n : ℕ) × EndsAt table 12 (feature_place edition chain) (feature_total edition table chain) n
  seek zero j h lie = (j, record { counted = omega arith; lie = lie; cut = λ k l. omega arith })
  seek (suc left) j h lie =
      ⊎_elim
      (λ (cut : length table < feature_place edition chain j + 12). (j, record { counted = omega arith; lie = lie; cut = λ k l. omega arith }))
      (λ (here : feature_place edition chain j + 12 ≤ length table). seek left (suc j) (omega arith) (one_lies j lie here))
      (lt-or-ge (length table) (feature_place edition chain j + 12))

  pub features-ended : (n : ℕ) × EndsAt table 12 (feature_place edition chain) (feature_total edition table chain) n
  features-ended = seek (feature_total edition table chain) 0 (omega arith) (λ i h. absurd (omega arith))
