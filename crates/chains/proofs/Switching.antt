-- The requests one after the other, and the features of a list: what is left gives what the whole does.
use Rattle.std.specs.Prelude.{Some, None}
use Prim.Native.Nat.{ℕ, zero, suc, ◌+◌, ◌-◌, ◌<◌}
use mathlib.Core.Path.{◌≡◌, refl, sym, ◌∙◌, ap}
use mathlib.Core.Bool.{Bool, true, false, cond}
use mathlib.Core.List.{List, [], ◌∷◌}
use native.Mathlib.Numerals.{add-one}
use native.Mathlib.Omega.{arith}
use lib.Dec.{eqb}
use lib.ListN.{length, get_or, drop}
use lib.Seq.{drop-cons}
use borrow.Author.Tests.{eqb-false}
use Rattle.laws.specs.Lists.{either}
use Rattle.parse.specs.Reads.{inside}
use Rattle.chains.specs.Lists.{feature_at, next_feature}
use Rattle.chains.specs.Features.{request_of, is_asked, switched, features_of, switched_by, flags_behind}
use Rattle.chains.specs.declared.Cursor.{Cursor}
use Rattle.chains.specs.declared.Feature.{Feature}

-- One request more, where none of those before is lost. `drop i requests` are those behind the first i.
pub asked_more : (requests : List ℕ) (wanted : ℕ) (asked : Bool) (i : ℕ) (here : Bool) → either asked (is_asked (drop i requests) wanted) ≡ is_asked requests wanted → i < length requests → here ≡ either asked (eqb (get_or requests i 0) wanted)
    → either here (is_asked (drop (i + 1) requests) wanted) ≡ is_asked requests wanted
unfolding is_asked
asked_more requests wanted asked i here s h e =
    rw (e, add-one i) (gone_on asked (eqb (get_or requests i 0) wanted) (is_asked (drop (suc i) requests) wanted) ∙ rw (drop-cons requests i 0 h) at s)
  where
    gone_on : (before here rest : Bool) → either (either before here) rest ≡ either before (cond here true rest)
    gone_on true here rest = refl
    gone_on false true rest = refl
    gone_on false false rest = refl

-- the features of a list
module _ (table : List ℕ) (most : ℕ) (c : Cursor) where
  pub features-end : next_feature table c ≡ None → features_of table most c ≡ []
  unfolding features_of
  features-end e = go most
    where
      go : (n : ℕ) → features_of table n c ≡ []
      go zero = refl
      go (suc n) = rw (e, features_of)

  pub features-at : {feature : Feature} → next_feature table c ≡ Some feature → features_of table (suc most) c ≡ feature ∷ features_of table most feature.next
  unfolding features_of
  features-at e = rw (e, features_of)

-- behind a feature its list has one less
one_less : (table : List ℕ) (c : Cursor) (feature : Feature) → next_feature table c ≡ Some feature → c.left ≡ suc feature.next.left
unfolding next_feature feature_at
one_less table c feature = go (eqb c.left 0) (inside table c.place 12) refl
  where
    go : (none here : Bool) → eqb c.left 0 ≡ none → cond none None (cond here (Some (feature_at table c.place (c.left - 1))) None) ≡ Some feature
        → c.left ≡ suc feature.next.left
    go true here t e = let z : ◌≡◌ {A = ℕ} 0 1 = cc in absurd (omega arith)
    go false false t e = let z : ◌≡◌ {A = ℕ} 0 1 = cc in absurd (omega arith)
    go false true t e =
        let f : feature_at table c.place (c.left - 1) ≡ feature = cc in
        let n : c.left - 1 ≡ feature.next.left = ap (λ (x : Feature). x.next.left) f in
        omega (arith, eqb-false c.left 0 t)

pub falls : (table : List ℕ) (c : Cursor) (feature : Feature) → next_feature table c ≡ Some feature → feature.next.left < c.left
falls table c feature e = omega (arith, one_less table c feature e)

-- the flags behind a list are those behind what follows its next feature, and the same where it ends
module _ (table : List ℕ) (c : Cursor) (flags : ℕ) (requests : List ℕ) where
  pub flags_ended : next_feature table c ≡ None → flags_behind table c flags requests ≡ flags
  unfolding flags_behind switched_by
  flags_ended e = ap (λ (fs : List Feature). switched_by requests fs flags) (features-end table c.left c e)

  pub flags_on : (feature : Feature) → next_feature table c ≡ Some feature → flags_behind table feature.next (switched requests feature flags) requests ≡ flags_behind table c flags requests
  unfolding flags_behind switched_by
  flags_on feature e =
      let n = one_less table c feature e in
      let all : features_of table c.left c ≡ feature ∷ features_of table feature.next.left feature.next =
      ap (λ (k : ℕ). features_of table k c) n ∙ features-at table feature.next.left c e in
      sym (ap (λ (fs : List Feature). switched_by requests fs flags) all)

-- with no requests nothing is switched
none-switched : (features : List Feature) (flags : ℕ) → switched_by [] features flags ≡ flags
unfolding switched_by switched is_asked
none-switched [] flags = refl
none-switched (feature ∷ features) flags = none-switched features flags

pub flags_unasked : (table : List ℕ) (features : Cursor) (flags : ℕ) → flags_behind table features flags [] ≡ flags
unfolding flags_behind
flags_unasked table features flags = none-switched (features_of table features.left features) flags

pub flags_none : (table : List ℕ) (features : Cursor) (flags : ℕ) (requests : List ℕ) → length requests ≡ 0 → flags_behind table features flags requests ≡ flags
flags_none table features flags [] e = flags_unasked table features flags
flags_none table features flags (request ∷ requests) e = absurd (omega arith)

-- only which numbers are asked for matters
module _ (xs ys : List ℕ) (alike : (wanted : ℕ) → is_asked xs wanted ≡ is_asked ys wanted) where
  switched_alike : (feature : Feature) (flags : ℕ) → switched xs feature flags ≡ switched ys feature flags
  unfolding switched
  switched_alike feature flags = rw (alike (request_of feature))

  all_alike : (features : List Feature) (flags : ℕ) → switched_by xs features flags ≡ switched_by ys features flags
  unfolding switched_by
  all_alike [] flags = refl
  all_alike (feature ∷ features) flags = ap (switched_by xs features) (switched_alike feature flags) ∙ all_alike features (switched ys feature flags)

  pub flags_alike : (table : List ℕ) (features : Cursor) (flags : ℕ) → flags_behind table features flags xs ≡ flags_behind table features flags ys
  unfolding flags_behind
  flags_alike table features flags = all_alike (features_of table features.left features) flags
