-- The tests of a call, one after the other: laws for the function that makes them.
use Rattle.std.specs.Prelude.{Ok, Err}
use Prim.Native.Nat.{ℕ}
use mathlib.Core.Path.{◌≡◌, refl, sym, ◌∙◌}
use mathlib.Core.Bool.{Bool, true, false}
use mathlib.Core.List.{List, [], ◌∷◌}
use native.Mathlib.Omega.{arith}
use Rattle.answers.specs.Refuse.{Test, refuse}
use Rattle.answers.specs.declared.Refusal.{Refusal}

pub refuse-none : refuse [] ≡ Ok tt
unfolding refuse
refuse-none = refl

module _ (t : Test) (ts : List Test) where
  -- the first test that holds refuses
  pub refuse-here : t.holds ≡ true → refuse (t ∷ ts) ≡ Err t.refusal
  unfolding refuse
  refuse-here h = rw h

  pub refuse-later : t.holds ≡ false → refuse (t ∷ ts) ≡ refuse ts
  unfolding refuse
  refuse-later h = rw h

  -- a call that passes has passed the first test and the rest
  pub passed_here : refuse (t ∷ ts) ≡ Ok tt → t.holds ≡ false
  passed_here e = go t.holds refl
    where
      go : (b : Bool) → t.holds ≡ b → b ≡ false
      go false h = refl
      go true h = let k : Err t.refusal ≡ Ok tt = sym (refuse-here h) ∙ e in cc

  pub passed_later : refuse (t ∷ ts) ≡ Ok tt → refuse ts ≡ Ok tt
  passed_later e = sym (refuse-later (passed_here e)) ∙ e

-- a test alone says what it says before others
pub alone_refused : (t : Test) (ts : List Test) (why : Refusal) → refuse (t ∷ []) ≡ Err why → refuse (t ∷ ts) ≡ Err why
alone_refused t ts why e = go t.holds refl
  where
    go : (b : Bool) → t.holds ≡ b → refuse (t ∷ ts) ≡ Err why
    go true h = let p = refuse-here t [] h in let q = refuse-here t ts h in cc
    go false h =
        let p = refuse-later t [] h ∙ refuse-none in
        let z : ◌≡◌ {A = ℕ} 0 1 = cc in absurd (omega arith)

pub alone-passed : (t : Test) (ts : List Test) → refuse (t ∷ []) ≡ Ok tt → refuse (t ∷ ts) ≡ refuse ts
alone-passed t ts e = refuse-later t ts (passed_here t [] e)
