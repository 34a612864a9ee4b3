-- The loops of the passes: the steps at a place are a loop of their own, which ends when the place is left.
use Prim.Native.Nat.{ℕ, ◌+◌, ◌*◌, ◌<◌, ◌≤◌}
use mathlib.Core.Path.{◌≡◌, refl, subst, subst⁻¹}
use mathlib.Core.List.{List}
use native.Mathlib.Omega.{arith}
use lib.IntN.{ℤ}
use lib.ListN.{get_or}
use Rattle.answers.specs.declared.Answer.TheVariants as Answer'
use Rattle.kerning_machine.specs.declared.Kerning.{Kerning}
use Rattle.kerning_machine.specs.declared.KerningState.{KerningState}
use Rattle.kerning_machine.specs.Machine.{stopped, next, rest}
use Rattle.kerning_machine.specs.Work.{standing}
use Rattle.kerning_machine.proofs.Acting.{Does}
use Rattle.kerning_machine.proofs.Passes.{Going, Over, going_stop, going_less, going_one, going_step}

module _ (classes : ℕ → ℕ) (bytes : List ℕ) (kerning : Kerning) (glyphs : List ℕ) (used : ℕ) where
  -- what the steps at a place have come to: the next one is here, or at the place behind
  pub record Stepping (along₀ along : List ℤ) (s : KerningState) (i advance : ℕ) : Type 0 where
    pub going : Going classes bytes kerning glyphs used along₀ along s (i + advance)
    pub one : advance ≤ 1

  pub place-begins : {along₀ along : List ℤ} {s : KerningState} (i : ℕ) → Going classes bytes kerning glyphs used along₀ along s i → Stepping along₀ along s i 0
  place-begins {along₀} {along} {s} i g =
      let e : i ≡ i + 0 = omega arith in
      record { going = subst (λ (p : ℕ). Going classes bytes kerning glyphs used along₀ along s p) e g; one = omega arith }

  pub place-left : {along₀ along : List ℤ} {s : KerningState} {advance : ℕ} (i : ℕ) → Stepping along₀ along s i advance → (advance ≡ 0 → ⊥)
      → Going classes bytes kerning glyphs used along₀ along s (i + 1)
  place-left {along₀} {along} {s} {advance} i p n =
      let e : i + advance ≡ i + 1 = omega (arith, p.one, n) in
      subst (λ (q : ℕ). Going classes bytes kerning glyphs used along₀ along s q) e p.going

  -- a step here
  module _ {along₀ along : List ℤ} {s : KerningState} {advance : ℕ} (i : ℕ) (p : Stepping along₀ along s i advance) (t : advance ≡ 0) (h : i < used) where
    here : Going classes bytes kerning glyphs used along₀ along s i
    here =
        let e : i + advance ≡ i = omega arith in
        subst (λ (q : ℕ). Going classes bytes kerning glyphs used along₀ along s q) e p.going

    module _ {along' : List ℤ} {s' : KerningState} where
      pub place-over : Does (next classes bytes kerning s used i (get_or glyphs i 0)) along (stopped s' Answer'.Ended) along'
          → Over classes bytes kerning glyphs used along₀ Answer'.Ended along'
      place-over d = going_stop classes bytes kerning glyphs used here h d.steps d.leaves refl

      module _ {far : ℕ}
          (d : Does (next classes bytes kerning s used i (get_or glyphs i 0)) along (record { answer = Answer'.Done; state = s'; advance = far }) along') where
        pub place-goes : Stepping along₀ along' s' i far
        place-goes =
            record {
              going = going_step classes bytes kerning glyphs used here h d.steps d.leaves refl;
              one = going_one classes bytes kerning glyphs used here h d.steps d.leaves refl;
            }

        pub place_falls : rest used s' (i + far) < rest used s (i + advance)
        place_falls =
            let e : i + advance ≡ i = omega arith in
            subst⁻¹ (λ (q : ℕ). rest used s' (i + far) < rest used s q) e (going_less classes bytes kerning glyphs used here h d.steps d.leaves refl)

  -- a loop that keeps a state by its row
  pub record Rowed (along₀ along : List ℤ) (row : ℕ) (stack : List ℕ) (depth cycles i advance : ℕ) : Type 0 where
    pub state : ℕ
    pub at : row ≡ state * kerning.states.classes
    pub stepping : Stepping along₀ along (standing state stack depth cycles) i advance
