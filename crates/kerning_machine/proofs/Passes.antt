-- The pass's loop: what is left to do, behind the additions made, gives what the whole pass gives.
use Prim.Native.Nat.{ℕ, zero, suc, ◌+◌, ◌*◌, ◌<◌, ◌≤◌, ◌^◌}
use mathlib.Core.Path.{◌≡◌, refl, sym, ◌∙◌, ap, subst, subst⁻¹}
use mathlib.Core.Bool.{true, false}
use mathlib.Core.List.{List, [], ◌++◌, append_assoc}
use native.Mathlib.Omega.{arith}
use lib.IntN.{ℤ}
use lib.ListN.{length, get_or, length-append}
use borrow.Author.Tests.{lt-ltb, le-ltb}
use Rattle.answers.specs.Limits.{room_limit}
use Rattle.answers.specs.declared.Answer.{Answer}
use Rattle.answers.specs.declared.Answer.TheVariants as Answer'
use Rattle.line.proofs.Room.{room_small}
use Rattle.machine.specs.Pass.{is_done}
use Rattle.machine.specs.Stall.{stalled, Falls}
use Rattle.machine.proofs.Stalls.{stall_falls}
use Rattle.kerning.specs.Additions.{Addition, add_all, Kerned, after, nothing_added}
use Rattle.kerning.specs.Bounds.{Within}
use Rattle.kerning.proofs.Adding.{Small, small-none, small-append, length-add_all, add_all-none, add_all-append, within_more, within-add_all}
use Rattle.kerning_machine.specs.declared.Kerning.{Kerning}
use Rattle.kerning_machine.specs.declared.KerningState.{KerningState}
use Rattle.kerning_machine.specs.declared.KerningStep.{KerningStep}
use Rattle.kerning_machine.specs.Machine.{fresh, Stepped, next, step_at, pass_from, rest, passed_by}
use Rattle.kerning_machine.proofs.Sound.{Sound, next-sound}

module _ (classes : ℕ → ℕ) (bytes : List ℕ) (kerning : Kerning) (glyphs : List ℕ) (used : ℕ) where
  -- one turn, by the answer of its step
  module _ (turns : ℕ) (s : KerningState) (i : ℕ) where
    pub turn_goes : i < used → is_done (step_at classes bytes kerning glyphs used s i).step.answer ≡ true
        → pass_from classes bytes kerning glyphs used (suc turns) s i
        ≡ after (step_at classes bytes kerning glyphs used s i).additions
        (pass_from classes bytes kerning glyphs used turns (step_at classes bytes kerning glyphs used s i).step.state (i + (step_at classes bytes kerning glyphs used s i).step.advance))
    unfolding pass_from
    turn_goes h e = rw (lt-ltb i used h, e, pass_from)

    pub turn_stops : i < used → is_done (step_at classes bytes kerning glyphs used s i).step.answer ≡ false
        → pass_from classes bytes kerning glyphs used (suc turns) s i
        ≡ record { answer = (step_at classes bytes kerning glyphs used s i).step.answer; additions = (step_at classes bytes kerning glyphs used s i).additions }
    unfolding pass_from
    turn_stops h e = rw (lt-ltb i used h, e, pass_from)

    pub turn_ends : used ≤ i → pass_from classes bytes kerning glyphs used (suc turns) s i ≡ nothing_added Answer'.Done
    unfolding pass_from
    turn_ends h = rw (le-ltb i used h, pass_from)

  -- what a pass that ends here answers and leaves
  pub record Over (along₀ : List ℤ) (answer : Answer) (along : List ℤ) : Type 0 where
    pub answers : answer ≡ (passed_by classes bytes kerning glyphs used).answer
    pub leaves : along ≡ add_all (passed_by classes bytes kerning glyphs used).additions along₀

  -- what the loop knows at place i
  pub record Going (along₀ along : List ℤ) (s : KerningState) (i : ℕ) : Type 0 where
    pub turns : ℕ
    pub enough : rest used s i ≤ turns
    pub done : List Addition
    pub at : along ≡ add_all done along₀
    pub small : Small done
    pub few : length done + turns * 8 ≤ (used * 18 + 18) * 8
    pub same : after done (pass_from classes bytes kerning glyphs used turns s i) ≡ passed_by classes bytes kerning glyphs used
    pub cycles : s.cycles ≤ 17
    pub within : i ≤ used
    pub deep : s.depth ≤ 8

  pub going_start : (along : List ℤ) (s : KerningState) → s ≡ fresh → Going along along s 0
  unfolding passed_by
  going_start along s e =
      subst⁻¹ (λ (r : KerningState). Going along along r 0) e
      (record {
        turns = rest used fresh 0;
        enough = omega arith;
        done = [];
        at = sym (add_all-none along);
        small = small-none;
        few = omega arith;
        same = refl;
        cycles = omega arith;
        within = omega arith;
        deep = omega arith;
      })

  more : (n m : ℕ) → m ≤ n → 0 < m → (k : ℕ) × (n ≡ suc k)
  more zero m h p = absurd (omega arith)
  more (suc n) m h p = (n, refl)

  module _ {along₀ along : List ℤ} {s : KerningState} {i : ℕ} (g : Going along₀ along s i) where
    one_more : (k : ℕ) × (g.turns ≡ suc k)
    one_more = more g.turns (rest used s i) g.enough (omega (arith, g.cycles))

    whole_is : (k : ℕ) → g.turns ≡ suc k → (r : Kerned) → pass_from classes bytes kerning glyphs used (suc k) s i ≡ r → after g.done r ≡ passed_by classes bytes kerning glyphs used
    whole_is k e r f = ap (after g.done) (sym (rw e f)) ∙ g.same

    joined : (xs : List Addition) → add_all xs along ≡ add_all (g.done ++ xs) along₀
    joined xs = ap (add_all xs) g.at ∙ sym (add_all-append g.done xs along₀)

    over : (r : Kerned) → after g.done r ≡ passed_by classes bytes kerning glyphs used → {along' : List ℤ} → along' ≡ add_all r.additions along
        → Over along₀ r.answer along'
    over r e a =
        record {
          answers = ap (λ (w : Kerned). w.answer) e;
          leaves = a ∙ joined r.additions ∙ ap (λ (w : Kerned). add_all w.additions along₀) e;
        }

    pub going_long : length along ≡ length along₀
    going_long = ap length g.at ∙ length-add_all g.done along₀

    -- no sum leaves 64 bits
    pub going_within : used ≤ room_limit → Within (2 ^ 60) along₀ → Within (2 ^ 61) along
    going_within h w =
        subst⁻¹ (λ (xs : List ℤ). Within (2 ^ 61) xs) g.at (within_more (omega (arith, g.few, room_small)) (within-add_all along₀ g.small w))

    pub going_end : used ≤ i → Over along₀ Answer'.Done along
    going_end h = let (k, f) = one_more in over (nothing_added Answer'.Done) (whole_is k f (nothing_added Answer'.Done) (turn_ends k s i h)) (sym (add_all-none along))

    module _ {step : KerningStep} {along' : List ℤ} (h : i < used) (e : step ≡ (next classes bytes kerning s used i (get_or glyphs i 0)).step)
        (a : along' ≡ add_all (next classes bytes kerning s used i (get_or glyphs i 0)).additions along) where
      here : Stepped
      here = step_at classes bytes kerning glyphs used s i

      sound : Sound s.cycles here
      unfolding here
      sound = next-sound classes bytes kerning s used i (get_or glyphs i 0) g.deep

      pub going_stop : is_done step.answer ≡ false → Over along₀ step.answer along'
      unfolding here
      going_stop d =
          let (k, f) = one_more in
          let r : Kerned = record { answer = here.step.answer; additions = here.additions } in
          let d' : is_done here.step.answer ≡ false = subst (λ (x : KerningStep). is_done x.answer ≡ false) e d in
          subst⁻¹ (λ (x : KerningStep). Over along₀ x.answer along') e (over r (whole_is k f r (turn_stops k s i h d')) a)

      falls : is_done here.step.answer ≡ true → Falls s.cycles used i (stalled s.cycles sound.stays)
      falls d = stall_falls s.cycles used i sound.stays g.cycles h

      pub going_less : is_done step.answer ≡ true → rest used step.state (i + step.advance) < rest used s i
      unfolding here
      going_less d =
          let d' : is_done here.step.answer ≡ true = subst (λ (x : KerningStep). is_done x.answer ≡ true) e d in
          subst⁻¹ (λ (x : KerningStep). rest used x.state (i + x.advance) < rest used s i) e
          (omega (arith, (falls d').less, (sound.stalls d').0, (sound.stalls d').1))

      pub going_one : is_done step.answer ≡ true → step.advance ≤ 1
      unfolding here
      going_one d =
          let d' : is_done here.step.answer ≡ true = subst (λ (x : KerningStep). is_done x.answer ≡ true) e d in
          subst⁻¹ (λ (x : KerningStep). x.advance ≤ 1) e
          (omega (arith, (stall_falls s.cycles 1 0 sound.stays g.cycles (omega arith)).within, (sound.stalls d').1))

      pub going_step : is_done step.answer ≡ true → Going along₀ along' step.state (i + step.advance)
      unfolding here
      going_step d =
          let (k, f) = one_more in
          let d' : is_done here.step.answer ≡ true = subst (λ (x : KerningStep). is_done x.answer ≡ true) e d in
          let c = (sound.stalls d').0 in
          let v = (sound.stalls d').1 in
          let then : Kerned = pass_from classes bytes kerning glyphs used k here.step.state (i + here.step.advance) in
          subst⁻¹ (λ (x : KerningStep). Going along₀ along' x.state (i + x.advance)) e
          (record {
            turns = k;
            enough = omega (arith, g.enough, f, (falls d').less, c, v);
            done = g.done ++ here.additions;
            at = a ∙ joined here.additions;
            small = small-append g.small sound.small;
            few = omega (arith, length-append g.done here.additions, sound.few, g.few, f);
            same = ap (λ (xs : List Addition). record { answer = then.answer; additions = xs }) (append_assoc g.done here.additions then.additions)
                ∙ whole_is k f (after here.additions then) (turn_goes k s i h d');
            cycles = omega (arith, (falls d').sound, c);
            within = omega (arith, (falls d').within, v);
            deep = sound.deep;
          })
