-- The tests of a lone step, once TABLE has passed; and what a step that they pass has.
use Rattle.std.specs.Prelude.{Result, Ok, Err}
use Prim.Native.Nat.{ℕ, ◌≤◌, ◌^◌}
use mathlib.Core.Path.{◌≡◌, refl, sym, ◌∙◌, ap}
use mathlib.Core.Bool.{Bool, true, false, cond}
use mathlib.Core.List.{List}
use native.Mathlib.Omega.{arith}
use lib.Dec.{ltb}
use lib.IntN.{ℤ}
use lib.ListN.{length}
use borrow.Author.Tests.{not-false, ltb-false}
use Rattle.answers.proofs.Refusals.{passed_here, passed_later}
use Rattle.answers.specs.Limits.{room_limit}
use Rattle.answers.specs.Refuse.{refuse, table_test}
use Rattle.answers.specs.declared.Refusal.{Refusal}
use Rattle.answers.specs.declared.Answer.TheVariants as Answer'
use Rattle.kerning.specs.Additions.{add_all}
use Rattle.kerning.specs.Bounds.{Within}
use Rattle.kerning.specs.Line.{is_modest}
use Rattle.kerning.specs.Heads.{is_short, is_tupled}
use Rattle.kerning.specs.declared.heads.Unready.{Unready}
use Rattle.kerning.specs.declared.heads.Unready.TheVariants.{Short, Tupled}
use Rattle.kerning.proofs.Adding.{within_more}
use Rattle.kerning.proofs.Scans.{modest-within}
use Rattle.kerning_machine.specs.declared.KerningState.{KerningState}
use Rattle.kerning_machine.specs.declared.KerningStep.{KerningStep}
use Rattle.kerning_machine.specs.declared.Kerning.{Kerning}
use Rattle.kerning_machine.specs.Machine.{stopped, next, own_classes, is_roomy, later_tests, step_tests, stepped_by, on_opened, refused_step, step_call, Stepped}
use Rattle.kerning_machine.specs.Work.{readied}
use Rattle.kerning_machine.proofs.Acting.{Does}

roomy_modest : (along : List ℤ) (used : ℕ) → is_roomy along used ≡ true → (used ≤ length along) × (is_modest along ≡ true)
unfolding is_roomy
roomy_modest along used e = go (ltb room_limit (length along)) (ltb (length along) used) refl e
  where
    go : (t u : Bool) → ltb (length along) used ≡ u → cond t false (cond u false (is_modest along)) ≡ true → (used ≤ length along) × (is_modest along ≡ true)
    go true u f g = absurd (cc)
    go false true f g = absurd (cc)
    go false false f g = (ltb-false _ _ f, g)

module _ (n used index : ℕ) (s : KerningState) (along : List ℤ) (headless tupled : Bool) (e : refuse (step_tests n used index s along headless tupled) ≡ (Ok tt)) where
  later : refuse (later_tests used index s along headless tupled) ≡ Ok tt
  unfolding step_tests
  later = passed_later (table_test n) (later_tests used index s along headless tupled) e

  pub step_ready : (s.depth ≤ 8) × (used ≤ length along) × Within (2 ^ 61) along
  unfolding later_tests
  step_ready =
      let roomy = roomy_modest along used (not-false _ (passed_here _ _ later)) in (
        ltb-false _ _ (passed_here _ _ (passed_later _ _ (passed_later _ _ later))),
        roomy.0,
        within_more (omega arith) (modest-within along roomy.1),
      )

-- what a step comes to, by the machine that its tests pass
module _ (s : KerningState) (work : Kerning → Stepped) where
  step_refused : (check : Result Unit Refusal) (opened : Result Kerning Unready) {why : Refusal} → readied check opened ≡ Err why
      → stepped_by check s (on_opened opened s work) ≡ refused_step s (Answer'.Refused why)
  unfolding readied
  step_refused (Err why) opened e = ap (λ (w : Refusal). refused_step s (Answer'.Refused w)) (cc)
  step_refused (Ok tt) (Ok kerning) e = absurd (cc)
  step_refused (Ok tt) (Err Short) e = ap (λ (w : Refusal). refused_step s (Answer'.Refused w)) (cc)
  step_refused (Ok tt) (Err Tupled) e = ap (λ (w : Refusal). refused_step s (Answer'.Refused w)) (cc)

  step_works : (check : Result Unit Refusal) (opened : Result Kerning Unready) {kerning : Kerning} → readied check opened ≡ Ok kerning
      → stepped_by check s (on_opened opened s work) ≡ work kerning
  unfolding readied
  step_works (Err why) opened e = absurd (cc)
  step_works (Ok tt) (Ok kerning) e = ap work (cc)
  step_works (Ok tt) (Err Short) e = absurd (cc)
  step_works (Ok tt) (Err Tupled) e = absurd (cc)

step-passed : (check : Result Unit Refusal) (opened : Result Kerning Unready) {kerning : Kerning} → readied check opened ≡ Ok kerning → check ≡ Ok tt
unfolding readied
step-passed (Err why) opened e = absurd (cc)
step-passed (Ok tt) opened e = refl

-- a lone step, by its tests and its machine
module _ (n : ℕ) (bytes : List ℕ) (opened : Result Kerning Unready) (s : KerningState) (used index glyph : ℕ) (along : List ℤ) {r : Result Kerning Refusal}
    (k : r ≡ readied (refuse (step_tests n used index s along (is_short opened) (is_tupled opened))) opened) where
  abbrev tests : Result Unit Refusal
  tests = refuse (step_tests n used index s along (is_short opened) (is_tupled opened))

  abbrev goes : Kerning → Stepped
  goes kerning = next (own_classes bytes kerning) bytes kerning s used index glyph

  pub step-refused : {why : Refusal} {step : KerningStep} → r ≡ Err why → step ≡ stopped s (Answer'.Refused why)
      → Does (step_call n bytes opened s used index glyph along) along step along
  unfolding step_call add_all
  step-refused f g = rw (step_refused s goes tests opened (sym k ∙ f)) (record { steps = g; leaves = refl })

  pub step-ready : {kerning : Kerning} → r ≡ Ok kerning → (s.depth ≤ 8) × (used ≤ length along) × Within (2 ^ 61) along
  step-ready f = step_ready n used index s along (is_short opened) (is_tupled opened) (step-passed tests opened (sym k ∙ f))

  pub step-works : {kerning : Kerning} {step : KerningStep} {along' : List ℤ} → r ≡ Ok kerning → step ≡ (goes kerning).step
      → along' ≡ add_all (goes kerning).additions along → Does (step_call n bytes opened s used index glyph along) along step along'
  unfolding step_call
  step-works f g a = rw (step_works s goes tests opened (sym k ∙ f)) (record { steps = g; leaves = a })
