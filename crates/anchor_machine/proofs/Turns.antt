-- More turns than a pass counts with change nothing.
use Prim.Native.Nat.{ℕ, zero, suc, ◌+◌, ◌<◌, ◌≤◌}
use mathlib.Core.Path.{◌≡◌, refl, sym, ◌∙◌, ap}
use mathlib.Core.Bool.{Bool, true, false}
use mathlib.Core.List.{List}
use mathlib.Core.Logic.{⊎_elim}
use native.Mathlib.Omega.{arith}
use lib.ListN.{get_or}
use Rattle.laws.proofs.Numbers.{lt-or-ge}
use Rattle.machine.specs.Pass.{is_done}
use Rattle.machine.proofs.Stalls.{stall_falls}
use Rattle.anchor_machine.specs.Writes.{Anchored, after, writes_at}
use Rattle.anchor_machine.specs.Machine.{fresh, step_at, pass_from, rest, passed_by}
use Rattle.anchor_machine.specs.declared.Anchoring.{Anchoring}
use Rattle.anchor_machine.specs.declared.AnchorState.{AnchorState}
use Rattle.anchor_machine.specs.declared.AnchorStep.{AnchorStep}
use Rattle.anchor_machine.proofs.Acting.{next_sound}
use Rattle.anchor_machine.proofs.Passes.{turn_goes, turn_stops, turn_ends}

module _ (classes : ℕ → ℕ) (ankr bytes : List ℕ) (anchoring : Anchoring) (glyphs : List ℕ) (used more : ℕ) where
  abbrev here : AnchorState → ℕ → AnchorStep
  here s i = step_at classes ankr bytes anchoring glyphs used s i

  abbrev from : ℕ → AnchorState → ℕ → Anchored
  from turns s i = pass_from classes ankr bytes anchoring glyphs used turns s i

  abbrev next_place : AnchorState → ℕ → ℕ
  next_place s i = i + (here s i).advance

  enough_turns : (turns : ℕ) (s : AnchorState) (i : ℕ) → s.cycles ≤ 17 → rest used s i ≤ turns → from (more + turns) s i ≡ from turns s i
  enough_turns zero s i c h = absurd (omega (arith, c, h))
  enough_turns (suc turns) s i c h =
      let one : more + suc turns ≡ suc (more + turns) = omega arith in
      ap (λ (n : ℕ). from n s i) one
      ∙ ⊎_elim
      (λ (k : i < used). go k (enough_turns turns (here s i).state (next_place s i)) (is_done (here s i).answer) refl)
      (λ (k : used ≤ i). turn_ends classes ankr bytes anchoring glyphs used (more + turns) s i k ∙ sym (turn_ends classes ankr bytes anchoring glyphs used turns s i k))
      (lt-or-ge i used)
    where
      go : i < used
          → ((here s i).state.cycles ≤ 17 → rest used (here s i).state (next_place s i) ≤ turns
          → from (more + turns) (here s i).state (next_place s i) ≡ from turns (here s i).state (next_place s i))
          → (t : Bool) → is_done (here s i).answer ≡ t → from (suc (more + turns)) s i ≡ from (suc turns) s i
      go k later true e =
          let sound = next_sound classes ankr bytes anchoring s i (get_or glyphs i 0) in
          let falls = stall_falls s.cycles used i sound.stays c k in
          let (cycles, advance) = sound.stalls e in
          turn_goes classes ankr bytes anchoring glyphs used (more + turns) s i k e
          ∙ ap (after (writes_at used i (here s i).written)) (later (omega (arith, falls.sound, cycles)) (omega (arith, falls.less, cycles, advance, h)))
          ∙ sym (turn_goes classes ankr bytes anchoring glyphs used turns s i k e)
      go k later false e =
          turn_stops classes ankr bytes anchoring glyphs used (more + turns) s i k e ∙ sym (turn_stops classes ankr bytes anchoring glyphs used turns s i k e)

pub anchor_turns : (classes : ℕ → ℕ) (ankr bytes : List ℕ) (anchoring : Anchoring) (glyphs : List ℕ) (used more : ℕ)
    → pass_from classes ankr bytes anchoring glyphs used (more + rest used fresh 0) fresh 0 ≡ passed_by classes ankr bytes anchoring glyphs used
unfolding passed_by
anchor_turns classes ankr bytes anchoring glyphs used more =
    enough_turns classes ankr bytes anchoring glyphs used more (rest used fresh 0) fresh 0 (omega arith) (omega arith)
