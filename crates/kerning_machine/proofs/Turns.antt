-- More turns than a pass counts with change nothing.
use Prim.Native.Nat.{ℕ, zero, suc, ◌+◌, ◌<◌, ◌≤◌}
use mathlib.Core.Path.{◌≡◌, refl, sym, ◌∙◌, ap}
use mathlib.Core.Bool.{Bool, true, false}
use mathlib.Core.List.{List}
use mathlib.Core.Logic.{⊎_elim}
use native.Mathlib.Omega.{arith}
use lib.ListN.{get_or}
use Rattle.laws.proofs.Numbers.{lt-or-ge}
use Rattle.kerning.specs.Additions.{Kerned, after}
use Rattle.machine.specs.Pass.{is_done}
use Rattle.machine.proofs.Stalls.{stall_falls}
use Rattle.kerning_machine.specs.Machine.{fresh, Stepped, step_at, pass_from, rest, passed_by}
use Rattle.kerning_machine.specs.declared.Kerning.{Kerning}
use Rattle.kerning_machine.specs.declared.KerningState.{KerningState}
use Rattle.kerning_machine.proofs.Sound.{next-sound}
use Rattle.kerning_machine.proofs.Passes.{turn_goes, turn_stops, turn_ends}

module _ (classes : ℕ → ℕ) (bytes : List ℕ) (kerning : Kerning) (glyphs : List ℕ) (used more : ℕ) where
  abbrev here : KerningState → ℕ → Stepped
  here s i = step_at classes bytes kerning glyphs used s i

  abbrev from : ℕ → KerningState → ℕ → Kerned
  from turns s i = pass_from classes bytes kerning glyphs used turns s i

  abbrev next_state : KerningState → ℕ → KerningState
  next_state s i = (here s i).step.state

  abbrev next_place : KerningState → ℕ → ℕ
  next_place s i = i + (here s i).step.advance

  enough_turns : (turns : ℕ) (s : KerningState) (i : ℕ) → s.cycles ≤ 17 → s.depth ≤ 8 → rest used s i ≤ turns → from (more + turns) s i ≡ from turns s i
  enough_turns zero s i c d h = absurd (omega (arith, c, h))
  enough_turns (suc turns) s i c d h =
      let one : more + suc turns ≡ suc (more + turns) = omega arith in
      ap (λ (n : ℕ). from n s i) one
      ∙ ⊎_elim
      (λ (k : i < used). go k (enough_turns turns (next_state s i) (next_place s i)) (is_done (here s i).step.answer) refl)
      (λ (k : used ≤ i). turn_ends classes bytes kerning glyphs used (more + turns) s i k ∙ sym (turn_ends classes bytes kerning glyphs used turns s i k))
      (lt-or-ge i used)
    where
      go : i < used
          → ((next_state s i).cycles ≤ 17 → (next_state s i).depth ≤ 8 → rest used (next_state s i) (next_place s i) ≤ turns
          → from (more + turns) (next_state s i) (next_place s i) ≡ from turns (next_state s i) (next_place s i))
          → (t : Bool) → is_done (here s i).step.answer ≡ t → from (suc (more + turns)) s i ≡ from (suc turns) s i
      go k later true e =
          let sound = next-sound classes bytes kerning s used i (get_or glyphs i 0) d in
          let falls = stall_falls s.cycles used i sound.stays c k in
          let (cycles, advance) = sound.stalls e in
          turn_goes classes bytes kerning glyphs used (more + turns) s i k e
          ∙ ap (after (here s i).additions)
          (later (omega (arith, falls.sound, cycles)) sound.deep (omega (arith, falls.less, cycles, advance, h)))
          ∙ sym (turn_goes classes bytes kerning glyphs used turns s i k e)
      go k later false e = turn_stops classes bytes kerning glyphs used (more + turns) s i k e ∙ sym (turn_stops classes bytes kerning glyphs used turns s i k e)

pub kerning_turns : (classes : ℕ → ℕ) (bytes : List ℕ) (kerning : Kerning) (glyphs : List ℕ) (used more : ℕ)
    → pass_from classes bytes kerning glyphs used (more + rest used fresh 0) fresh 0 ≡ passed_by classes bytes kerning glyphs used
unfolding passed_by
kerning_turns classes bytes kerning glyphs used more =
    enough_turns classes bytes kerning glyphs used more (rest used fresh 0) fresh 0 (omega arith) (omega arith) (omega arith)
