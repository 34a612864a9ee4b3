-- More turns than a pass needs change nothing, so that its branch for no turns left is never reached.
use Prim.Native.Nat.{ℕ, zero, suc, ◌+◌, ◌<◌, ◌≤◌}
use mathlib.Core.Path.{◌≡◌, refl, sym, ◌∙◌, ap}
use mathlib.Core.Bool.{Bool, true, false}
use mathlib.Core.List.{List}
use mathlib.Core.Logic.{⊎_elim}
use native.Mathlib.Omega.{arith}
use Rattle.laws.proofs.Numbers.{lt-or-ge}
use Rattle.line.specs.Line.{Line}
use Rattle.line.specs.Changes.{apply_all}
use Rattle.state_tables.specs.declared.States.{States}
use Rattle.machine.specs.Pass.{Step, after, is_done, step_at, pass_from}
use Rattle.machine.specs.Machine.{Machine, passed_by, Bounded}
use Rattle.machine.proofs.Passing.{turn_goes, turn_stops, turn_ends}

-- what a machine owes: from a sound state there is a turn left, and a step that goes on leaves a sound state and fewer turns
module _ {S : Type 0} (step : Step S) (Sound : S → Line → ℕ → Type 0) (rest : S → Line → ℕ → ℕ) where
  abbrev next_state : S → Line → ℕ → S
  next_state s l i = (step_at step s l i).state

  abbrev next_line : S → Line → ℕ → Line
  next_line s l i = apply_all (step_at step s l i).changes l

  abbrev next_place : S → Line → ℕ → ℕ
  next_place s l i = i + (step_at step s l i).advance

  pub record Counts : Type 0 where
    pub some : (s : S) (l : Line) (i : ℕ) → Sound s l i → 0 < rest s l i
    pub sound : (s : S) (l : Line) (i : ℕ) → Sound s l i → i < l.used → is_done (step_at step s l i).answer ≡ true
        → Sound (next_state s l i) (next_line s l i) (next_place s l i)
    pub fewer : (s : S) (l : Line) (i : ℕ) → Sound s l i → i < l.used → is_done (step_at step s l i).answer ≡ true
        → rest (next_state s l i) (next_line s l i) (next_place s l i) < rest s l i

  module _ (counts : Counts) (more : ℕ) where
    enough_turns : (turns : ℕ) (s : S) (l : Line) (i : ℕ) → Sound s l i → rest s l i ≤ turns
        → pass_from step (more + turns) s l i ≡ pass_from step turns s l i
    enough_turns zero s l i ok h = absurd (omega (arith, counts.some s l i ok, h))
    enough_turns (suc turns) s l i ok h =
        let one : more + suc turns ≡ suc (more + turns) = omega arith in
        ap (λ (n : ℕ). pass_from step n s l i) one
        ∙ ⊎_elim
        (λ (k : i < l.used). go k (enough_turns turns (next_state s l i) (next_line s l i) (next_place s l i)) (is_done (step_at step s l i).answer) refl)
        (λ (k : l.used ≤ i). turn_ends step (more + turns) s l i k ∙ sym (turn_ends step turns s l i k))
        (lt-or-ge i l.used)
      where
        go : i < l.used
            → (Sound (next_state s l i) (next_line s l i) (next_place s l i) → rest (next_state s l i) (next_line s l i) (next_place s l i) ≤ turns
            → pass_from step (more + turns) (next_state s l i) (next_line s l i) (next_place s l i)
            ≡ pass_from step turns (next_state s l i) (next_line s l i) (next_place s l i))
            → (t : Bool) → is_done (step_at step s l i).answer ≡ t
            → pass_from step (suc (more + turns)) s l i ≡ pass_from step (suc turns) s l i
        go k later true e =
            let f = counts.fewer s l i ok k e in
            turn_goes step (more + turns) s l i k e
            ∙ ap (after (step_at step s l i).changes) (later (counts.sound s l i ok k e) (omega (arith, f, h)))
            ∙ sym (turn_goes step turns s l i k e)
        go k later false e = turn_stops step (more + turns) s l i k e ∙ sym (turn_stops step turns s l i k e)

-- so a machine that counts its turns has enough of them
pub bounded : {S : Type 0} (machine : Machine S) (Sound : S → Line → ℕ → Type 0)
    → ((classes : ℕ → ℕ) (bytes : List ℕ) (states : States) → Counts (machine.step classes bytes states) Sound machine.rest)
    → (l : Line) → Sound machine.fresh l 0 → Bounded machine l
unfolding passed_by
bounded machine Sound counts l ok classes bytes states more =
    enough_turns (machine.step classes bytes states) Sound machine.rest (counts classes bytes states) more
    (machine.rest machine.fresh l 0) machine.fresh l 0 ok (omega arith)
