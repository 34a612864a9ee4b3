-- A step either stops before an insertion or makes both; what it inserts fits, and a pass that is made of such steps ends.
use Rattle.std.specs.Prelude.{Option, Some, None, Result}
use Prim.Native.Nat.{ℕ, ◌+◌, ◌*◌, ◌-◌, ◌<◌, ◌≤◌}
use mathlib.Core.Path.{◌≡◌, refl, subst, subst⁻¹}
use mathlib.Core.Bool.{Bool, true, false}
use mathlib.Core.List.{List}
use mathlib.Core.Logic.{⊎_elim}
use native.Mathlib.Omega.{arith}
use lib.ListN.{length}
use Rattle.laws.proofs.Choices.{if_eq_yes, if_eq_no}
use Rattle.laws.proofs.Numbers.{eq-or-ne}
use Rattle.answers.specs.declared.Answer.{Answer}
use Rattle.answers.specs.declared.Answer.TheVariants as Answer'
use Rattle.state_tables.specs.declared.States.{States}
use Rattle.state_tables.specs.declared.entries.Entry.{Entry}
use Rattle.state_tables.specs.Entries.{entry_of, on_entry}
use Rattle.parse.specs.Reads.{u16_at}
use Rattle.laws.specs.Bits.{is_set}
use Rattle.machine.specs.Entry.{class_here}
use Rattle.machine.specs.Stall.{stalled}
use Rattle.machine.specs.Pass.{is_done}
use Rattle.machine.proofs.Stalls.{stall_falls}
use Rattle.insertion.specs.Lists.{on_tried, count_of}
use Rattle.insertion.specs.Work.{end_of}
use Rattle.insertion.specs.Insertion.{advance_of, with_state, stopped, finished, after_marked, acted, next}
use Rattle.insertion.specs.declared.Insertion.{Insertion}
use Rattle.insertion.specs.declared.InsertionState.{InsertionState}
use Rattle.insertion.specs.declared.InsertionStep.{InsertionStep}
use Rattle.insertion.proofs.Lists.{Fitting, fitting_none, Tries, made, over, insertion_tries}

-- the two ends of a step
pub data Shape (bytes : List ℕ) (s : InsertionState) (used room : ℕ) : InsertionStep → Type 0 where
  stops : (answer : Answer) (s' : InsertionState) (marked : Option Insertion) → is_done answer ≡ false → Fitting bytes used room marked
      → Shape bytes s used room (stopped answer s' marked)
  finishes : (s' : InsertionState) (flags : ℕ) (marked current : Option Insertion) → s'.cycles ≡ s.cycles → Fitting bytes used room marked
      → Fitting bytes (used + count_of marked) room current → Shape bytes s used room (finished s' flags marked current)

module _ (bytes : List ℕ) (s : InsertionState) (index used room : ℕ) where
  second_shape : {t : Result (Option Insertion) Answer} (s' : InsertionState) (flags : ℕ) (marked : Option Insertion) → s'.cycles ≡ s.cycles → Fitting bytes used room marked
      → Tries bytes (used + count_of marked) room t
      → Shape bytes s used room (on_tried t (λ current. finished s' flags marked current) (λ answer. stopped answer s' marked))
  second_shape s' flags marked c f (made current g) = finishes s' flags marked current c f g
  second_shape s' flags marked c f (over answer n) = stops answer s' marked n f

  followed_shape : (s' : InsertionState) (flags number : ℕ) (marked : Option Insertion) → s'.cycles ≡ s.cycles → Fitting bytes used room marked
      → Shape bytes s used room (after_marked bytes s' flags number marked index used room)
  unfolding after_marked
  followed_shape s' flags number marked c f =
      second_shape _ flags marked c f (insertion_tries bytes number _ _ (used + count_of marked) room f.within)

  acted_shape : (entry : Entry) → used ≤ room → Shape bytes s used room (acted bytes s entry index used room)
  unfolding acted
  acted_shape entry h = go _ (insertion_tries bytes _ _ _ used room h)
    where
      go : (t : Result (Option Insertion) Answer) → Tries bytes used room t
          → Shape bytes s used room
          (on_tried t
          (λ marked. after_marked bytes (with_state s entry.state) entry.flags (u16_at bytes entry.payload) marked index used room)
          (λ answer. stopped answer (with_state s entry.state) None))
      go _ (made marked g) = followed_shape (with_state s entry.state) entry.flags (u16_at bytes entry.payload) marked refl g
      go _ (over answer n) = stops answer _ None n (fitting_none h)

pub next_shape : (classes : ℕ → ℕ) (bytes : List ℕ) (states : States) (s : InsertionState) (used room index glyph : ℕ) (ends : Bool) → used ≤ room
    → Shape bytes s used room (next classes bytes states s used room index glyph ends)
unfolding next
next_shape classes bytes states s used room index glyph ends h = go (entry_of bytes states s.state (class_here classes glyph ends) 4)
  where
    go : (e : Option Entry) → Shape bytes s used room (on_entry e (λ entry. acted bytes s entry index used room) (stopped Answer'.Ended s None))
    go (Some entry) = acted_shape bytes s index used room entry h
    go None = stops Answer'.Ended s None refl (fitting_none h)

-- both insertions of a step lie in the bytes and fit the room
pub record Both (bytes : List ℕ) (used room : ℕ) (step : InsertionStep) : Type 0 where
  pub marked-inside : end_of step.marked ≤ length bytes
  pub current-inside : end_of step.current ≤ length bytes
  pub within : used + count_of step.marked + count_of step.current ≤ room

shape_fits : {bytes : List ℕ} {s : InsertionState} {used room : ℕ} {step : InsertionStep} → Shape bytes s used room step
    → Both bytes used room step
unfolding finished
shape_fits (stops answer s' marked n f) = record { marked-inside = f.inside; current-inside = omega arith; within = omega (arith, f.within) }
shape_fits (finishes s' flags marked current c f g) =
    record { marked-inside = f.inside; current-inside = g.inside; within = g.within }

pub next_fits : (classes : ℕ → ℕ) (bytes : List ℕ) (states : States) (s : InsertionState) (used room index glyph : ℕ) (ends : Bool) {step : InsertionStep} → used ≤ room
    → step ≡ next classes bytes states s used room index glyph ends → Both bytes used room step
next_fits classes bytes states s used room index glyph ends h e =
    subst⁻¹ (λ (r : InsertionStep). Both bytes used room r) e (shape_fits (next_shape classes bytes states s used room index glyph ends h))

-- a step that is DONE stays in the line and comes nearer to the end of the pass
pub record Advances (used room i : ℕ) (s : InsertionState) (step : InsertionStep) : Type 0 where
  pub sound : step.state.cycles ≤ 17
  pub within : i + step.advance ≤ used + count_of step.marked + count_of step.current
  pub less : (room - (i + step.advance)) * 18 + (18 - step.state.cycles) < (room - i) * 18 + (18 - s.cycles)

-- the advance is at least the stall rule's, and never more than what is inserted and one place
between : (marked current one : ℕ) → one ≤ 1 → (one ≤ advance_of marked current one) × (advance_of marked current one ≤ marked + current + 1)
between marked current one h =
    ⊎_elim
    (λ (z : one ≡ 0). let a : advance_of marked current one ≡ marked = if_eq_yes _ _ z in (omega arith, omega arith))
    (λ (n : one ≡ 0 → ⊥). let a : advance_of marked current one ≡ marked + current + 1 = if_eq_no _ _ n in (omega arith, omega arith))
    (eq-or-ne one 0)

nearer : (room i less more left bound : ℕ) → less ≤ more → (room - (i + less)) * 18 + left < bound → (room - (i + more)) * 18 + left < bound
nearer room i less more left bound h k = omega arith

module _ (used room i : ℕ) (h : i < used) (k : used ≤ room) where
  finished_advances : (s s' : InsertionState) (flags : ℕ) (marked current : Option Insertion) → s'.cycles ≡ s.cycles → s.cycles ≤ 17
      → Advances used room i s (finished s' flags marked current)
  unfolding finished
  finished_advances s s' flags marked current c sound =
      let stays = is_set flags 0x4000 in
      let to = stalled s'.cycles stays in
      let falls = stall_falls s'.cycles room i stays (omega arith) (omega arith) in
      let one = (stall_falls s'.cycles (i + 1) i stays (omega arith) (omega arith)).within in
      let (far, near) = between (count_of marked) (count_of current) to.advance (omega (arith, one)) in
      record {
        sound = falls.sound;
        within = omega (arith, near);
        less = nearer room i to.advance _ (18 - to.cycles) _ far
            (subst (λ (n : ℕ). (room - (i + to.advance)) * 18 + (18 - to.cycles) < (room - i) * 18 + (18 - n)) c falls.less);
      }

  pub shape_advances : {bytes : List ℕ} {s : InsertionState} {step : InsertionStep} → Shape bytes s used room step
      → is_done step.answer ≡ true → s.cycles ≤ 17 → Advances used room i s step
  shape_advances (stops answer s' marked n f) d sound = let z : ◌≡◌ {A = ℕ} 0 1 = absurd (no d n) in absurd (omega arith)
    where
      no : {b : Bool} → b ≡ true → b ≡ false → ⊥
      no p q = let z : ◌≡◌ {A = ℕ} 0 1 = cc in omega arith
  shape_advances {bytes} {s} (finishes s' flags marked current c f g) d sound = finished_advances s s' flags marked current c sound
