-- What the changes of a machine's every step have of the line that they are made on, those of its passes and of its calls have.
use Rattle.std.specs.Prelude.{Option, Some, None, Result, Ok, Err}
use Prim.Native.Nat.{ℕ, zero, suc, ◌+◌, ◌<◌, ◌≤◌}
use mathlib.Core.Path.{◌≡◌, refl, subst⁻¹}
use mathlib.Core.Bool.{Bool, true, false}
use mathlib.Core.List.{List, [], ◌∷◌, ◌++◌}
use mathlib.Core.Logic.{⊎_elim}
use lib.ListN.{length, drop}
use Rattle.laws.proofs.Numbers.{lt-or-ge}
use Rattle.answers.specs.Refuse.{refuse}
use Rattle.answers.specs.declared.Answer.TheVariants as Answer'
use Rattle.answers.specs.declared.Refusal.{Refusal}
use Rattle.answers.specs.declared.Refusal.TheVariants as Refusal'
use Rattle.state_tables.specs.Classes.{class_of}
use Rattle.state_tables.specs.declared.States.{States}
use Rattle.line.specs.Line.{Line}
use Rattle.line.specs.Test.{line_test}
use Rattle.line.specs.Changes.{Change, apply_all}
use Rattle.machine.specs.Head.{body_of}
use Rattle.machine.specs.Pass.{Step, Stepped, Passed, deleted, is_done, step_at, pass_from}
use Rattle.machine.specs.Call.{pass_tests, step_tests, if_passed, on_made, lone_step}
use Rattle.machine.specs.Machine.{Subtable, Machine, refused_pass, pass_call, passed_by, passed, subtable_of, step_call}
use Rattle.machine.proofs.Passing.{turn_goes, turn_stops, turn_ends}

-- what holds of all that is refused and of the work holds of what is made of tests and of a state table
module _ {A : Type 0} (P : A → Type 0) (refused : Refusal → A) (always : (why : Refusal) → P (refused why)) where
  pub if_passed_lem : (check : Result Unit Refusal) (work : A) → P work → P (if_passed refused check work)
  if_passed_lem (Ok tt) work p = p
  if_passed_lem (Err why) work p = always why

  pub on-made : (made : Option States) (work : States → A) → ((states : States) → P (work states)) → P (on_made refused made work)
  on-made (Some states) work p = p states
  on-made None work p = always Refusal'.Head

-- such a property: on lines of some kind, of no changes, and of some behind others
pub record Closed (On : Line → Type 0) (Has : List Change → Line → Type 0) : Type 0 where
  pub none : (l : Line) → On l → Has [] l
  pub both : (cs ds : List Change) (l : Line) → On l → Has cs l → Has ds (apply_all cs l) → Has (cs ++ ds) l
  pub kept : (cs : List Change) (l : Line) → On l → Has cs l → On (apply_all cs l)

module _ (On : Line → Type 0) (Has : List Change → Line → Type 0) (closed : Closed On Has) where
  module _ {S : Type 0} (step : Step S) (has : (s : S) (l : Line) (i g : ℕ) (e : Bool) → On l → Has (step s l i g e).changes l) where
    pass-has : (turns : ℕ) (s : S) (l : Line) (i : ℕ) → On l → Has (pass_from step turns s l i).changes l
    unfolding pass_from
    pass-has zero s l i on = closed.none l on
    pass-has (suc turns) s l i on =
        let here = has s l i _ false on in
        let then =
        pass-has turns (step_at step s l i).state (apply_all (step_at step s l i).changes l) (i + (step_at step s l i).advance)
        (closed.kept (step_at step s l i).changes l on here) in
        ⊎_elim
        (λ (h : i < l.used). go h then (is_done (step_at step s l i).answer) refl)
        (λ (h : l.used ≤ i). subst⁻¹ (λ (w : Passed). Has w.changes l) (turn_ends step turns s l i h) (has s l l.used deleted true on))
        (lt-or-ge i l.used)
      where
        go : i < l.used
            → Has (pass_from step turns (step_at step s l i).state (apply_all (step_at step s l i).changes l) (i + (step_at step s l i).advance)).changes
            (apply_all (step_at step s l i).changes l)
            → (t : Bool) → is_done (step_at step s l i).answer ≡ t → Has (pass_from step (suc turns) s l i).changes l
        go h f true e =
            subst⁻¹ (λ (w : Passed). Has w.changes l) (turn_goes step turns s l i h e) (closed.both _ _ l on (has s l i _ false on) f)
        go h f false e = subst⁻¹ (λ (w : Passed). Has w.changes l) (turn_stops step turns s l i h e) (has s l i _ false on)

  -- a call of a pass
  pub call_has : (subtable : Subtable) → ((bytes : List ℕ) (l : Line) → On l → Has (subtable.worked bytes l).changes l) → (table : List ℕ) (start : ℕ)
      (l : Line) → On l → Has (pass_call subtable table start l).changes l
  unfolding pass_call
  call_has subtable has table start l on =
      if_passed_lem (λ (p : Passed). Has p.changes l) refused_pass (λ why. closed.none l on)
      (refuse (pass_tests (length table) l (subtable.is_open (drop start table)))) (subtable.worked (drop start table) l) (has (drop start table) l on)

  module _ {S : Type 0} (machine : Machine S)
      (has : (classes : ℕ → ℕ) (bytes : List ℕ) (states : States) (s : S) (l : Line) (i g : ℕ) (e : Bool) → On l
      → Has (machine.step classes bytes states s l i g e).changes l) where
    -- a machine's pass
    pub worked-has : (bytes : List ℕ) (l : Line) → On l → Has ((subtable_of machine).worked bytes l).changes l
    unfolding passed passed_by
    worked-has bytes l on =
        on-made (λ (p : Passed). Has p.changes l) refused_pass (λ why. closed.none l on) (machine.opened bytes)
        (λ states. passed machine (body_of bytes) states l)
        (λ states.
        pass-has (machine.step (class_of (body_of bytes) states) (body_of bytes) states) (has (class_of (body_of bytes) states) (body_of bytes) states)
        (machine.rest machine.fresh l 0) machine.fresh l 0 on)

    -- a call of its step
    pub step-has : (table : List ℕ) (start : ℕ) (s : S) (l : Line) (index glyph : ℕ) (ends : Bool) → On l
        → Has (step_call machine table start s l index glyph ends).changes l
    unfolding step_call lone_step
    step-has table start s l index glyph ends on =
        let bytes : List ℕ = drop start table in
        let made : (Option States) = machine.opened bytes in
        let P : Stepped S → Type 0 = λ r. Has r.changes l in
        let refused : Refusal → Stepped S = λ why. record { answer = Answer'.Refused why; state = s; advance = 0; changes = [] } in
        if_passed_lem P refused (λ why. closed.none l on)
        (refuse (step_tests (length table) (line_test l ∷ []) l.used index (machine.state_tests s l.used) made)) _
        (on-made P refused (λ why. closed.none l on) made _
        (λ states. has (class_of (body_of bytes) states) (body_of bytes) states s l index glyph ends on))
