-- The loop of a pass, for any machine: what is left to do, after the changes made, gives what the whole pass gives.
use Prim.Native.Nat.{ℕ, zero, suc, ◌+◌, ◌<◌, ◌≤◌}
use mathlib.Core.Path.{◌≡◌, refl, sym, ◌∙◌, ap}
use mathlib.Core.Bool.{true, false}
use mathlib.Core.List.{List, [], ◌++◌, append_assoc}
use native.Mathlib.Omega.{arith}
use borrow.Author.Tests.{lt-ltb, le-ltb}
use Rattle.answers.specs.declared.Answer.{Answer}
use Rattle.line.specs.Line.{Line}
use Rattle.line.specs.Changes.{Change, apply_all}
use Rattle.line.proofs.Histories.{apply_all-append}
use Rattle.machine.specs.Pass.{Step, Passed, after, is_done, step_at, end_call, pass_from}

module _ {S : Type 0} (machine : Step S) where
  -- one turn, by the answer of its step
  module _ (turns : ℕ) (s : S) (l : Line) (i : ℕ) where
    pub turn_goes : i < l.used → is_done (step_at machine s l i).answer ≡ true
        → pass_from machine (suc turns) s l i
        ≡ after (step_at machine s l i).changes (pass_from machine turns (step_at machine s l i).state (apply_all (step_at machine s l i).changes l) (i + (step_at machine s l i).advance))
    unfolding pass_from
    turn_goes h e = rw (lt-ltb i l.used h, e, pass_from)

    pub turn_stops : i < l.used → is_done (step_at machine s l i).answer ≡ false
        → pass_from machine (suc turns) s l i ≡ record { answer = (step_at machine s l i).answer; changes = (step_at machine s l i).changes }
    unfolding pass_from
    turn_stops h e = rw (lt-ltb i l.used h, e, pass_from)

    pub turn_ends : l.used ≤ i → pass_from machine (suc turns) s l i ≡ record { answer = (end_call machine s l).answer; changes = (end_call machine s l).changes }
    unfolding pass_from
    turn_ends h = rw (le-ltb i l.used h, pass_from)

  -- how many steps may be left at most, as the machine counts them
  module _ (rest : S → Line → ℕ → ℕ) (l₀ : Line) (whole : Passed) where
    pub record Passing (s : S) (l : Line) (i : ℕ) : Type 0 where
      pub turns : ℕ
      pub enough : rest s l i ≤ turns
      pub done : List Change
      pub at : l ≡ apply_all done l₀
      pub same : after done (pass_from machine turns s l i) ≡ whole

    -- what a pass that ends here answers and leaves
    pub record Over (answer : Answer) (l : Line) : Type 0 where
      pub answers : answer ≡ whole.answer
      pub leaves : l ≡ apply_all whole.changes l₀

    more : (n m : ℕ) → m ≤ n → 0 < m → (k : ℕ) × (n ≡ suc k)
    more zero m h p = absurd (omega arith)
    more (suc n) m h p = (n, refl)

    module _ {s : S} {l : Line} {i : ℕ} (p : Passing s l i) (some : 0 < rest s l i) where
      one_more : (k : ℕ) × (p.turns ≡ suc k)
      one_more = more p.turns (rest s l i) p.enough some

      whole_is : (k : ℕ) → p.turns ≡ suc k → (r : Passed) → pass_from machine (suc k) s l i ≡ r → after p.done r ≡ whole
      whole_is k e r f = ap (after p.done) (sym (rw e f)) ∙ p.same

      left : (changes : List Change) → apply_all changes l ≡ apply_all (p.done ++ changes) l₀
      left changes = ap (apply_all changes) p.at ∙ sym (apply_all-append p.done changes l₀)

      over : (r : Passed) → after p.done r ≡ whole → Over r.answer (apply_all r.changes l)
      over r e =
          record {
            answers = ap (λ (w : Passed). w.answer) e;
            leaves = left r.changes ∙ ap (λ (w : Passed). apply_all w.changes l₀) e;
          }

      -- a step that is DONE goes on
      pub passing_step : i < l.used → is_done (step_at machine s l i).answer ≡ true
          → rest (step_at machine s l i).state (apply_all (step_at machine s l i).changes l) (i + (step_at machine s l i).advance) < rest s l i
          → Passing (step_at machine s l i).state (apply_all (step_at machine s l i).changes l) (i + (step_at machine s l i).advance)
      passing_step h e less =
          let (k, f) = one_more in
          let made = (step_at machine s l i).changes in
          let then : Passed = pass_from machine k (step_at machine s l i).state (apply_all made l) (i + (step_at machine s l i).advance) in
          record {
            turns = k;
            enough = omega (arith, p.enough, f, less);
            done = p.done ++ made;
            at = left made;
            same = ap (λ (c : List Change). record { answer = then.answer; changes = c }) (append_assoc p.done made then.changes)
                ∙ whole_is k f (after made then) (turn_goes k s l i h e);
          }

      -- any other ends the pass
      pub passing_stop : i < l.used → is_done (step_at machine s l i).answer ≡ false
          → Over (step_at machine s l i).answer (apply_all (step_at machine s l i).changes l)
      passing_stop h e =
          let (k, f) = one_more in
          let r : Passed = record { answer = (step_at machine s l i).answer; changes = (step_at machine s l i).changes } in
          over r (whole_is k f r (turn_stops k s l i h e))

      -- and so does the end call
      pub passing_end : l.used ≤ i → Over (end_call machine s l).answer (apply_all (end_call machine s l).changes l)
      passing_end h =
          let (k, f) = one_more in
          let r : Passed = record { answer = (end_call machine s l).answer; changes = (end_call machine s l).changes } in
          over r (whole_is k f r (turn_ends k s l i h))

  pub passing_start : (rest : S → Line → ℕ → ℕ) (turns : ℕ) (s : S) (l : Line) → rest s l 0 ≤ turns
      → Passing rest l (pass_from machine turns s l 0) s l 0
  unfolding apply_all
  passing_start rest turns s l h = record { turns = turns; enough = h; done = []; at = refl; same = refl }
