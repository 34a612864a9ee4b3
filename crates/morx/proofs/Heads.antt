-- A run counts the heads of the walk: all of them, 65,535 of more, or those up to and with the one that ran full.
use Prim.Native.Nat.{ℕ, zero, suc, ◌<◌}
use mathlib.Core.Path.{◌≡◌, refl, ◌∙◌, ap, subst⁻¹}
use mathlib.Core.Bool.{Bool, true, false}
use mathlib.Core.Logic.{◌⊎◌, inl, inr, ⊎_elim}
use mathlib.Core.List.{List, [], ◌∷◌}
use native.Mathlib.Omega.{arith}
use lib.ListN.{length, drop, take}
use Rattle.answers.specs.Limits.{head_limit}
use Rattle.answers.specs.declared.Answer.{Answer}
use Rattle.answers.specs.declared.Answer.TheVariants as Answer'
use Rattle.line.specs.Line.{Line}
use Rattle.machine.specs.Pass.{is_done}
use Rattle.chains.specs.Orders.{is_reversed}
use Rattle.chains.specs.Walk.{walk_of}
use Rattle.chains.specs.declared.Subtable.{Subtable}
use Rattle.chains.specs.declared.Head.{Head}
use Rattle.chains.specs.declared.Head.TheVariants as Head'
use Rattle.morx.specs.Kinds.{kind_of}
use Rattle.morx.specs.Run.{is_passed_over, settled_answer, turned_work, visit_subtable, visit, visit_leaves, flags_after, Ran, behind, run_over, ran}
use Rattle.morx.specs.Heads.{Counted}
use Rattle.morx.specs.declared.Choices.{Choices}
use Rattle.morx.proofs.Runs.{run_none, run-limit, run_stops, run-goes}

module _ (table : List ℕ) (choices : Choices) (requests : List ℕ) where
  -- a visit is DONE or FULL
  settled-one : (answer : Answer) → (settled_answer answer ≡ Answer'.Done) ⊎ (settled_answer answer ≡ Answer'.Full)
  settled-one Answer'.Full = inr refl
  settled-one Answer'.Done = inl refl
  settled-one Answer'.Nothing = inl refl
  settled-one Answer'.Ended = inl refl
  settled-one Answer'.Limit = inl refl
  settled-one (Answer'.Refused why) = inl refl

  subtable-one : (flags : ℕ) (s : Subtable) (l : Line) (b : Bool) → is_passed_over choices.edition flags s (drop s.place table) ≡ b
      → ((visit_subtable table choices flags s l).answer ≡ Answer'.Done) ⊎ ((visit_subtable table choices flags s l).answer ≡ Answer'.Full)
  unfolding visit_subtable
  subtable-one flags s l true e = inl (rw (e, visit_subtable))
  subtable-one flags s l false e =
      rw (e, visit_subtable)
      (settled-one (turned_work (is_reversed s.order choices.right_to_left) (kind_of choices.edition s.kind) (drop s.place table) l).answer)

  visit-one : (flags : ℕ) (head : Head) (l : Line)
      → ((visit table choices flags head l).answer ≡ Answer'.Done) ⊎ ((visit table choices flags head l).answer ≡ Answer'.Full)
  unfolding visit
  visit-one flags (Head'.Chain chain) l = inl refl
  visit-one flags (Head'.Subtable s) l = subtable-one flags s l (is_passed_over choices.edition flags s (drop s.place table)) refl

  -- what a run over heads counts of them
  pub record Fills (left flags : ℕ) (heads : List Head) (l : Line) (r : Ran) : Type 0 where
    pub before : ℕ
    pub counted : r.heads ≡ suc before
    pub within : before < length heads
    pub done-before : (run_over table choices left flags (take before heads) l requests).answer ≡ Answer'.Done
    pub full-there : run_over table choices left flags (take (suc before) heads) l requests ≡ r

  pub record Counts (left flags : ℕ) (heads : List Head) (l : Line) (r : Ran) : Type 0 where
    pub answers : (r.answer ≡ Answer'.Done) ⊎ ((r.answer ≡ Answer'.Full) ⊎ (r.answer ≡ Answer'.Limit))
    pub done : r.answer ≡ Answer'.Done → r.heads ≡ length heads
    pub limit : r.answer ≡ Answer'.Limit → (r.heads ≡ left) × (left < length heads)
    pub full : r.answer ≡ Answer'.Full → Fills left flags heads l r

  -- which answer it is
  differ : {A : Type 0} {a : Answer} → a ≡ Answer'.Done → a ≡ Answer'.Full → A
  differ e f = let z : ◌≡◌ {A = ℕ} 0 1 = cc in absurd (omega arith)

  differ_limit : {A : Type 0} {a : Answer} → a ≡ Answer'.Done → a ≡ Answer'.Limit → A
  differ_limit e f = let z : ◌≡◌ {A = ℕ} 0 1 = cc in absurd (omega arith)

  full-limit : {A : Type 0} {a : Answer} → a ≡ Answer'.Full → a ≡ Answer'.Limit → A
  full-limit e f = let z : ◌≡◌ {A = ℕ} 0 1 = cc in absurd (omega arith)

  counts-none : (left flags : ℕ) (l : Line) → Counts left flags [] l (run_over table choices left flags [] l requests)
  counts-none left flags l =
      subst⁻¹ (Counts left flags [] l) (run_none table choices left flags l requests)
      (record { answers = inl refl; done = λ e. refl; limit = λ e. differ_limit {a = Answer'.Done} refl e; full = λ e. differ {a = Answer'.Done} refl e })

  counts-limit : (flags : ℕ) (head : Head) (heads : List Head) (l : Line) → Counts 0 flags (head ∷ heads) l (run_over table choices 0 flags (head ∷ heads) l requests)
  counts-limit flags head heads l =
      subst⁻¹ (Counts 0 flags (head ∷ heads) l) (run-limit table choices 0 flags l requests head heads)
      (record {
        answers = inr (inr refl);
        done = λ e. differ_limit {a = Answer'.Limit} e refl;
        limit = λ e. (refl, omega arith);
        full = λ e. full-limit {a = Answer'.Limit} e refl;
      })

  module _ (left flags : ℕ) (head : Head) (heads : List Head) (l : Line) where
    first-none : (n : ℕ) → (run_over table choices n flags (take 0 (head ∷ heads)) l requests).answer ≡ Answer'.Done
    first-none n = ap (λ (r : Ran). r.answer) (run_none table choices n flags l requests)

    counts-stop : (visit table choices flags head l).answer ≡ Answer'.Full
        → Counts (suc left) flags (head ∷ heads) l (run_over table choices (suc left) flags (head ∷ heads) l requests)
    counts-stop e =
        let stops : is_done (visit table choices flags head l).answer ≡ false = ap is_done e in
        let over : Ran = record { answer = (visit table choices flags head l).answer; changes = (visit table choices flags head l).changes; heads = 1 } in
        subst⁻¹ (Counts (suc left) flags (head ∷ heads) l) (run_stops table choices left flags l requests head heads stops)
        (record {
          answers = inr (inl e);
          done = λ f. differ f e;
          limit = λ f. full-limit e f;
          full = λ f.
              record {
                before = 0;
                counted = refl;
                within = omega arith;
                done-before = first-none (suc left);
                full-there = run_stops table choices left flags l requests head [] stops;
              };
        })

    counts_go : (visit table choices flags head l).answer ≡ Answer'.Done
        → Counts left (flags_after table head flags requests) heads (visit_leaves table choices flags head l)
        (run_over table choices left (flags_after table head flags requests) heads (visit_leaves table choices flags head l) requests)
        → Counts (suc left) flags (head ∷ heads) l (run_over table choices (suc left) flags (head ∷ heads) l requests)
    counts_go e c =
        let goes : is_done (visit table choices flags head l).answer ≡ true = ap is_done e in
        let rest : Ran = run_over table choices left (flags_after table head flags requests) heads (visit_leaves table choices flags head l) requests in
        subst⁻¹ (Counts (suc left) flags (head ∷ heads) l) (run-goes table choices left flags l requests head heads goes)
        (record {
          answers = c.answers;
          done = λ f. ap suc (c.done f);
          limit = λ f. let (n, m) = c.limit f in (ap suc n, omega (arith, m));
          full = λ f.
              let fills = c.full f in
              record {
                before = suc fills.before;
                counted = ap suc fills.counted;
                within = omega (arith, fills.within);
                done-before =
                    ap (λ (r : Ran). r.answer) (run-goes table choices left flags l requests head (take fills.before heads) goes) ∙ fills.done-before;
                full-there =
                    run-goes table choices left flags l requests head (take (suc fills.before) heads) goes
                    ∙ ap (behind (visit table choices flags head l).changes) fills.full-there;
              };
        })

  pub counts : (left flags : ℕ) (heads : List Head) (l : Line) → Counts left flags heads l (run_over table choices left flags heads l requests)
  counts left flags [] l = counts-none left flags l
  counts zero flags (head ∷ heads) l = counts-limit flags head heads l
  counts (suc left) flags (head ∷ heads) l =
      ⊎_elim
      (λ (e : (visit table choices flags head l).answer ≡ Answer'.Done).
      counts_go left flags head heads l e (counts left (flags_after table head flags requests) heads (visit_leaves table choices flags head l)))
      (λ (e : (visit table choices flags head l).answer ≡ Answer'.Full). counts-stop left flags head heads l e)
      (visit-one flags head l)

-- the run of a table
pub heads-counted : (table : List ℕ) (start : ℕ) (choices : Choices) (l : Line) (requests : List ℕ) → Counted table start choices l requests (ran table start choices l requests)
unfolding ran
heads-counted table start choices l requests =
    let c = counts table choices requests head_limit 0 (walk_of choices.edition table start) l in
    record {
      answers = c.answers;
      done = c.done;
      limit = c.limit;
      full = λ e.
          let f = c.full e in
          record { before = f.before; counted = f.counted; within = f.within; done-before = f.done-before; full-there = f.full-there };
    }
