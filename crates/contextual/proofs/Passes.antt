-- Steps one after the other: what is left to do, after the writes made, gives what all of them give. One is a lone step; one for each place
-- and one more are the pass.
use Prim.Native.Nat.{ℕ, zero, suc, ◌+◌, ◌-◌, ◌<◌, ◌≤◌}
use mathlib.Core.Path.{◌≡◌, refl, sym, ◌∙◌, ap, subst}
use mathlib.Core.Bool.{Bool, true, false}
use mathlib.Core.List.{List, [], ◌++◌, append-nil, append_assoc}
use native.Mathlib.Omega.{arith}
use lib.Dec.{eqb, leb}
use lib.ListN.{length, get_or}
use borrow.Author.Tests.{lt-ltb, le-ltb, lt-leb, le-leb, ne_eqb}
use Rattle.answers.specs.declared.Answer.{Answer}
use Rattle.answers.specs.declared.Answer.TheVariants as Answer'
use Rattle.state_tables.specs.declared.States.{States}
use Rattle.state_tables.specs.Classes.{class_of}
use Rattle.state_tables.specs.Opened.{opened_classes, class_by, Remembers}
use Rattle.state_tables.specs.declared.opened.Classes.{Classes}
use Rattle.line.specs.Line.{Line, line_of}
use Rattle.line.specs.Changes.{Change, apply_all}
use Rattle.machine.specs.Pass.{Passed, deleted, is_done, advance_of, after, pass_from}
use Rattle.machine.specs.Machine.{passed_by, passed}
use Rattle.machine.specs.Work.{passed_leaves, glyph_at}
use Rattle.machine.proofs.Passing.{turn_goes, turn_stops, turn_ends}
use Rattle.indexes.specs.Index.{classes_by, indexed}
use Rattle.indexes.proofs.Laws.{opened-index}
use Rattle.contextual.specs.Substitutes.{Write, changes_of}
use Rattle.contextual.specs.Contextual.{fresh, Ran, over, next, stepped}
use Rattle.contextual.specs.Calls.{contextual}
use Rattle.contextual.specs.Work.{written_all, step_of, after_writes, ran_all}
use Rattle.contextual.specs.declared.ContextualState.{ContextualState}
use Rattle.contextual.specs.declared.ContextualStep.{ContextualStep}
use Rattle.contextual.proofs.Writes.{written-append, changes-append, written-line}
use Rattle.contextual.proofs.Runs.{Ends, more}
use Rattle.contextual.proofs.Turns.{advances}

no : false ≡ true → ⊥
no p = let z : ◌≡◌ {A = ℕ} 0 1 = cc in omega arith

is_done_lem : (answer : Answer) → is_done answer ≡ true → answer ≡ Answer'.Done
is_done_lem Answer'.Done e = refl
is_done_lem Answer'.Nothing e = absurd (no e)
is_done_lem Answer'.Full e = absurd (no e)
is_done_lem Answer'.Ended e = absurd (no e)
is_done_lem Answer'.Limit e = absurd (no e)
is_done_lem (Answer'.Refused why) e = absurd (no e)

after_both : (ds ws : List Write) (r : Ran) → after_writes (ds ++ ws) r ≡ after_writes ds (after_writes ws r)
after_both ds ws r = ap (over r.answer r.state) (append_assoc ds ws r.writes)

abbrev pass_of : Ran → Passed
pass_of r = record { answer = r.answer; changes = changes_of r.writes }

pass-after : (ws : List Write) (r : Ran) → after (changes_of ws) (pass_of r) ≡ pass_of (after_writes ws r)
pass-after ws r = ap (λ (cs : List Change). record { answer = r.answer; changes = cs }) (sym (changes-append ws r.writes))

module _ (classes : ℕ → ℕ) (bytes : List ℕ) (states : States) (used : ℕ) where
  abbrev at : ContextualState → (place glyph : ℕ) → Bool → Ran
  at s place glyph ends = next classes bytes states s place glyph ends

  abbrev all : (steps : ℕ) → ContextualState → (glyphs : List ℕ) → (place glyph : ℕ) → Bool → Ran
  all steps s glyphs place glyph ends = ran_all classes bytes states used steps s glyphs place glyph ends

  -- the steps from a place on
  abbrev from : (steps : ℕ) → ContextualState → (glyphs : List ℕ) → (place : ℕ) → Ran
  from steps s glyphs place = all steps s glyphs place (glyph_at glyphs used place) (leb used place)

  -- one step more, by its answer
  module _ (steps : ℕ) (s : ContextualState) (glyphs : List ℕ) (place glyph : ℕ) (ends : Bool) where
    all_stops : is_done (at s place glyph ends).answer ≡ false → all (suc steps) s glyphs place glyph ends ≡ at s place glyph ends
    unfolding ran_all
    all_stops e = rw (e, ran_all)

    all-goes : is_done (at s place glyph ends).answer ≡ true
        → all (suc steps) s glyphs place glyph ends
        ≡ after_writes (at s place glyph ends).writes
        (from steps (at s place glyph ends).state (written_all used (at s place glyph ends).writes glyphs) (place + 1))
    unfolding ran_all
    all-goes e = rw (e, ran_all)

  module _ (glyphs₀ : List ℕ) (whole : Ran) where
    -- what the loop knows with so many steps left
    pub record Going (kept : ℕ → ℕ) (memo glyphs : List ℕ) (s : ContextualState) (place glyph : ℕ) (ends : Bool) (left : ℕ) : Type 0 where
      pub done : List Write
      pub same : after_writes done (all left s glyphs place glyph ends) ≡ whole
      pub made : glyphs ≡ written_all used done glyphs₀
      pub long : length glyphs ≡ length glyphs₀
      pub within : place + left ≤ used + 1
      pub memory : Remembers kept memo

    module _ {kept : ℕ → ℕ} {memo glyphs : List ℕ} {s : ContextualState} {place glyph : ℕ} {ends : Bool} {left : ℕ} (g : Going kept memo glyphs s place glyph ends left) where
      pub going_out : left ≤ 0 → Ends used glyphs₀ whole (record { answer = Answer'.Done; state = s; advance = 1 }) glyphs
      unfolding ran_all
      going_out h =
          let n : left ≡ 0 = omega arith in
          let is : over Answer'.Done s g.done ≡ whole =
          ap (over Answer'.Done s) (sym (append-nil g.done))
          ∙ subst (λ (k : ℕ). after_writes g.done (all k s glyphs place glyph ends) ≡ whole) n g.same in
          record {
            answers = ap (λ (x : Ran). step_of (stepped x)) is;
            left = g.made ∙ ap (λ (x : Ran). written_all used x.writes glyphs₀) is;
          }

      module _ (h : 0 < left) {step : ContextualStep} {glyphs' : List ℕ} (e : step ≡ step_of (stepped (at s place glyph ends)))
          (p : glyphs' ≡ written_all used (at s place glyph ends).writes glyphs) where
        from_here : after_writes g.done (all (suc (left - 1)) s glyphs place glyph ends) ≡ whole
        from_here = subst (λ (k : ℕ). after_writes g.done (all k s glyphs place glyph ends) ≡ whole) (more left h) g.same

        made_after : glyphs' ≡ written_all used (g.done ++ (at s place glyph ends).writes) glyphs₀
        made_after =
            let ws = (at s place glyph ends).writes in
            p ∙ ap (written_all used ws) g.made ∙ sym (written-append used g.done ws glyphs₀)

        pub going_stops : is_done step.answer ≡ false → Ends used glyphs₀ whole (record { answer = step.answer; state = step.state; advance = 0 }) glyphs'
        going_stops f =
            let one = at s place glyph ends in
            let stops : is_done one.answer ≡ false = subst (λ (x : ContextualStep). is_done x.answer ≡ false) e f in
            let stays : 0 ≡ advance_of one.answer = rw stops in
            let is : after_writes g.done one ≡ whole = ap (after_writes g.done) (sym (all_stops (left - 1) s glyphs place glyph ends stops)) ∙ from_here in
            record {
              answers = ap (λ (x : ContextualStep). record { answer = x.answer; state = x.state; advance = 0 }) e
                  ∙ ap (λ (n : ℕ). record { answer = one.answer; state = one.state; advance = n }) stays
                  ∙ ap (λ (x : Ran). step_of (stepped x)) is;
              left = made_after ∙ ap (λ (x : Ran). written_all used x.writes glyphs₀) is;
            }

        pub going_goes : {memo' : List ℕ} {glyph' left' : ℕ} → left' ≡ left - 1 → is_done step.answer ≡ true → Remembers kept memo' → length glyphs' ≡ length glyphs
            → glyph' ≡ glyph_at glyphs' used (place + 1) → Going kept memo' glyphs' step.state (place + 1) glyph' (leb used (place + 1)) left'
        going_goes {memo'} {glyph'} fewer f m len q =
            let one = at s place glyph ends in
            let made = g.done ++ one.writes in
            let goes : is_done one.answer ≡ true = subst (λ (x : ContextualStep). is_done x.answer ≡ true) e f in
            rw fewer
            (record {
              done = made;
              same = ap (λ (x : ℕ). after_writes made (all (left - 1) step.state glyphs' (place + 1) x (leb used (place + 1)))) q
                  ∙ ap (λ (x : ContextualStep). after_writes made (from (left - 1) x.state glyphs' (place + 1))) e
                  ∙ ap (λ (x : List ℕ). after_writes made (from (left - 1) one.state x (place + 1))) p
                  ∙ after_both g.done one.writes (from (left - 1) one.state (written_all used one.writes glyphs) (place + 1))
                  ∙ ap (after_writes g.done) (sym (all-goes (left - 1) s glyphs place glyph ends goes))
                  ∙ from_here;
              made = made_after;
              long = len ∙ g.long;
              within = omega (arith, g.within, h);
              memory = m;
            })

  pub going_start : (memo glyphs : List ℕ) (s : ContextualState) (place glyph : ℕ) (ends : Bool) (steps : ℕ) {kept : ℕ → ℕ} {left : ℕ}
      → left ≡ steps → place + steps ≤ used + 1 → Remembers kept memo → Going glyphs (all steps s glyphs place glyph ends) kept memo glyphs s place glyph ends left
  unfolding written_all
  going_start memo glyphs s place glyph ends steps e h m = rw e (record { done = []; same = refl; made = refl; long = refl; within = h; memory = m })

  -- one step alone
  pub alone : (s : ContextualState) (glyphs : List ℕ) (place glyph : ℕ) (ends : Bool) → all 1 s glyphs place glyph ends ≡ at s place glyph ends
  unfolding ran_all
  alone s glyphs place glyph ends = go (is_done (at s place glyph ends).answer) refl
    where
      one : Ran
      one = at s place glyph ends

      go : (b : Bool) → is_done one.answer ≡ b → all 1 s glyphs place glyph ends ≡ one
      go false e = all_stops 0 s glyphs place glyph ends e
      go true e =
          all-goes 0 s glyphs place glyph ends e
          ∙ ap (λ (a : Answer). over a one.state (one.writes ++ [])) (sym (is_done_lem one.answer e))
          ∙ ap (over one.answer one.state) (append-nil one.writes)

  from_inside : (steps : ℕ) (s : ContextualState) (glyphs : List ℕ) (i : ℕ) → i < used → from steps s glyphs i ≡ all steps s glyphs i (get_or glyphs i 0) false
  unfolding glyph_at
  from_inside steps s glyphs i h = rw (lt-ltb i used h, lt-leb used i h)

  from_end : (steps : ℕ) (s : ContextualState) (glyphs : List ℕ) (i : ℕ) → i ≡ used → from steps s glyphs i ≡ all steps s glyphs used deleted true
  unfolding glyph_at
  from_end steps s glyphs i e = rw (e, le-ltb used used (omega arith), le-leb used used (omega arith))

  -- a step at each place from here on, and the end call
  all_pass : (left : ℕ) (s : ContextualState) (glyphs tags homes : List ℕ) (i : ℕ) → i + left ≡ used
      → pass_from (contextual.step classes bytes states) (suc left) s (line_of glyphs tags homes used) i ≡ pass_of (from (suc left) s glyphs i)
  all_pass zero s glyphs tags homes i e =
      turn_ends (contextual.step classes bytes states) 0 s (line_of glyphs tags homes used) i (omega (arith, e))
      ∙ ap pass_of (sym (from_end 1 s glyphs i (omega (arith, e)) ∙ alone s glyphs used deleted true))
  all_pass (suc left) s glyphs tags homes i e = go (all_pass left) (is_done one.answer) refl
    where
      one : Ran
      one = at s i (get_or glyphs i 0) false

      inside : i < used
      inside = omega (arith, e)

      pass : (steps : ℕ) → ContextualState → Line → ℕ → Passed
      pass steps s' l i' = pass_from (contextual.step classes bytes states) steps s' l i'

      go : ((s' : ContextualState) (glyphs' tags' homes' : List ℕ) (i' : ℕ) → i' + left ≡ used
          → pass (suc left) s' (line_of glyphs' tags' homes' used) i' ≡ pass_of (from (suc left) s' glyphs' i'))
          → (b : Bool) → is_done one.answer ≡ b
          → pass (suc (suc left)) s (line_of glyphs tags homes used) i ≡ pass_of (from (suc (suc left)) s glyphs i)
      go later false f =
          turn_stops (contextual.step classes bytes states) (suc left) s (line_of glyphs tags homes used) i inside f
          ∙ ap pass_of (sym (from_inside (suc (suc left)) s glyphs i inside ∙ all_stops (suc left) s glyphs i (get_or glyphs i 0) false f))
      go later true f =
          let ws = one.writes in
          let then = written_all used ws glyphs in
          turn_goes (contextual.step classes bytes states) (suc left) s (line_of glyphs tags homes used) i inside f
          ∙ ap (λ (l : Line). after (changes_of ws) (pass (suc left) one.state l (i + advance_of one.answer))) (sym (written-line used ws glyphs tags homes))
          ∙ ap (λ (n : ℕ). after (changes_of ws) (pass (suc left) one.state (line_of then tags homes used) (i + n))) (advances one.answer f)
          ∙ ap (after (changes_of ws)) (later one.state then tags homes (i + 1) (omega (arith, e)))
          ∙ pass-after ws (from (suc left) one.state then (i + 1))
          ∙ ap pass_of (sym (from_inside (suc (suc left)) s glyphs i inside ∙ all-goes (suc left) s glyphs i (get_or glyphs i 0) false f))

-- the classes of the table that was opened are the state table's own
pub own-ends : (lent bytes : List ℕ) (states : States) (used steps : ℕ) (s : ContextualState) (glyphs₀ : List ℕ) (place glyph : ℕ) (ends : Bool)
    {table : Classes} {step : ContextualStep} {glyphs : List ℕ} → table ≡ opened_classes bytes states.edition
    → Ends used glyphs₀ (ran_all (classes_by lent (class_by bytes table)) bytes states used steps s glyphs₀ place glyph ends) step glyphs
    → Ends used glyphs₀ (ran_all (classes_by lent (class_of bytes states)) bytes states used steps s glyphs₀ place glyph ends) step glyphs
own-ends lent bytes states used steps s glyphs₀ place glyph ends {step = step} {glyphs = glyphs} e r =
    subst (λ (classes : ℕ → ℕ). Ends used glyphs₀ (ran_all classes bytes states used steps s glyphs₀ place glyph ends) step glyphs)
    (opened-index lent bytes states e)
    r

-- what a pass answers and leaves
pub record PassEnds (index bytes : List ℕ) (states : States) (l : Line) (answer : Answer) (glyphs : List ℕ) : Type 0 where
  pub answers : answer ≡ (passed (indexed index contextual) bytes states l).answer
  pub left : glyphs ≡ (passed_leaves (indexed index contextual) bytes states l).glyphs

at-start : (used : ℕ) → leb used 0 ≡ eqb used 0
at-start zero = refl
at-start (suc n) = lt-leb (suc n) 0 (omega arith) ∙ sym (ne_eqb (suc n) 0 (λ e. omega (arith, e)))

module _ (index bytes : List ℕ) (states : States) (glyphs tags homes : List ℕ) (used : ℕ) where
  abbrev steps : ContextualState → (first : ℕ) → Ran
  steps s first = ran_all (classes_by index (class_of bytes states)) bytes states used (used + 1) s glyphs 0 first (eqb used 0)

  abbrev line : Line
  line = line_of glyphs tags homes used

  whole-pass : passed (indexed index contextual) bytes states line ≡ pass_of (steps fresh (glyph_at glyphs used 0))
  unfolding passed passed_by
  whole-pass =
      let n : (used - 0) + 1 ≡ suc used = omega arith in
      let m : suc used ≡ used + 1 = omega arith in
      let classes = classes_by index (class_of bytes states) in
      ap (λ (k : ℕ). pass_from (contextual.step classes bytes states) k fresh line 0) n
      ∙ all_pass classes bytes states used used fresh glyphs tags homes 0 (omega arith)
      ∙ ap (λ (k : ℕ). pass_of (ran_all classes bytes states used k fresh glyphs 0 (glyph_at glyphs used 0) (leb used 0))) m
      ∙ ap (λ (b : Bool). pass_of (ran_all classes bytes states used (used + 1) fresh glyphs 0 (glyph_at glyphs used 0) b)) (at-start used)

  pub pass-ends : {s : ContextualState} {first : ℕ} {step : ContextualStep} {glyphs' : List ℕ} → s ≡ fresh → first ≡ glyph_at glyphs used 0
      → step ≡ step_of (stepped (steps s first)) → glyphs' ≡ written_all used (steps s first).writes glyphs → PassEnds index bytes states line step.answer glyphs'
  unfolding passed_leaves
  pass-ends {s} {first} b f e p =
      let is : pass_of (steps s first) ≡ passed (indexed index contextual) bytes states line =
      ap (λ (x : ContextualState). pass_of (steps x first)) b ∙ ap (λ (x : ℕ). pass_of (steps fresh x)) f ∙ sym whole-pass in
      record {
        answers = ap (λ (x : ContextualStep). x.answer) e ∙ ap (λ (w : Passed). w.answer) is;
        left = p
            ∙ ap (λ (l : Line). l.glyphs) (written-line used (steps s first).writes glyphs tags homes)
            ∙ ap (λ (w : Passed). (apply_all w.changes line).glyphs) is;
      }
