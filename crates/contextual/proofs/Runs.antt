-- The entries of a step: what is left to do, after the writes made, gives what the whole step gives.
use Rattle.std.specs.Prelude.{Option, Some, None}
use Prim.Native.Nat.{ℕ, zero, suc, ◌-◌, ◌<◌, ◌≤◌}
use mathlib.Core.Path.{◌≡◌, refl, sym, ◌∙◌, ap, subst}
use mathlib.Core.Bool.{Bool, true, false, not}
use mathlib.Core.List.{List, [], ◌++◌}
use native.Mathlib.Omega.{arith}
use lib.ListN.{length}
use borrow.Author.Tests.{not-true, not-false}
use Rattle.answers.specs.declared.Answer.{Answer}
use Rattle.answers.specs.declared.Answer.TheVariants as Answer'
use Rattle.state_tables.specs.declared.States.{States}
use Rattle.state_tables.specs.declared.entries.Entry.{Entry}
use Rattle.state_tables.specs.Entries.{entry_of, on_entry}
use Rattle.state_tables.specs.Opened.{Remembers}
use Rattle.laws.specs.Bits.{is_set}
use Rattle.machine.specs.Entry.{class_here}
use Rattle.contextual.specs.Substitutes.{Write, writes_of}
use Rattle.contextual.specs.Contextual.{idle, begun, acted, Ran, over, entry_writes, ran, next, stepped}
use Rattle.contextual.specs.Work.{written_all, step_of}
use Rattle.machine.specs.Pass.{advance_of}
use Rattle.contextual.specs.declared.Acted.{Acted}
use Rattle.contextual.specs.declared.ContextualState.{ContextualState}
use Rattle.contextual.specs.declared.ContextualStep.{ContextualStep}
use Rattle.contextual.proofs.Writes.{written-append}

-- one entry, by what it is
module _ (classes : ℕ → ℕ) (bytes : List ℕ) (states : States) (index left : ℕ) (s : ContextualState) (class current : ℕ) (done : List Write) where
  ran-ended : entry_of bytes states s.state class 4 ≡ None
      → ran classes bytes states index (suc left) s class current done ≡ over Answer'.Ended s done
  unfolding ran
  ran-ended e = rw (e, ran)

  module _ (entry : Entry) (e : entry_of bytes states s.state class 4 ≡ Some entry) where
    ran_stops : is_set entry.flags 0x4000 ≡ false
        → ran classes bytes states index (suc left) s class current done
        ≡ over Answer'.Done (acted bytes s entry index current).state (done ++ entry_writes s index (acted bytes s entry index current))
    unfolding ran
    ran_stops f = rw (e, ran, on_entry) (rw f)

    ran-goes : is_set entry.flags 0x4000 ≡ true
        → ran classes bytes states index (suc left) s class current done
        ≡ ran classes bytes states index left (acted bytes s entry index current).state (classes (acted bytes s entry index current).current)
        (acted bytes s entry index current).current (done ++ entry_writes s index (acted bytes s entry index current))
    unfolding ran
    ran-goes f = rw (e, ran, on_entry) (rw f)

pub more : (n : ℕ) → 0 < n → n ≡ suc (n - 1)
more zero h = absurd (omega arith)
more (suc n) h = omega arith

module _ (classes : ℕ → ℕ) (bytes : List ℕ) (states : States) (index used : ℕ) (glyphs₀ : List ℕ) (whole : Ran) where
  -- what the loop knows with so many entries left
  pub record Running (kept : ℕ → ℕ) (memo glyphs : List ℕ) (s : ContextualState) (current : ℕ) (ends : Bool) (left : ℕ) : Type 0 where
    pub done : List Write
    pub same : ran classes bytes states index left s (class_here classes current ends) current done ≡ whole
    pub made : glyphs ≡ written_all used done glyphs₀
    pub long : length glyphs ≡ length glyphs₀
    pub memory : Remembers kept memo

  -- a step that ends here
  pub record Over (answer : Answer) (s : ContextualState) (glyphs : List ℕ) : Type 0 where
    pub writes : List Write
    pub is : over answer s writes ≡ whole
    pub left : glyphs ≡ written_all used writes glyphs₀

  module _ {kept : ℕ → ℕ} {memo glyphs : List ℕ} {s : ContextualState} {current : ℕ} {ends : Bool} {left : ℕ} (r : Running kept memo glyphs s current ends left) where
    pub running_out : left ≤ 0 → Over Answer'.Done s glyphs
    unfolding ran
    running_out h =
        let n : left ≡ 0 = omega arith in
        record { writes = r.done; is = subst (λ (k : ℕ). ran classes bytes states index k s (class_here classes current ends) current r.done ≡ whole) n r.same; left = r.made }

    module _ (h : 0 < left) {class : ℕ} {e : (Option Entry)} (k : class ≡ class_here classes current ends) (f : e ≡ entry_of bytes states s.state class 4) where
      from_here : ran classes bytes states index (suc (left - 1)) s class current r.done ≡ whole
      from_here =
          ap (λ (x : ℕ). ran classes bytes states index (suc (left - 1)) s x current r.done) k
          ∙ subst (λ (n : ℕ). ran classes bytes states index n s (class_here classes current ends) current r.done ≡ whole) (more left h) r.same

      pub running_ended : e ≡ None → Over Answer'.Ended s glyphs
      running_ended g =
          record {
            writes = r.done;
            is = sym (ran-ended classes bytes states index (left - 1) s class current r.done (sym f ∙ g)) ∙ from_here;
            left = r.made;
          }

      module _ {entry : Entry} {a : Acted} {glyphs₁ glyphs₂ : List ℕ} {flag : Bool} (g : e ≡ Some entry)
          (ae : a ≡ acted bytes s entry index current) (w₁ : glyphs₁ ≡ written_all used (writes_of s.mark_index a.mark) glyphs)
          (w₂ : glyphs₂ ≡ written_all used (writes_of index a.own) glyphs₁) (b : flag ≡ is_set entry.flags 0x4000) where
        made_after : glyphs₂ ≡ written_all used (r.done ++ entry_writes s index a) glyphs₀
        made_after =
            let mark = writes_of s.mark_index a.mark in
            let own = writes_of index a.own in
            w₂ ∙ ap (written_all used own) (w₁ ∙ ap (written_all used mark) r.made)
            ∙ sym (written-append used mark own (written_all used r.done glyphs₀))
            ∙ sym (written-append used r.done (mark ++ own) glyphs₀)

        pub running_stops : not flag ≡ true → Over Answer'.Done a.state glyphs₂
        running_stops n =
            record {
              writes = r.done ++ entry_writes s index a;
              is = ap (λ (x : Acted). over Answer'.Done x.state (r.done ++ entry_writes s index x)) ae
                  ∙ sym (ran_stops classes bytes states index (left - 1) s class current r.done entry (sym f ∙ g) (sym b ∙ not-true flag n))
                  ∙ from_here;
              left = made_after;
            }

        pub running_goes : {memo' : List ℕ} {left' : ℕ} → left' ≡ left - 1 → not flag ≡ false → Remembers kept memo' → length glyphs₁ ≡ length glyphs
            → length glyphs₂ ≡ length glyphs₁ → Running kept memo' glyphs₂ a.state a.current false left'
        unfolding class_here
        running_goes fewer n m l₁ l₂ =
            rw fewer
            (record {
              done = r.done ++ entry_writes s index a;
              same = ap (λ (x : Acted). ran classes bytes states index (left - 1) x.state (classes x.current) x.current (r.done ++ entry_writes s index x)) ae
                  ∙ sym (ran-goes classes bytes states index (left - 1) s class current r.done entry (sym f ∙ g) (sym b ∙ not-false flag n))
                  ∙ from_here;
              made = made_after;
              long = l₂ ∙ l₁ ∙ r.long;
              memory = m;
            })

pub running_start : (classes : ℕ → ℕ) (bytes : List ℕ) (states : States) (index used : ℕ) (memo glyphs : List ℕ) (s : ContextualState) (current : ℕ) (ends : Bool) (left : ℕ)
    {kept : ℕ → ℕ} → Remembers kept memo
    → Running classes bytes states index used glyphs (ran classes bytes states index left s (class_here classes current ends) current []) kept memo glyphs s current ends left
unfolding written_all
running_start classes bytes states index used memo glyphs s current ends left m = record { done = []; same = refl; made = refl; long = refl; memory = m }

-- what a step answers and leaves
pub record Ends (used : ℕ) (glyphs₀ : List ℕ) (whole : Ran) (step : ContextualStep) (glyphs : List ℕ) : Type 0 where
  pub answers : step ≡ step_of (stepped whole)
  pub left : glyphs ≡ written_all used whole.writes glyphs₀

module _ (classes : ℕ → ℕ) (bytes : List ℕ) (states : States) (s : ContextualState) (index glyph : ℕ) (ends : Bool) {idles : Bool} (i : idles ≡ idle s ends) where
  pub next-idle : (used : ℕ) (glyphs : List ℕ) → idles ≡ true
      → Ends used glyphs (next classes bytes states s index glyph ends) (record { answer = Answer'.Done; state = s; advance = 1 }) glyphs
  unfolding next written_all
  next-idle used glyphs e = rw (sym i ∙ e, next) (record { answers = refl; left = refl })

  module _ {s₀ : ContextualState} (n : idles ≡ false) (b : s₀ ≡ begun s index glyph ends) where
    next_runs : ran classes bytes states index 18 s₀ (class_here classes glyph ends) glyph [] ≡ next classes bytes states s index glyph ends
    unfolding next
    next_runs = rw b (sym (rw (sym i ∙ n, next)))

    pub next-over : {used : ℕ} {glyphs₀ glyphs : List ℕ} {answer : Answer} {s' : ContextualState}
        → Over classes bytes states index used glyphs₀ (ran classes bytes states index 18 s₀ (class_here classes glyph ends) glyph []) answer s' glyphs
        → Ends used glyphs₀ (next classes bytes states s index glyph ends) (record { answer = answer; state = s'; advance = advance_of answer }) glyphs
    next-over {used} {glyphs₀} o =
        let e = o.is ∙ next_runs in
        record {
          answers = ap (λ (x : Ran). step_of (stepped x)) e;
          left = o.left ∙ ap (λ (x : Ran). written_all used x.writes glyphs₀) e;
        }
