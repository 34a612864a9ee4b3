-- The pass's loops: the shared laws of passes at this machine.
use Rattle.std.specs.Prelude.{Option, Some, None}
use Prim.Native.Nat.{ℕ, ◌+◌, ◌*◌, ◌-◌, ◌<◌, ◌≤◌}
use mathlib.Core.Path.{◌≡◌, refl, sym, ◌∙◌, ap, subst, subst⁻¹}
use mathlib.Core.Bool.{Bool, true, false}
use mathlib.Core.List.{List, []}
use native.Mathlib.Omega.{arith}
use lib.ListN.{length, get_or}
use Rattle.answers.specs.declared.Answer.{Answer}
use Rattle.answers.specs.declared.Answer.TheVariants as Answer'
use Rattle.state_tables.specs.declared.States.{States}
use Rattle.state_tables.specs.declared.entries.Entry.{Entry}
use Rattle.state_tables.specs.declared.opened.Classes.{Classes}
use Rattle.state_tables.specs.Classes.{class_of}
use Rattle.state_tables.specs.Entries.{entry_of}
use Rattle.state_tables.specs.Opened.{opened_classes, class_by, LiesIn, Remembers, nothing_found}
use Rattle.state_tables.proofs.Openings.{classes-same, classes-lie, deleted-class, nothing_remembered}
use Rattle.line.specs.Line.{Line, line_of}
use Rattle.line.specs.Changes.{apply, apply_all}
use Rattle.laws.specs.Bits.{is_set}
use Rattle.machine.specs.Entry.{class_here}
use Rattle.machine.specs.Stall.{stalled}
use Rattle.machine.specs.Pass.{deleted, is_done}
use Rattle.machine.specs.Machine.{Machine, passed_by, passed}
use Rattle.machine.specs.Work.{passed_leaves}
use Rattle.machine.proofs.Stalls.{stall_falls}
use Rattle.machine.proofs.Passing.{Passing, Over, passing_start, passing_step, passing_stop, passing_end}
use Rattle.indexes.specs.Index.{classes_by, indexed}
use Rattle.indexes.proofs.Laws.{past_index, indexed-none, opened-index}
use Rattle.rearrangement.specs.Rearrangement.{fresh, acted, unmoved, next, changes_of}
use Rattle.rearrangement.specs.Calls.{rearrangement}
use Rattle.rearrangement.specs.declared.RearrangementState.{RearrangementState}
use Rattle.rearrangement.specs.declared.RearrangementStep.{RearrangementStep}
use Rattle.rearrangement.specs.declared.Window.{Window}

-- an edit leaves homes and length
pub edited : (w : Option Window) (glyphs tags homes : List ℕ) (used : ℕ) {glyphs' tags' : List ℕ}
    → glyphs' ≡ (apply_all (changes_of w) (line_of glyphs tags homes used)).glyphs
    → tags' ≡ (apply_all (changes_of w) (line_of glyphs tags homes used)).tags
    → line_of glyphs' tags' homes used ≡ apply_all (changes_of w) (line_of glyphs tags homes used)
unfolding apply_all apply
edited None glyphs tags homes used g t = rw (g, t)
edited (Some w) glyphs tags homes used g t = rw (g, t)

-- a step that is DONE has gone by the stall rule
pub stalls : (classes : ℕ → ℕ) (bytes : List ℕ) (states : States) (s : RearrangementState) (index glyph : ℕ) (ends : Bool)
    → is_done (next classes bytes states s index glyph ends).answer ≡ true
    → (stays : Bool)
    × ((next classes bytes states s index glyph ends).state.cycles ≡ (stalled s.cycles stays).cycles)
    × ((next classes bytes states s index glyph ends).advance ≡ (stalled s.cycles stays).advance)
unfolding next acted
stalls classes bytes states s index glyph ends done = go (entry_of bytes states s.state (class_here classes glyph ends) 0) refl
  where
    go : (e : Option Entry) → entry_of bytes states s.state (class_here classes glyph ends) 0 ≡ e
        → (stays : Bool)
        × ((next classes bytes states s index glyph ends).state.cycles ≡ (stalled s.cycles stays).cycles)
        × ((next classes bytes states s index glyph ends).advance ≡ (stalled s.cycles stays).advance)
    go (Some entry) f = (is_set entry.flags 0x4000, rw (f, next), rw (f, next))
    go None f =
        let n : is_done (next classes bytes states s index glyph ends).answer ≡ false = rw (f, next) in
        let z : ◌≡◌ {A = ℕ} 0 1 = cc in absurd (omega arith)

-- an entry's answer is DONE
acted-done : (s : RearrangementState) (entry : Entry) (index : ℕ) {step : RearrangementStep} → step ≡ acted s entry index → is_done step.answer ≡ true
unfolding acted
acted-done s entry index a = rw (a, acted)

-- at end of text the classes are not asked
any_end : (f h : ℕ → ℕ) (bytes : List ℕ) (states : States) (s : RearrangementState) (index glyph : ℕ)
    → next f bytes states s index glyph true ≡ next h bytes states s index glyph true
unfolding next class_here
any_end f h bytes states s index glyph = refl

module _ (index bytes : List ℕ) (states : States) (l₀ : Line) where
  abbrev classes : ℕ → ℕ
  classes = classes_by index (class_of bytes states)

  -- what the loops know at place i
  pub record Going (opened : Classes) (memo glyphs tags homes : List ℕ) (used : ℕ) (s : RearrangementState) (i : ℕ) : Type 0 where
    pub table : opened ≡ opened_classes bytes states.edition
    pub remembers : Remembers (class_by bytes opened) memo
    pub passing : Passing (rearrangement.step classes bytes states) rearrangement.rest l₀ (passed (indexed index rearrangement) bytes states l₀) s (line_of glyphs tags homes used) i
    pub cycles : s.cycles ≤ 17
    pub within : i ≤ used
    pub long-glyphs : length glyphs ≡ length l₀.glyphs
    pub long-tags : length tags ≡ length l₀.tags

  -- what a pass that ends here answers and leaves
  pub record Ends (answer : Answer) (glyphs tags : List ℕ) : Type 0 where
    pub answers : answer ≡ (passed (indexed index rearrangement) bytes states l₀).answer
    pub glyphs-left : glyphs ≡ (passed_leaves (indexed index rearrangement) bytes states l₀).glyphs
    pub tags-left : tags ≡ (passed_leaves (indexed index rearrangement) bytes states l₀).tags

  module _ {opened : Classes} {memo glyphs tags homes : List ℕ} {used : ℕ} {s : RearrangementState} {i : ℕ} (g : Going opened memo glyphs tags homes used s i) where
    abbrev here : Line
    here = line_of glyphs tags homes used

    some : 0 < rearrangement.rest s here i
    some = omega (arith, g.cycles)

    pub going_lies : LiesIn bytes opened
    going_lies = subst⁻¹ (LiesIn bytes) g.table (classes-lie bytes states.edition)

    abbrev OverBy : RearrangementStep → Type 0
    OverBy step = Over (rearrangement.step classes bytes states) rearrangement.rest l₀ (passed (indexed index rearrangement) bytes states l₀) step.answer (apply_all (changes_of step.edit) here)

    ends : {glyphs' tags' : List ℕ} (step : RearrangementStep) → OverBy step → glyphs' ≡ (apply_all (changes_of step.edit) here).glyphs
        → tags' ≡ (apply_all (changes_of step.edit) here).tags → Ends step.answer glyphs' tags'
    unfolding passed_leaves
    ends step o p q =
        record {
          answers = o.answers;
          glyphs-left = p ∙ ap (λ (l : Line). l.glyphs) o.leaves;
          tags-left = q ∙ ap (λ (l : Line). l.tags) o.leaves;
        }

    -- the end call
    pub going_end : {step : RearrangementStep} {glyphs' tags' : List ℕ} → used ≤ i → step ≡ next (class_of bytes states) bytes states s used deleted true
        → glyphs' ≡ (apply_all (changes_of step.edit) here).glyphs → tags' ≡ (apply_all (changes_of step.edit) here).tags → Ends step.answer glyphs' tags'
    going_end {step} h e = ends step (subst⁻¹ OverBy (e ∙ any_end (class_of bytes states) classes bytes states s used deleted) (passing_end (rearrangement.step classes bytes states) rearrangement.rest l₀ (passed (indexed index rearrangement) bytes states l₀) g.passing some h))

    -- the step at place i
    abbrev at : RearrangementStep
    at = next classes bytes states s i (get_or glyphs i 0) false

    -- one that is DONE advances by one place or by none
    at_advances : is_done at.answer ≡ true → at.advance ≤ 1
    at_advances done =
        let (stays, c, a) = stalls classes bytes states s i (get_or glyphs i 0) false done in
        omega (arith, (stall_falls s.cycles (i + 1) i stays g.cycles (omega arith)).within, a)

    module _ (h : i < used) where
      at_less : is_done at.answer ≡ true → (used - (i + at.advance)) * 18 + (18 - at.state.cycles) < (used - i) * 18 + (18 - s.cycles)
      at_less done =
          let (stays, c, a) = stalls classes bytes states s i (get_or glyphs i 0) false done in
          omega (arith, (stall_falls s.cycles used i stays g.cycles h).less, c, a)

      at_goes : {memo' glyphs' tags' : List ℕ} → is_done at.answer ≡ true → Remembers (class_by bytes opened) memo'
          → glyphs' ≡ (apply_all (changes_of at.edit) here).glyphs → tags' ≡ (apply_all (changes_of at.edit) here).tags
          → length glyphs' ≡ length glyphs → length tags' ≡ length tags
          → Going opened memo' glyphs' tags' homes used at.state (i + at.advance)
      at_goes done m p q lg lt =
          let (stays, c, a) = stalls classes bytes states s i (get_or glyphs i 0) false done in
          let falls = stall_falls s.cycles used i stays g.cycles h in
          let line = edited at.edit glyphs tags homes used p q in
          let used-same : (apply_all (changes_of at.edit) here).used ≡ used = ap (λ (l : Line). l.used) (sym line) in
          record {
            table = g.table;
            remembers = m;
            passing =
                subst⁻¹ (λ (l : Line). Passing (rearrangement.step classes bytes states) rearrangement.rest l₀ (passed (indexed index rearrangement) bytes states l₀) at.state l (i + at.advance)) line
                (passing_step (rearrangement.step classes bytes states) rearrangement.rest l₀ (passed (indexed index rearrangement) bytes states l₀) g.passing some h done
                (omega (arith, falls.less, used-same, c, a)));
            cycles = omega (arith, falls.sound, c);
            within = omega (arith, falls.within, a);
            long-glyphs = lg ∙ g.long-glyphs;
            long-tags = lt ∙ g.long-tags;
          }

      -- by what the code reads there
      module _ {class : ℕ} {entered : (Option Entry)} (k : class ≡ classes_by index (class_by bytes opened) (get_or glyphs i 0)) (r : entered ≡ entry_of bytes states s.state class 0) where
        class-here : class ≡ classes (get_or glyphs i 0)
        class-here = k ∙ ap (λ (f : ℕ → ℕ). f (get_or glyphs i 0)) (opened-index index bytes states g.table)

        -- no entry
        ended_at : entered ≡ None → unmoved s Answer'.Ended ≡ at
        unfolding next class_here
        ended_at f = rw (← class-here, sym r ∙ f, next)

        pub going_ended : entered ≡ None → Ends Answer'.Ended glyphs tags
        unfolding apply_all
        going_ended f =
            ends (unmoved s Answer'.Ended)
            (subst⁻¹ OverBy (ended_at f)
            (passing_stop (rearrangement.step classes bytes states) rearrangement.rest l₀ (passed (indexed index rearrangement) bytes states l₀) g.passing some h
            (subst (λ (t : RearrangementStep). is_done t.answer ≡ false) (ended_at f) refl)))
            refl refl

        -- an entry
        module _ {entry : Entry} {step : RearrangementStep} (f : entered ≡ Some entry) (a : step ≡ acted s entry i) where
          acted-at : step ≡ at
          unfolding next class_here
          acted-at = rw (← class-here, sym r ∙ f, a, next)

          done : is_done at.answer ≡ true
          done = subst (λ (t : RearrangementStep). is_done t.answer ≡ true) acted-at (acted-done s entry i a)

          within-one : step.advance ≤ 1
          within-one = subst⁻¹ (λ (t : RearrangementStep). t.advance ≤ 1) acted-at (at_advances done)

          goes : {memo' glyphs' tags' : List ℕ} → Remembers (class_by bytes opened) memo'
              → glyphs' ≡ (apply_all (changes_of step.edit) here).glyphs → tags' ≡ (apply_all (changes_of step.edit) here).tags
              → length glyphs' ≡ length glyphs → length tags' ≡ length tags → (place : ℕ) → i + step.advance ≡ place
              → Going opened memo' glyphs' tags' homes used step.state place
          goes {memo'} {glyphs'} {tags'} m p q lg lt place e =
              subst (λ (n : ℕ). Going opened memo' glyphs' tags' homes used step.state n) e
              (subst⁻¹ (λ (t : RearrangementStep). Going opened memo' glyphs' tags' homes used t.state (i + t.advance)) acted-at
              (at_goes done m
              (subst (λ (t : RearrangementStep). glyphs' ≡ (apply_all (changes_of t.edit) here).glyphs) acted-at p)
              (subst (λ (t : RearrangementStep). tags' ≡ (apply_all (changes_of t.edit) here).tags) acted-at q)
              lg lt))

          -- the next step is at the same place, with more cycles, or at the next one
          pub going_less : step.advance ≡ 0 → 18 - step.state.cycles < 18 - s.cycles
          going_less e =
              let less = subst⁻¹ (λ (t : RearrangementStep). (used - (i + t.advance)) * 18 + (18 - t.state.cycles) < (used - i) * 18 + (18 - s.cycles)) acted-at (at_less done) in
              omega (arith, e, less)

          pub going_stays : {memo' glyphs' tags' : List ℕ} → step.advance ≡ 0 → Remembers (class_by bytes opened) memo'
              → glyphs' ≡ (apply_all (changes_of step.edit) here).glyphs → tags' ≡ (apply_all (changes_of step.edit) here).tags
              → length glyphs' ≡ length glyphs → length tags' ≡ length tags → Going opened memo' glyphs' tags' homes used step.state i
          going_stays e m p q lg lt = goes m p q lg lt i (omega arith)

          pub going_moves : {memo' glyphs' tags' : List ℕ} → (step.advance ≡ 0 → ⊥) → Remembers (class_by bytes opened) memo'
              → glyphs' ≡ (apply_all (changes_of step.edit) here).glyphs → tags' ≡ (apply_all (changes_of step.edit) here).tags
              → length glyphs' ≡ length glyphs → length tags' ≡ length tags → Going opened memo' glyphs' tags' homes used step.state (i + 1)
          going_moves n m p q lg lt = goes m p q lg lt (i + 1) (omega (arith, n, within-one))

-- the steps at one place lead on, whatever line the pass began with
pub record Staying (index bytes : List ℕ) (states : States) (opened : Classes) (homes : List ℕ) (used place : ℕ) (memo₀ glyphs₀ tags₀ : List ℕ) (s₀ : RearrangementState)
    (memo glyphs tags : List ℕ) (s : RearrangementState) : Type 0 where
  pub leads : (l₀ : Line) → Going index bytes states l₀ opened memo₀ glyphs₀ tags₀ homes used s₀ place → Going index bytes states l₀ opened memo glyphs tags homes used s place

pub going_start : (index bytes : List ℕ) (states : States) (glyphs tags homes : List ℕ) (used : ℕ) {opened : Classes} {memo : List ℕ} {s : RearrangementState}
    → opened ≡ opened_classes bytes states.edition → memo ≡ nothing_found → s ≡ fresh
    → Going index bytes states (line_of glyphs tags homes used) opened memo glyphs tags homes used s 0
unfolding passed passed_by
going_start index bytes states glyphs tags homes used {opened} {memo} o m e =
    subst⁻¹ (λ (r : RearrangementState). Going index bytes states (line_of glyphs tags homes used) opened memo glyphs tags homes used r 0) e
    (record {
      table = o;
      remembers = subst⁻¹ (Remembers (class_by bytes opened)) m (nothing_remembered (deleted-class bytes opened));
      passing = passing_start (rearrangement.step (classes_by index (class_of bytes states)) bytes states) rearrangement.rest _ fresh (line_of glyphs tags homes used) (omega arith);
      cycles = omega arith;
      within = omega arith;
      long-glyphs = refl;
      long-tags = refl;
    })

-- a class that was read where it lies is that of the class table as it is opened, without an index
pub class_lent : (bytes : List ℕ) (states : States) (glyph : ℕ) {class : ℕ} → class ≡ class_here (class_of bytes states) glyph false
    → class ≡ classes_by [] (class_by bytes (opened_classes bytes states.edition)) glyph
unfolding class_here
class_lent bytes states glyph e =
    e ∙ sym (classes-same bytes states glyph) ∙ past_index [] (class_by bytes (opened_classes bytes states.edition)) glyph (omega arith)

-- a pass that ends without an index is the plain one
module _ {bytes : List ℕ} {states : States} {l₀ : Line} {answer : Answer} {glyphs tags : List ℕ} (e : Ends [] bytes states l₀ answer glyphs tags) where
  pub lent_answers : answer ≡ (passed rearrangement bytes states l₀).answer
  lent_answers = e.answers ∙ ap (λ (m : Machine RearrangementState). (passed m bytes states l₀).answer) (indexed-none rearrangement [] refl)

  pub lent_glyphs : glyphs ≡ (passed_leaves rearrangement bytes states l₀).glyphs
  lent_glyphs = e.glyphs-left ∙ ap (λ (m : Machine RearrangementState). (passed_leaves m bytes states l₀).glyphs) (indexed-none rearrangement [] refl)

  pub lent_tags : tags ≡ (passed_leaves rearrangement bytes states l₀).tags
  lent_tags = e.tags-left ∙ ap (λ (m : Machine RearrangementState). (passed_leaves m bytes states l₀).tags) (indexed-none rearrangement [] refl)
