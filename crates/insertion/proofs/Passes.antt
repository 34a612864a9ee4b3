-- The pass's loop: the shared laws of passes at this machine.
use Rattle.std.specs.Prelude.{Option, Some, None}
use Prim.Native.Nat.{ℕ, ◌+◌, ◌*◌, ◌-◌, ◌<◌, ◌≤◌}
use mathlib.Core.Path.{◌≡◌, refl, sym, ◌∙◌, ap, subst, subst⁻¹}
use mathlib.Core.Bool.{Bool, true, false}
use mathlib.Core.List.{List}
use mathlib.Core.Logic.{⊎_elim}
use native.Mathlib.Omega.{arith}
use lib.Dec.{eqb}
use lib.ListN.{length, get_or}
use borrow.Author.Tests.{eq-eqb, ne_eqb}
use Rattle.laws.proofs.Numbers.{lt-or-ge}
use Rattle.answers.specs.Limits as Limits
use Rattle.answers.specs.declared.Answer.{Answer}
use Rattle.answers.specs.declared.Answer.TheVariants as Answer'
use Rattle.state_tables.specs.Classes.{class_of}
use Rattle.state_tables.specs.Entries.{entry_of}
use Rattle.state_tables.specs.Opened.{opened_classes, class_by, LiesIn, Remembers, nothing_found}
use Rattle.state_tables.specs.declared.States.{States}
use Rattle.state_tables.specs.declared.entries.Entry.{Entry}
use Rattle.state_tables.specs.declared.opened.Classes.{Classes}
use Rattle.state_tables.proofs.Openings.{classes-lie, deleted-class, nothing_remembered}
use Rattle.line.specs.Line.{Line, line_of}
use Rattle.line.specs.Changes.{apply_all}
use Rattle.machine.specs.Entry.{class_here}
use Rattle.machine.specs.Pass.{deleted, is_done}
use Rattle.machine.specs.Machine.{passed_by, passed}
use Rattle.machine.proofs.Passing.{Passing, Over, passing_start, passing_step, passing_stop, passing_end}
use Rattle.indexes.specs.Index.{classes_by, indexed}
use Rattle.insertion.specs.Lists.{both_changes}
use Rattle.insertion.specs.Insertion.{fresh, acted, next}
use Rattle.insertion.specs.Calls.{insertion}
use Rattle.insertion.specs.Work.{Left, Ends, is_quiet, led_by}
use Rattle.insertion.specs.declared.InsertionState.{InsertionState}
use Rattle.insertion.specs.declared.InsertionStep.{InsertionStep}
use Rattle.insertion.proofs.Edits.{put_none, both_grow, both-line}
use Rattle.insertion.proofs.Entries.{quiet_step, found_none, found-entry, found_quiet}
use Rattle.insertion.proofs.Shapes.{Both, Advances, next_shape, next_fits, shape_advances}

-- what a step's insertions leave of a line
abbrev pub LeftBy : List ℕ → Line → InsertionStep → (glyphs tags : List ℕ) → (used : ℕ) → Type 0
LeftBy bytes l step = Left (both_changes bytes step.marked step.current) l

module _ (index bytes : List ℕ) (states : States) (l₀ : Line) where
  abbrev classes : ℕ → ℕ
  classes = classes_by index (class_of bytes states)

  -- what the loop knows at place i
  pub record Going (opened : Classes) (memo glyphs tags homes : List ℕ) (used : ℕ) (s : InsertionState) (i : ℕ) : Type 0 where
    pub table : opened ≡ opened_classes bytes states.edition
    pub remembers : Remembers (class_by bytes opened) memo
    pub passing : Passing (insertion.step classes bytes states) insertion.rest l₀ (passed (indexed index insertion) bytes states l₀) s (line_of glyphs tags homes used) i
    pub cycles : s.cycles ≤ 17
    pub within : i ≤ used
    pub fits : used ≤ length glyphs
    pub long-glyphs : length glyphs ≡ length l₀.glyphs
    pub long-tags : length tags ≡ length l₀.tags
    pub paired : length l₀.tags ≡ length l₀.glyphs
    pub limited : length l₀.glyphs ≤ Limits.room_limit

  -- what a pass that ends here answers and leaves
  abbrev Over-here : Answer → (glyphs tags : List ℕ) → (used : ℕ) → Type 0
  Over-here = Ends (passed (indexed index insertion) bytes states l₀) l₀

  module _ {opened : Classes} {memo glyphs tags homes : List ℕ} {used : ℕ} {s : InsertionState} {i : ℕ} (g : Going opened memo glyphs tags homes used s i) where
    abbrev here : Line
    here = line_of glyphs tags homes used

    some : 0 < insertion.rest s here i
    some = omega (arith, g.cycles)

    ends : {answer : Answer} {glyphs' tags' : List ℕ} {used' : ℕ} (step : InsertionStep)
        → Over (insertion.step classes bytes states) insertion.rest l₀ (passed (indexed index insertion) bytes states l₀) answer (apply_all (both_changes bytes step.marked step.current) here)
        → LeftBy bytes here step glyphs' tags' used' → Over-here answer glyphs' tags' used'
    ends step o p =
        record {
          answers = o.answers;
          left = record {
            glyphs-left = p.glyphs-left ∙ ap (λ (l : Line). l.glyphs) o.leaves;
            tags-left = p.tags-left ∙ ap (λ (l : Line). l.tags) o.leaves;
            used-left = p.used-left ∙ ap (λ (l : Line). l.used) o.leaves;
          };
        }

    -- the step at place i
    abbrev at : InsertionStep
    at = next classes bytes states s used (length glyphs) i (get_or glyphs i 0) false

    at_advances : i < used → is_done at.answer ≡ true → Advances used (length glyphs) i s at
    at_advances h done =
        shape_advances used (length glyphs) i h g.fits (next_shape classes bytes states s used (length glyphs) i (get_or glyphs i 0) false g.fits) done
        g.cycles

    at_goes : {memo' glyphs' tags' : List ℕ} {used' : ℕ} → Remembers (class_by bytes opened) memo' → i < used → is_done at.answer ≡ true
        → LeftBy bytes here at glyphs' tags' used' → length glyphs' ≡ length glyphs → length tags' ≡ length tags
        → Going opened memo' glyphs' tags' homes used' at.state (i + at.advance)
    at_goes m h done p lg lt =
        let a = at_advances h done in
        let line = both-line bytes glyphs tags homes used at.marked at.current p in
        let grown = p.used-left ∙ both_grow bytes glyphs tags homes used at.marked at.current in
        let room : length (apply_all (both_changes bytes at.marked at.current) here).glyphs ≡ length glyphs = ap length (sym p.glyphs-left) ∙ lg in
        record {
          table = g.table;
          remembers = m;
          passing =
              subst⁻¹ (λ (l : Line). Passing (insertion.step classes bytes states) insertion.rest l₀ (passed (indexed index insertion) bytes states l₀) at.state l (i + at.advance)) line
              (passing_step (insertion.step classes bytes states) insertion.rest l₀ (passed (indexed index insertion) bytes states l₀) g.passing some h done
              (subst⁻¹ (λ (n : ℕ). (n - (i + at.advance)) * 18 + (18 - at.state.cycles) < insertion.rest s here i) room a.less));
          cycles = a.sound;
          within = omega (arith, a.within, grown);
          fits = omega (arith, (next_fits classes bytes states s used (length glyphs) i (get_or glyphs i 0) false g.fits refl).within, grown, lg);
          long-glyphs = lg ∙ g.long-glyphs;
          long-tags = lt ∙ g.long-tags;
          paired = g.paired;
          limited = g.limited;
        }

    -- the end call
    abbrev last : InsertionStep
    last = next classes bytes states s used (length glyphs) used deleted true

    -- the one that is due, by whether the place is behind the last
    abbrev due : InsertionStep
    due = next classes bytes states s used (length glyphs) i (get_or glyphs i 0) (eqb i used)

    due_at : i < used → due ≡ at
    due_at h = ap (next classes bytes states s used (length glyphs) i (get_or glyphs i 0)) (ne_eqb i used (λ (e : i ≡ used). omega arith))

    due_last : used ≤ i → due ≡ last
    unfolding next class_here
    due_last h = let e : i ≡ used = omega (arith, g.within) in rw (eq-eqb i used e, e, next, class_here)

    module _ {step : InsertionStep} (e : step ≡ due) where
      due_fits : Both bytes used (length glyphs) step
      due_fits = next_fits classes bytes states s used (length glyphs) i (get_or glyphs i 0) (eqb i used) g.fits e

      module _ {glyphs' tags' : List ℕ} {used' : ℕ} (p : LeftBy bytes here step glyphs' tags' used') where
        module _ (done : is_done step.answer ≡ true) (ne : i ≡ used → ⊥) where
          inside : i < used
          inside = omega (arith, g.within, ne)

          is_at : step ≡ at
          is_at = e ∙ due_at inside

          done_at : is_done at.answer ≡ true
          done_at = subst (λ (r : InsertionStep). is_done r.answer ≡ true) is_at done

          due_goes : {memo' : List ℕ} → Remembers (class_by bytes opened) memo' → length glyphs' ≡ length glyphs → length tags' ≡ length tags
              → Going opened memo' glyphs' tags' homes used' step.state (i + step.advance)
          due_goes {memo'} m lg lt =
              subst⁻¹ (λ (r : InsertionStep). Going opened memo' glyphs' tags' homes used' r.state (i + r.advance)) is_at
              (at_goes m inside done_at (subst (λ (r : InsertionStep). LeftBy bytes here r glyphs' tags' used') is_at p) lg lt)

          due_less : length glyphs' ≡ length glyphs
              → (length glyphs' - (i + step.advance)) * 18 + (18 - step.state.cycles) < (length glyphs - i) * 18 + (18 - s.cycles)
          due_less lg =
              let a = subst⁻¹ (λ (r : InsertionStep). Advances used (length glyphs) i s r) is_at (at_advances inside done_at) in
              omega (arith, a.less, lg)

        abbrev OverBy : InsertionStep → Type 0
        OverBy r =
            Over (insertion.step classes bytes states) insertion.rest l₀ (passed (indexed index insertion) bytes states l₀) r.answer (apply_all (both_changes bytes r.marked r.current) here)

        due_ends : used ≤ i → Over-here step.answer glyphs' tags' used'
        due_ends h =
            ends step
            (subst⁻¹ OverBy (e ∙ due_last h) (passing_end (insertion.step classes bytes states) insertion.rest l₀ (passed (indexed index insertion) bytes states l₀) g.passing some h))
            p

        due_stops : is_done step.answer ≡ false → Over-here step.answer glyphs' tags' used'
        due_stops done =
            ⊎_elim
            (λ (h : i < used).
            let is = e ∙ due_at h in
            ends step
            (subst⁻¹ OverBy is
            (passing_stop (insertion.step classes bytes states) insertion.rest l₀ (passed (indexed index insertion) bytes states l₀) g.passing some h
            (subst (λ (r : InsertionStep). is_done r.answer ≡ false) is done)))
            p)
            due_ends
            (lt-or-ge i used)

    pub going_lies : LiesIn bytes opened
    going_lies = subst⁻¹ (LiesIn bytes) g.table (classes-lie bytes states.edition)

    -- what is due, by what the code reads at place i
    module _ {class : ℕ} {entered : (Option Entry)} (k : class ≡ class_here (classes_by index (class_by bytes opened)) (get_or glyphs i 0) (eqb i used))
        (r : entered ≡ entry_of bytes states s.state class 4) where
      -- no entry
      pub going_ended : entered ≡ None → Over-here Answer'.Ended glyphs tags used
      going_ended f =
          due_stops (found_none index bytes states s used (length glyphs) i (get_or glyphs i 0) (eqb i used) g.table k r f) (put_none bytes here) refl

      module _ {entry : Entry} (f : entered ≡ Some entry) where
        -- one that inserts nothing and advances
        module _ {quiet : Bool} (q : quiet ≡ is_quiet bytes entry) (t : quiet ≡ true) where
          quiet_due : quiet_step s entry i ≡ due
          quiet_due = found_quiet index bytes states s used (length glyphs) i (get_or glyphs i 0) (eqb i used) g.table k r f q t

          pub quiet_ends : i ≡ used → Over-here Answer'.Done glyphs tags used
          quiet_ends e = due_ends quiet_due (put_none bytes here) (omega arith)

          pub quiet_goes : {memo' : List ℕ} {s' : InsertionState} → Remembers (class_by bytes opened) memo' → (i ≡ used → ⊥) → s' ≡ led_by s entry i
              → Going opened memo' glyphs tags homes used s' (i + 1)
          quiet_goes {memo'} m ne e =
              subst⁻¹ (λ (r : InsertionState). Going opened memo' glyphs tags homes used r (i + 1)) e
              (due_goes quiet_due (put_none bytes here) refl ne m refl refl)

          pub quiet_less : {s' : InsertionState} → (i ≡ used → ⊥) → s' ≡ led_by s entry i
              → (length glyphs - (i + 1)) * 18 + (18 - s'.cycles) < (length glyphs - i) * 18 + (18 - s.cycles)
          quiet_less ne e =
              subst⁻¹ (λ (r : InsertionState). (length glyphs - (i + 1)) * 18 + (18 - r.cycles) < (length glyphs - i) * 18 + (18 - s.cycles)) e
              (due_less quiet_due (put_none bytes here) refl ne refl)

        -- any other
        module _ {step : InsertionStep} (a : step ≡ acted bytes s entry i used (length glyphs)) where
          act_due : step ≡ due
          act_due = found-entry index bytes states s used (length glyphs) i (get_or glyphs i 0) (eqb i used) g.table k r f a

          pub act_fits : Both bytes used (length glyphs) step
          act_fits = due_fits act_due

          module _ {glyphs' tags' : List ℕ} {used' : ℕ} (p : LeftBy bytes here step glyphs' tags' used') where
            pub act_ends : i ≡ used → Over-here step.answer glyphs' tags' used'
            act_ends e = due_ends act_due p (omega arith)

            pub act_stops : is_done step.answer ≡ false → Over-here step.answer glyphs' tags' used'
            act_stops = due_stops act_due p

            module _ (done : is_done step.answer ≡ true) (ne : i ≡ used → ⊥) where
              pub act_goes : {memo' : List ℕ} → Remembers (class_by bytes opened) memo' → length glyphs' ≡ length glyphs → length tags' ≡ length tags
                  → Going opened memo' glyphs' tags' homes used' step.state (i + step.advance)
              act_goes = due_goes act_due p done ne

              pub act_less : length glyphs' ≡ length glyphs
                  → (length glyphs' - (i + step.advance)) * 18 + (18 - step.state.cycles) < (length glyphs - i) * 18 + (18 - s.cycles)
              act_less = due_less act_due p done ne

pub going_start : (index bytes : List ℕ) (states : States) (glyphs tags homes : List ℕ) (used : ℕ) {opened : Classes} {memo : List ℕ} {s : InsertionState}
    → used ≤ length glyphs → length tags ≡ length glyphs → length glyphs ≤ Limits.room_limit → opened ≡ opened_classes bytes states.edition → memo ≡ nothing_found → s ≡ fresh
    → Going index bytes states (line_of glyphs tags homes used) opened memo glyphs tags homes used s 0
unfolding passed passed_by
going_start index bytes states glyphs tags homes used {opened} {memo} h p n o m e =
    subst⁻¹ (λ (r : InsertionState). Going index bytes states (line_of glyphs tags homes used) opened memo glyphs tags homes used r 0) e
    (record {
      table = o;
      remembers = subst⁻¹ (Remembers (class_by bytes opened)) m (nothing_remembered (deleted-class bytes opened));
      passing = passing_start (insertion.step (classes_by index (class_of bytes states)) bytes states) insertion.rest _ fresh (line_of glyphs tags homes used) (omega arith);
      cycles = omega arith;
      within = omega arith;
      fits = h;
      long-glyphs = refl;
      long-tags = refl;
      paired = p;
      limited = n;
    })
