-- The loop of steps: what is left to do, after the ligatures made, gives what the whole run gives.
use Prim.Native.Nat.{ℕ, suc, ◌+◌, ◌-◌, ◌<◌, ◌≤◌}
use mathlib.Core.Path.{◌≡◌, refl, sym, ◌∙◌, ap, ap₂, subst, subst⁻¹}
use mathlib.Core.Bool.{Bool, true, false}
use mathlib.Core.List.{List, [], ◌++◌}
use native.Mathlib.Omega.{arith}
use lib.Dec.{leb}
use lib.ListN.{length}
use Rattle.answers.specs.declared.Answer.TheVariants as Answer'
use Rattle.state_tables.specs.Opened.{opened_classes, class_by, LiesIn, Remembers, nothing_found}
use Rattle.state_tables.specs.declared.States.{States}
use Rattle.state_tables.specs.declared.opened.Classes.{Classes}
use Rattle.state_tables.proofs.Openings.{classes-lie, deleted-class, nothing_remembered}
use Rattle.line.specs.Line.{Line, line_of}
use Rattle.machine.specs.Entry.{class_here}
use Rattle.indexes.specs.Index.{classes_by}
use Rattle.indexes.proofs.Laws.{opened-index}
use Rattle.machine.specs.Pass.{is_done}
use Rattle.machine.specs.Work.{glyph_at}
use Rattle.ligature.specs.Ligature.{Ran, over, ran, next}
use Rattle.ligature.specs.Work.{ligated, reached, Leaves, stands_after, after_step, run_from, run}
use Rattle.ligature.specs.declared.Stack.{Stack}
use Rattle.ligature.specs.declared.Reached.{Reached}
use Rattle.ligature.proofs.Ligations.{ligated-append, ligated-none, ligated-line}

-- one step, by whether it is the last
module _ (classes : ℕ → ℕ) (bytes : List ℕ) (states : States) (steps : ℕ) (r : Ran) (l : Line) (place glyph : ℕ) (ends : Bool) where
  abbrev step : Ran
  step = next classes bytes states r.state r.stack place glyph ends

  abbrev after : Line
  after = ligated step.made l

  -- the steps so far and this one
  abbrev pub with-step : Ran
  with-step = over step.answer step.state step.stack (r.made ++ step.made)

  pub last_step : is_done step.answer ≡ false → run_from classes bytes states (suc steps) r l place glyph ends ≡ with-step
  unfolding run_from
  last_step e = rw (e, run_from)

  pub more-steps : is_done step.answer ≡ true
      → run_from classes bytes states (suc steps) r l place glyph ends
      ≡ run_from classes bytes states steps with-step after (place + 1) (glyph_at after.glyphs after.used (place + 1)) (leb after.used (place + 1))
  unfolding run_from
  more-steps e = rw (e, run_from)

-- one step alone
pub one-step : (classes : ℕ → ℕ) (bytes : List ℕ) (states : States) (r : Ran) (l : Line) (place glyph : ℕ) (ends : Bool)
    → run_from classes bytes states 1 r l place glyph ends ≡ with-step classes bytes states 0 r l place glyph ends
unfolding run_from
one-step classes bytes states r l place glyph ends = go (is_done (step classes bytes states 0 r l place glyph ends).answer) refl
  where
    go : (t : Bool) → is_done (step classes bytes states 0 r l place glyph ends).answer ≡ t
        → run_from classes bytes states 1 r l place glyph ends ≡ with-step classes bytes states 0 r l place glyph ends
    go false e = last_step classes bytes states 0 r l place glyph ends e
    go true e = more-steps classes bytes states 0 r l place glyph ends e

module _ (lent bytes : List ℕ) (states : States) (end : ℕ) (l₀ : Line) (whole : Ran) where
  -- what the loop knows, with the steps so far
  pub record Going (opened : Classes) (memo : List ℕ) (stack : Stack) (glyphs homes : List ℕ) (so-far : Reached) (place glyph : ℕ) (ends : Bool) : Type 0 where
    pub deep : stack.depth ≤ 32
    pub lies : LiesIn bytes opened
    pub remembers : Remembers (class_by bytes opened) memo
    pub r : Ran
    pub answers : so-far ≡ reached r
    pub stands : stack ≡ r.stack
    pub same : run_from (classes_by lent (class_by bytes opened)) bytes states (end - place) r (line_of glyphs l₀.tags homes l₀.used) place glyph ends ≡ whole
    pub made : line_of glyphs l₀.tags homes l₀.used ≡ ligated r.made l₀
    pub within : l₀.used ≤ length glyphs
    pub long : length glyphs ≡ length l₀.glyphs
    pub all : length homes ≡ length l₀.homes

  module _ {opened : Classes} {memo : List ℕ} {stack : Stack} {glyphs homes : List ℕ} {so-far : Reached} {place glyph : ℕ} {ends : Bool}
      (g : Going opened memo stack glyphs homes so-far place glyph ends) where
    abbrev line : Line
    line = line_of glyphs l₀.tags homes l₀.used

    -- no steps are left
    pub going_over : end ≤ place → Leaves (stands_after whole l₀) so-far stack glyphs homes
    unfolding run_from
    going_over h =
        let z : end - place ≡ 0 = omega arith in
        let w : g.r ≡ whole = rw z at g.same in
        record {
          answers = g.answers ∙ ap reached w;
          stands = g.stands ∙ ap (λ (n : Ran). n.stack) w;
          written = ap (λ (x : Line). x.glyphs) g.made ∙ ap (λ (n : Ran). (ligated n.made l₀).glyphs) w;
          joined = ap (λ (x : Line). x.homes) g.made ∙ ap (λ (n : Ran). (ligated n.made l₀).homes) w;
        }

    module _ (h : place < end) {so-far' : Reached} {stack' : Stack} {glyphs' homes' : List ℕ} {class : ℕ}
        (k : class ≡ class_here (classes_by lent (class_by bytes opened)) glyph ends)
        (s : Leaves (after_step bytes states class so-far.state stack line place glyph) so-far' stack' glyphs' homes') where
      abbrev here : Ran
      here = next (classes_by lent (class_by bytes opened)) bytes states g.r.state g.r.stack place glyph ends

      abbrev all-so-far : Ran
      all-so-far = over here.answer here.state here.stack (g.r.made ++ here.made)

      step-is : ran bytes states place glyph class 18 so-far.state stack 0 [] ≡ here
      unfolding next
      step-is =
          ap (λ (c : ℕ). ran bytes states place glyph c 18 so-far.state stack 0 []) k
          ∙ ap₂ (λ (x : Reached) (y : Stack). ran bytes states place glyph (class_here (classes_by lent (class_by bytes opened)) glyph ends) 18 x.state y 0 []) g.answers g.stands

      left : Leaves (stands_after here line) so-far' stack' glyphs' homes'
      left = subst (λ (n : Ran). Leaves (stands_after n line) so-far' stack' glyphs' homes') step-is s

      told : is_done here.answer ≡ is_done so-far'.answer
      told = ap (λ (x : Reached). is_done x.answer) (sym left.answers)

      one-more : suc (end - (place + 1)) ≡ end - place
      one-more = omega arith

      from_here : run_from (classes_by lent (class_by bytes opened)) bytes states (suc (end - (place + 1))) g.r line place glyph ends ≡ whole
      from_here = ap (λ (n : ℕ). run_from (classes_by lent (class_by bytes opened)) bytes states n g.r line place glyph ends) one-more ∙ g.same

      line' : line_of glyphs' l₀.tags homes' l₀.used ≡ ligated here.made line
      line' = ligated-line here.made glyphs l₀.tags homes l₀.used left.written left.joined

      now_made : line_of glyphs' l₀.tags homes' l₀.used ≡ ligated (g.r.made ++ here.made) l₀
      now_made = line' ∙ ap (ligated here.made) g.made ∙ sym (ligated-append g.r.made here.made l₀)

      pub going_last : is_done so-far'.answer ≡ false → Leaves (stands_after whole l₀) so-far' stack' glyphs' homes'
      going_last e =
          let w : all-so-far ≡ whole =
          sym (last_step (classes_by lent (class_by bytes opened)) bytes states (end - (place + 1)) g.r line place glyph ends (told ∙ e)) ∙ from_here in
          record {
            answers = left.answers ∙ ap reached w;
            stands = left.stands ∙ ap (λ (n : Ran). n.stack) w;
            written = ap (λ (x : Line). x.glyphs) now_made ∙ ap (λ (n : Ran). (ligated n.made l₀).glyphs) w;
            joined = ap (λ (x : Line). x.homes) now_made ∙ ap (λ (n : Ran). (ligated n.made l₀).homes) w;
          }

      pub going_more : {memo' : List ℕ} {glyph' : ℕ} → is_done so-far'.answer ≡ true → stack'.depth ≤ 32 → Remembers (class_by bytes opened) memo'
          → length glyphs' ≡ length glyphs → length homes' ≡ length homes → glyph' ≡ glyph_at glyphs' l₀.used (place + 1)
          → Going opened memo' stack' glyphs' homes' so-far' (place + 1) glyph' (leb l₀.used (place + 1))
      going_more {memo'} {glyph'} e deep remembers lg lh n =
          record {
            deep = deep;
            lies = g.lies;
            remembers = remembers;
            r = all-so-far;
            answers = left.answers;
            stands = left.stands;
            same = ap (later (line_of glyphs' l₀.tags homes' l₀.used)) n
                ∙ ap (λ (k : Line). later k (glyph_at k.glyphs k.used (place + 1))) line'
                ∙ sym (more-steps (classes_by lent (class_by bytes opened)) bytes states (end - (place + 1)) g.r line place glyph ends (told ∙ e))
                ∙ from_here;
            made = now_made;
            within = omega (arith, lg, g.within);
            long = lg ∙ g.long;
            all = lh ∙ g.all;
          }
        where
          later : Line → ℕ → Ran
          later k y = run_from (classes_by lent (class_by bytes opened)) bytes states (end - (place + 1)) all-so-far k (place + 1) y (leb k.used (place + 1))

module _ (lent bytes : List ℕ) (states : States) (state : ℕ) (stack : Stack) (l : Line) (place end glyph : ℕ) (ends : Bool) where
  pub going_start : {opened : Classes} {memo : List ℕ} → opened ≡ opened_classes bytes states.edition → memo ≡ nothing_found → stack.depth ≤ 32
      → l.used ≤ length l.glyphs
      → Going lent bytes states end l (run lent bytes states (end - place) state stack l place glyph ends) opened memo stack l.glyphs l.homes
      (record { answer = Answer'.Done; state = state }) place glyph ends
  unfolding run
  going_start {opened} {memo} o m h w =
      record {
        deep = h;
        lies = subst⁻¹ (LiesIn bytes) o (classes-lie bytes states.edition);
        remembers = subst⁻¹ (Remembers (class_by bytes opened)) m (nothing_remembered (deleted-class bytes opened));
        r = over Answer'.Done state stack [];
        answers = refl;
        stands = refl;
        same = ap (λ (c : ℕ → ℕ). run_from c bytes states (end - place) (over Answer'.Done state stack []) l place glyph ends)
            (opened-index lent bytes states o);
        made = sym (ligated-none l);
        within = w;
        long = refl;
        all = refl;
      }
