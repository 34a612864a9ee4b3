-- The entries of a step: what is left to do, after the ligatures made, gives what the whole step gives.
use Rattle.std.specs.Prelude.{Option, Some, None}
use Prim.Native.Nat.{ℕ, suc, ◌+◌, ◌-◌, ◌≤◌}
use mathlib.Core.Path.{◌≡◌, refl, sym, ◌∙◌, ap, ap₂, subst}
use mathlib.Core.Bool.{Bool, true, false, not}
use mathlib.Core.List.{List, [], ◌++◌}
use native.Mathlib.Omega.{arith}
use lib.Dec.{ltb}
use lib.ListN.{length}
use Rattle.laws.specs.Lists.{both}
use Rattle.answers.specs.declared.Answer.{Answer}
use Rattle.answers.specs.declared.Answer.TheVariants as Answer'
use Rattle.state_tables.specs.declared.States.{States}
use Rattle.state_tables.specs.declared.entries.Entry.{Entry}
use Rattle.state_tables.specs.Entries.{entry_of, on_entry}
use Rattle.line.specs.Line.{Line, line_of}
use Rattle.laws.specs.Bits.{is_set}
use Rattle.ligature.specs.Ligature.{Ligation, Work, entered, Ran, over, ran}
use Rattle.ligature.specs.Work.{ligated, spent, reached, Leaves, after_entry, after_step}
use Rattle.ligature.specs.declared.Stack.{Stack}
use Rattle.ligature.specs.declared.Reached.{Reached}
use Rattle.ligature.proofs.Ligations.{ligated-append, ligated-none, ligated-line}
use Rattle.ligature.proofs.Acting.{positive}

-- what the cycle count tells of an entry
spent-none : (ended : Bool) (cycles : ℕ) → spent ended cycles ≡ None → ended ≡ true
spent-none true cycles e = refl
spent-none false cycles e = absurd cc

spent-some : (ended : Bool) (cycles : ℕ) {n : ℕ} → spent ended cycles ≡ Some n → (ended ≡ false) × (cycles ≡ n)
spent-some true cycles e = absurd cc
spent-some false cycles e = (refl, cc)

-- one entry, by what it is
module _ (bytes : List ℕ) (states : States) (index glyph class turns state : ℕ) (stack : Stack) (cycles : ℕ) (done : List Ligation) where
  no_entry : entry_of bytes states state class 2 ≡ None
      → ran bytes states index glyph class (suc turns) state stack cycles done ≡ over Answer'.Ended state stack done
  unfolding ran
  no_entry e = rw (e, ran)

  module _ (entry : Entry) (e : entry_of bytes states state class 2 ≡ Some entry) where
    abbrev work : Work
    work = entered bytes stack entry index glyph cycles

    entry-ends : work.ended ≡ true
        → ran bytes states index glyph class (suc turns) state stack cycles done
        ≡ over Answer'.Ended entry.state work.stack (done ++ work.made)
    unfolding ran
    entry-ends f = rw (e, ran, on_entry) (rw f)

    module _ (f : work.ended ≡ false) where
      entry_stops : both (is_set entry.flags 0x4000) (not (ltb 16 work.cycles)) ≡ false
          → ran bytes states index glyph class (suc turns) state stack cycles done
          ≡ over Answer'.Done entry.state work.stack (done ++ work.made)
      unfolding ran
      entry_stops g = rw (e, ran, on_entry) (rw f (rw g))

      entry-goes : both (is_set entry.flags 0x4000) (not (ltb 16 work.cycles)) ≡ true
          → ran bytes states index glyph class (suc turns) state stack cycles done
          ≡ ran bytes states index glyph class turns entry.state work.stack (work.cycles + 1) (done ++ work.made)
      unfolding ran
      entry-goes g = rw (e, ran, on_entry) (rw f (rw g))

module _ (bytes : List ℕ) (states : States) (index glyph class state₀ : ℕ) (stack₀ : Stack) (l₀ : Line) where
  abbrev whole : Ran
  whole = ran bytes states index glyph class 18 state₀ stack₀ 0 []

  abbrev Left : Reached → Stack → (glyphs homes : List ℕ) → Type 0
  Left = Leaves (after_step bytes states class state₀ stack₀ l₀ index glyph)

  -- what the loop knows
  pub record Running (stack : Stack) (glyphs homes : List ℕ) (state cycles : ℕ) : Type 0 where
    pub turns : ℕ
    pub enough : 18 ≤ cycles + turns
    pub spent : cycles ≤ 17
    pub within : stack.depth ≤ 32
    pub done : List Ligation
    pub same : ran bytes states index glyph class turns state stack cycles done ≡ whole
    pub made : line_of glyphs l₀.tags homes l₀.used ≡ ligated done l₀
    pub long : length glyphs ≡ length l₀.glyphs
    pub all : length homes ≡ length l₀.homes

  pub running_start : stack₀.depth ≤ 32 → Running stack₀ l₀.glyphs l₀.homes state₀ 0
  running_start h =
      record {
        turns = 18;
        enough = omega arith;
        spent = omega arith;
        within = h;
        done = [];
        same = refl;
        made = sym (ligated-none l₀);
        long = refl;
        all = refl;
      }

  -- a step that ends here
  ends : {stack : Stack} {glyphs homes : List ℕ} {answer : Answer} {state : ℕ} {done : List Ligation} → over answer state stack done ≡ whole
      → line_of glyphs l₀.tags homes l₀.used ≡ ligated done l₀ → Left (record { answer = answer; state = state }) stack glyphs homes
  ends e l =
      record {
        answers = ap reached e;
        stands = ap (λ (r : Ran). r.stack) e;
        written = ap (λ (x : Line). x.glyphs) l ∙ ap (λ (r : Ran). (ligated r.made l₀).glyphs) e;
        joined = ap (λ (x : Line). x.homes) l ∙ ap (λ (r : Ran). (ligated r.made l₀).homes) e;
      }

  module _ {stack : Stack} {glyphs homes : List ℕ} {state cycles : ℕ} (g : Running stack glyphs homes state cycles)
      {entered-is : Option Entry} (f : entered-is ≡ entry_of bytes states state class 2) where
    from_here : ran bytes states index glyph class (suc (g.turns - 1)) state stack cycles g.done ≡ whole
    from_here =
        subst (λ (n : ℕ). ran bytes states index glyph class n state stack cycles g.done ≡ whole)
        (positive g.turns (omega (arith, g.enough, g.spent)))
        g.same

    pub running_none : entered-is ≡ None → Left (record { answer = Answer'.Ended; state = state }) stack glyphs homes
    running_none e = ends (sym (no_entry bytes states index glyph class (g.turns - 1) state stack cycles g.done (sym f ∙ e)) ∙ from_here) g.made

    module _ {entry : Entry} {did : Option ℕ} {stack' : Stack} {glyphs' homes' : List ℕ} (e : entered-is ≡ Some entry)
        (w : Leaves (after_entry bytes entry stack (line_of glyphs l₀.tags homes l₀.used) index glyph cycles) did stack' glyphs' homes') where
      abbrev here : Work
      here = entered bytes stack entry index glyph cycles

      line : line_of glyphs' l₀.tags homes' l₀.used ≡ ligated (g.done ++ here.made) l₀
      line =
          ligated-line here.made glyphs l₀.tags homes l₀.used w.written w.joined
          ∙ ap (ligated here.made) g.made
          ∙ sym (ligated-append g.done here.made l₀)

      stands : (answer : Answer) → over answer entry.state stack' (g.done ++ here.made) ≡ over answer entry.state here.stack (g.done ++ here.made)
      stands answer = ap (λ (x : Stack). over answer entry.state x (g.done ++ here.made)) w.stands

      pub running_ended : did ≡ None → Left (record { answer = Answer'.Ended; state = entry.state }) stack' glyphs' homes'
      running_ended d =
          ends
          (stands Answer'.Ended
          ∙ sym (entry-ends bytes states index glyph class (g.turns - 1) state stack cycles g.done entry (sym f ∙ e)
          (spent-none here.ended here.cycles (sym w.answers ∙ d)))
          ∙ from_here)
          line

      module _ {cycles' : ℕ} (d : did ≡ Some cycles') where
        went : (here.ended ≡ false) × (here.cycles ≡ cycles')
        went = spent-some here.ended here.cycles (sym w.answers ∙ d)

        pub running_stops : both (is_set entry.flags 0x4000) (not (ltb 16 cycles')) ≡ false
            → Left (record { answer = Answer'.Done; state = entry.state }) stack' glyphs' homes'
        running_stops t =
            ends
            (stands Answer'.Done
            ∙ sym (entry_stops bytes states index glyph class (g.turns - 1) state stack cycles g.done entry (sym f ∙ e) went.0
            (ap (λ (n : ℕ). both (is_set entry.flags 0x4000) (not (ltb 16 n))) went.1 ∙ t))
            ∙ from_here)
            line

        pub running_goes : both (is_set entry.flags 0x4000) (not (ltb 16 cycles')) ≡ true → cycles' ≤ 16 → cycles ≤ cycles' → stack'.depth ≤ 32
            → length glyphs' ≡ length glyphs → length homes' ≡ length homes → Running stack' glyphs' homes' entry.state (cycles' + 1)
        running_goes t h k deep lg lh =
            record {
              turns = g.turns - 1;
              enough = omega (arith, g.enough, g.spent);
              spent = omega arith;
              within = deep;
              done = g.done ++ here.made;
              same = ap₂ (λ (x : Stack) (c : ℕ). ran bytes states index glyph class (g.turns - 1) entry.state x (c + 1) (g.done ++ here.made)) w.stands (sym went.1)
                  ∙ sym (entry-goes bytes states index glyph class (g.turns - 1) state stack cycles g.done entry (sym f ∙ e) went.0
                  (ap (λ (n : ℕ). both (is_set entry.flags 0x4000) (not (ltb 16 n))) went.1 ∙ t))
                  ∙ from_here;
              made = line;
              long = lg ∙ g.long;
              all = lh ∙ g.all;
            }
