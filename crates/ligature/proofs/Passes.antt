-- A run of one step is the step, and one from the first place on is the pass.
use Prim.Native.Nat.{ℕ, zero, suc, ◌+◌, ◌-◌, ◌<◌, ◌≤◌}
use mathlib.Core.Path.{◌≡◌, refl, sym, ◌∙◌, ap, ap₂}
use mathlib.Core.Bool.{Bool, true, false}
use mathlib.Core.List.{List, [], ◌∷◌, ◌++◌, append_assoc}
use native.Mathlib.Omega.{arith}
use lib.Dec.{leb, eqb}
use lib.ListN.{get_or}
use borrow.Author.Tests.{lt-ltb, le-ltb, le-leb, lt-leb, eq-eqb, ne_eqb}
use Rattle.answers.specs.declared.Answer.TheVariants as Answer'
use Rattle.state_tables.specs.Classes.{class_of}
use Rattle.state_tables.specs.declared.States.{States}
use Rattle.line.specs.Line.{Line}
use Rattle.line.specs.Changes.{Change, apply_all}
use Rattle.machine.specs.Pass.{Passed, after, deleted, is_done, advance_of, pass_from}
use Rattle.machine.specs.Machine.{passed_by, passed}
use Rattle.machine.specs.Work.{glyph_at}
use Rattle.machine.proofs.Passing.{turn_goes, turn_stops, turn_ends}
use Rattle.indexes.specs.Index.{classes_by, indexed}
use Rattle.indexes.proofs.Laws.{no_index}
use Rattle.ligature.specs.Ligature.{stack_in, fresh, Ligation, changes_of, Ran, over, next, state_of}
use Rattle.ligature.specs.Calls.{ligature}
use Rattle.ligature.specs.Work.{ligated, run_from, run, Leaves, stands_after, Ends}
use Rattle.ligature.specs.declared.LigatureState.{LigatureState}
use Rattle.ligature.specs.declared.Reached.{Reached}
use Rattle.ligature.specs.declared.Stack.{Stack}
use Rattle.ligature.proofs.Ligations.{used-kept}
use Rattle.ligature.proofs.Runs.{with-step, last_step, more-steps, one-step}

-- the lone step, which is lent no index
pub stepped_alone : (bytes : List ℕ) (states : States) (state : ℕ) (stack : Stack) (l : Line) (index glyph : ℕ) (ends : Bool)
    → run [] bytes states (index + 1 - index) state stack l index glyph ends ≡ next (class_of bytes states) bytes states state stack index glyph ends
unfolding run
stepped_alone bytes states state stack l index glyph ends =
    let one : index + 1 - index ≡ 1 = omega arith in
    ap (λ (n : ℕ). run [] bytes states n state stack l index glyph ends) one
    ∙ one-step (classes_by [] (class_of bytes states)) bytes states (over Answer'.Done state stack []) l index glyph ends
    ∙ ap (λ (c : ℕ → ℕ). next c bytes states state stack index glyph ends) (no_index [] refl (class_of bytes states))

-- ligatures as changes, in two parts
changes-append : (xs ys : List Ligation) → changes_of (xs ++ ys) ≡ changes_of xs ++ changes_of ys
unfolding changes_of
changes-append [] ys = refl
changes-append (x ∷ xs) ys = ap (λ (cs : List Change). Change.ligature x.at x.glyph x.parts ∷ cs) (changes-append xs ys)

-- the glyph at a place
module _ (glyphs : List ℕ) (used place : ℕ) where
  glyph-inside : place < used → glyph_at glyphs used place ≡ get_or glyphs place 0
  unfolding glyph_at
  glyph-inside h = rw (lt-ltb place used h)

  glyph_past : used ≤ place → glyph_at glyphs used place ≡ deleted
  unfolding glyph_at
  glyph_past h = rw (le-ltb place used h)

-- a line without places begins with the end call
none-used : (used : ℕ) → eqb used 0 ≡ leb used 0
none-used zero = eq-eqb 0 0 refl ∙ sym (le-leb 0 0 (omega arith))
none-used (suc used) = ne_eqb (suc used) 0 (λ e. omega (arith, e)) ∙ sym (lt-leb (suc used) 0 (omega arith))

-- the steps of a run as those of a pass
module _ (classes : ℕ → ℕ) (bytes : List ℕ) (states : States) where
  abbrev as_pass : Ran → Passed
  as_pass r = record { answer = r.answer; changes = changes_of r.made }

  abbrev steps : (n : ℕ) → Ran → Line → (i : ℕ) → Ran
  steps n r l i = run_from classes bytes states n r l i (glyph_at l.glyphs l.used i) (leb l.used i)

  -- what a pass makes of the line, behind the steps so far
  abbrev passes : (n : ℕ) → Ran → Line → (i : ℕ) → Passed
  passes n r l i = after (changes_of r.made) (pass_from (ligature.step classes bytes states) n (state_of r) l i)

  -- a step behind those so far
  taken : (r n : Ran) → as_pass (over n.answer n.state n.stack (r.made ++ n.made)) ≡ after (changes_of r.made) (as_pass n)
  taken r n = ap (λ (cs : List Change). record { answer = n.answer; changes = cs }) (changes-append r.made n.made)

  -- the end call
  at-end : (r : Ran) (l : Line) (i : ℕ) → l.used ≡ i → as_pass (steps 1 r l i) ≡ passes 1 r l i
  at-end r l i e =
      ap as_pass (one-step classes bytes states r l i (glyph_at l.glyphs l.used i) (leb l.used i))
      ∙ ap₂ (λ (x : ℕ) (y : Bool). as_pass (with-step classes bytes states 0 r l i x y)) (glyph_past l.glyphs l.used i (omega (arith, e))) (le-leb l.used i (omega (arith, e)))
      ∙ taken r (next classes bytes states r.state r.stack i deleted true)
      ∙ ap (λ (k : ℕ). after (changes_of r.made) (as_pass (next classes bytes states r.state r.stack k deleted true))) (sym e)
      ∙ ap (after (changes_of r.made)) (sym (turn_ends (ligature.step classes bytes states) 0 (state_of r) l i (omega (arith, e))))

  module _ (n : ℕ) (r : Ran) (l : Line) (i : ℕ) (h : i < l.used) where
    abbrev here : Ran
    here = next classes bytes states r.state r.stack i (get_or l.glyphs i 0) false

    -- the steps so far and this one, and the line behind it
    abbrev so-far : Ran
    so-far = over here.answer here.state here.stack (r.made ++ here.made)

    abbrev behind : Line
    behind = ligated here.made l

    begins : as_pass (steps (suc n) r l i) ≡ as_pass (run_from classes bytes states (suc n) r l i (get_or l.glyphs i 0) false)
    begins =
        ap₂ (λ (x : ℕ) (y : Bool). as_pass (run_from classes bytes states (suc n) r l i x y)) (glyph-inside l.glyphs l.used i h) (lt-leb l.used i h)

    -- a step that is not DONE
    at-stop : is_done here.answer ≡ false → as_pass (steps (suc n) r l i) ≡ passes (suc n) r l i
    at-stop d =
        begins
        ∙ ap as_pass (last_step classes bytes states n r l i (get_or l.glyphs i 0) false d)
        ∙ taken r here
        ∙ ap (after (changes_of r.made)) (sym (turn_stops (ligature.step classes bytes states) n (state_of r) l i h d))

    -- any other, with what the rest gives
    at-step : is_done here.answer ≡ true → as_pass (steps n so-far behind (i + 1)) ≡ passes n so-far behind (i + 1)
        → as_pass (steps (suc n) r l i) ≡ passes (suc n) r l i
    at-step d later =
        begins
        ∙ ap as_pass (more-steps classes bytes states n r l i (get_or l.glyphs i 0) false d)
        ∙ later
        ∙ ap (λ (cs : List Change). record { answer = whole.answer; changes = cs ++ whole.changes }) (changes-append r.made here.made)
        ∙ ap (λ (cs : List Change). record { answer = whole.answer; changes = cs }) (append_assoc (changes_of r.made) (changes_of here.made) whole.changes)
        ∙ ap (λ (k : ℕ). after (changes_of r.made) (after (changes_of here.made) (pass_from (ligature.step classes bytes states) n (state_of here) behind (i + k)))) (sym one)
        ∙ ap (after (changes_of r.made)) (sym (turn_goes (ligature.step classes bytes states) n (state_of r) l i h d))
      where
        whole : Passed
        whole = pass_from (ligature.step classes bytes states) n (state_of here) behind (i + 1)

        one : advance_of here.answer ≡ 1
        one = rw d

  run_passes : (n : ℕ) (r : Ran) (l : Line) (i : ℕ) → l.used ≡ i + n → as_pass (steps (suc n) r l i) ≡ passes (suc n) r l i
  run_passes zero r l i e = at-end r l i (omega (arith, e))
  run_passes (suc n) r l i e = go (λ k m. run_passes n k m (i + 1)) (is_done (here (suc n) r l i h).answer) refl
    where
      h : i < l.used
      h = omega (arith, e)

      go : ((k : Ran) (m : Line) → m.used ≡ i + 1 + n → as_pass (steps (suc n) k m (i + 1)) ≡ passes (suc n) k m (i + 1))
          → (d : Bool) → is_done (here (suc n) r l i h).answer ≡ d → as_pass (steps (suc (suc n)) r l i) ≡ passes (suc (suc n)) r l i
      go later false d = at-stop (suc n) r l i h d
      go later true d =
          at-step (suc n) r l i h d
          (later (so-far (suc n) r l i h) (behind (suc n) r l i h) (omega (arith, used-kept (here (suc n) r l i h).made l, e)))

module _ (index bytes : List ℕ) (states : States) (l : Line) where
  abbrev classes : ℕ → ℕ
  classes = classes_by index (class_of bytes states)

  from_fresh : (steps : ℕ) → LigatureState → (glyph : ℕ) → (ends : Bool) → Ran
  from_fresh steps s glyph ends = run index bytes states steps s.state (stack_in s) l 0 glyph ends

  whole-pass : as_pass classes bytes states (from_fresh (suc l.used) fresh (glyph_at l.glyphs l.used 0) (leb l.used 0)) ≡ passed (indexed index ligature) bytes states l
  unfolding from_fresh run passed passed_by changes_of
  whole-pass =
      let n : suc l.used ≡ ligature.rest fresh l 0 = omega arith in
      run_passes classes bytes states l.used (over Answer'.Done fresh.state (stack_in fresh) []) l 0 (omega arith)
      ∙ ap (λ (turns : ℕ). pass_from (ligature.step classes bytes states) turns fresh l 0) n

  pub pass-ends : {steps : ℕ} {s : LigatureState} {stack stack' : Stack} {glyph : ℕ} {r : Reached} {glyphs' homes' : List ℕ} → steps ≡ suc l.used → s ≡ fresh
      → stack ≡ stack_in s → glyph ≡ glyph_at l.glyphs l.used 0
      → Leaves (stands_after (run index bytes states steps s.state stack l 0 glyph (eqb l.used 0)) l) r stack' glyphs' homes'
      → Ends (passed (indexed index ligature) bytes states l) l r.answer glyphs' homes'
  unfolding from_fresh
  pass-ends {steps} {s} {stack} {stack'} {glyph} {r} n f k g reaches =
      let same : run index bytes states steps s.state stack l 0 glyph (eqb l.used 0) ≡ from_fresh (suc l.used) fresh (glyph_at l.glyphs l.used 0) (leb l.used 0) =
      ap (λ (x : Stack). run index bytes states steps s.state x l 0 glyph (eqb l.used 0)) k
      ∙ ap (λ (t : LigatureState). from_fresh steps t glyph (eqb l.used 0)) f
      ∙ ap₂ (λ (m x : ℕ). from_fresh m fresh x (eqb l.used 0)) n g
      ∙ ap (from_fresh (suc l.used) fresh (glyph_at l.glyphs l.used 0)) (none-used l.used) in
      let w = ap (as_pass classes bytes states) same ∙ whole-pass in
      record {
        answers = ap (λ (x : Reached). x.answer) reaches.answers ∙ ap (λ (p : Passed). p.answer) w;
        left = reaches.written ∙ ap (λ (p : Passed). (apply_all p.changes l).glyphs) w;
        joined = reaches.joined ∙ ap (λ (p : Passed). (apply_all p.changes l).homes) w;
      }
