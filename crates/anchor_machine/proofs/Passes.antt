-- The pass's loops: what is left to do, behind the writes made, gives what the whole pass gives.
use Rattle.std.specs.Prelude.{Option, Some, None}
use Prim.Native.Nat.{ℕ, zero, suc, ◌+◌, ◌<◌, ◌≤◌}
use mathlib.Core.Path.{◌≡◌, refl, sym, ◌∙◌, ap, subst, subst⁻¹}
use mathlib.Core.Bool.{Bool, true, false}
use mathlib.Core.List.{List, [], ◌++◌, append_assoc}
use native.Mathlib.Omega.{arith}
use lib.Dec.{eqb}
use lib.IntN.{ℤ}
use lib.ListN.{get_or}
use borrow.Author.Tests.{lt-ltb, le-ltb, eqb-true, eqb-false}
use Rattle.answers.specs.declared.Answer.{Answer}
use Rattle.answers.specs.declared.Answer.TheVariants as Answer'
use Rattle.state_tables.specs.declared.entries.Entry.{Entry}
use Rattle.state_tables.specs.declared.opened.Classes.{Classes}
use Rattle.state_tables.specs.Classes.{class_of}
use Rattle.state_tables.specs.Entries.{entry_of}
use Rattle.state_tables.specs.Opened.{opened_classes, class_by, LiesIn, Remembers, nothing_found}
use Rattle.state_tables.proofs.Openings.{classes-lie, deleted-class, nothing_remembered}
use Rattle.machine.specs.Pass.{is_done}
use Rattle.machine.specs.Stall.{stalled, Falls}
use Rattle.machine.proofs.Stalls.{stall_falls}
use Rattle.indexes.specs.Index.{classes_by}
use Rattle.indexes.proofs.Laws.{opened-index}
use Rattle.anchor_machine.specs.Writes.{Write, writes_at, Anchored, after, nothing_written}
use Rattle.anchor_machine.specs.Machine.{fresh, acted, next, step_at, pass_from, rest, passed_by, passed_indexed}
use Rattle.anchor_machine.specs.Small.{IsOffset}
use Rattle.anchor_machine.specs.declared.Anchoring.{Anchoring}
use Rattle.anchor_machine.specs.declared.AnchorState.{AnchorState}
use Rattle.anchor_machine.specs.declared.AnchorStep.{AnchorStep}
use Rattle.anchor_machine.proofs.Writing.{Wrote, wrote_none, wrote_more, put_none}
use Rattle.anchor_machine.proofs.Acting.{Sound, next_sound, next_ended, next_acts}

-- one turn, by the answer of its step
module _ (classes : ℕ → ℕ) (ankr bytes : List ℕ) (anchoring : Anchoring) (glyphs : List ℕ) (used turns : ℕ) (s : AnchorState) (i : ℕ) where
  abbrev here : AnchorStep
  here = step_at classes ankr bytes anchoring glyphs used s i

  pub turn_goes : i < used → is_done here.answer ≡ true → pass_from classes ankr bytes anchoring glyphs used (suc turns) s i
      ≡ after (writes_at used i here.written) (pass_from classes ankr bytes anchoring glyphs used turns here.state (i + here.advance))
  unfolding pass_from
  turn_goes h e = rw (lt-ltb i used h, e, pass_from)

  pub turn_stops : i < used → is_done here.answer ≡ false → pass_from classes ankr bytes anchoring glyphs used (suc turns) s i
      ≡ record { answer = here.answer; writes = writes_at used i here.written }
  unfolding pass_from
  turn_stops h e = rw (lt-ltb i used h, e, pass_from)

  pub turn_ends : used ≤ i → pass_from classes ankr bytes anchoring glyphs used (suc turns) s i ≡ nothing_written Answer'.Done
  unfolding pass_from
  turn_ends h = rw (le-ltb i used h, pass_from)

-- the place of the next step: the same, or the next one
abbrev pub place_after : (stays : Bool) → (place : ℕ) → ℕ
place_after true place = place
place_after false place = place + 1

after_one : (advance place : ℕ) → advance ≤ 1 → place + advance ≡ place_after (eqb advance 0) place
after_one advance place h = go (eqb advance 0) refl
  where
    go : (b : Bool) → eqb advance 0 ≡ b → place + advance ≡ place_after b place
    go true e = omega (arith, eqb-true advance 0 e)
    go false e = omega (arith, eqb-false advance 0 e)

more_turns : (n m : ℕ) → m ≤ n → 0 < m → (k : ℕ) × (n ≡ suc k)
more_turns zero m h p = absurd (omega arith)
more_turns (suc n) m h p = (n, refl)

module _ (index ankr bytes : List ℕ) (anchoring : Anchoring) (glyphs : List ℕ) (used : ℕ) (x₀ y₀ : List ℤ) (back₀ : List ℕ) where
  abbrev classes : ℕ → ℕ
  classes = classes_by index (class_of bytes anchoring.states)

  abbrev from : ℕ → AnchorState → ℕ → Anchored
  from turns s i = pass_from classes ankr bytes anchoring glyphs used turns s i

  -- what the loops know at place i
  pub record Going (opened : Classes) (memo : List ℕ) (x y : List ℤ) (back : List ℕ) (s : AnchorState) (i : ℕ) : Type 0 where
    pub table : opened ≡ opened_classes bytes anchoring.states.edition
    pub remembers : Remembers (class_by bytes opened) memo
    pub turns : ℕ
    pub enough : rest used s i ≤ turns
    pub done : List Write
    pub wrote : Wrote done x₀ y₀ back₀ x y back
    pub same : after done (from turns s i) ≡ passed_indexed index ankr bytes anchoring glyphs used
    pub cycles : s.cycles ≤ 17
    pub within : i ≤ used

  -- what a pass that ends here answers and leaves
  pub record Ends (answer : Answer) (x y : List ℤ) (back : List ℕ) : Type 0 where
    pub answers : answer ≡ (passed_indexed index ankr bytes anchoring glyphs used).answer
    pub wrote : Wrote (passed_indexed index ankr bytes anchoring glyphs used).writes x₀ y₀ back₀ x y back

  module _ {opened : Classes} {memo : List ℕ} {x y : List ℤ} {back : List ℕ} {s : AnchorState} {i : ℕ} (g : Going opened memo x y back s i) where
    pub going_lies : LiesIn bytes opened
    going_lies = subst⁻¹ (LiesIn bytes) g.table (classes-lie bytes anchoring.states.edition)

    one_more : (k : ℕ) × (g.turns ≡ suc k)
    one_more = more_turns g.turns (rest used s i) g.enough (omega (arith, g.cycles))

    whole_is : (k : ℕ) → g.turns ≡ suc k → (r : Anchored) → from (suc k) s i ≡ r → after g.done r ≡ passed_indexed index ankr bytes anchoring glyphs used
    whole_is k e r f = ap (after g.done) (sym (rw e f)) ∙ g.same

    ends : (r : Anchored) → after g.done r ≡ passed_indexed index ankr bytes anchoring glyphs used → {x' y' : List ℤ} {back' : List ℕ} → Wrote r.writes x y back x' y' back'
        → Ends r.answer x' y' back'
    ends r e {x'} {y'} {back'} w =
        record {
          answers = ap (λ (a : Anchored). a.answer) e;
          wrote = subst (λ (a : Anchored). Wrote a.writes x₀ y₀ back₀ x' y' back') e (wrote_more g.wrote w);
        }

    -- the line is done
    pub going_end : used ≤ i → Ends Answer'.Done x y back
    going_end h =
        let (k, f) = one_more in
        ends (nothing_written Answer'.Done) (whole_is k f (nothing_written Answer'.Done) (turn_ends classes ankr bytes anchoring glyphs used k s i h)) (wrote_none x y back)

    -- by what the code reads there
    module _ (h : i < used) {class : ℕ} {entered : (Option Entry)} (k : class ≡ classes_by index (class_by bytes opened) (get_or glyphs i 0))
        (r : entered ≡ entry_of bytes anchoring.states s.state class 2) where
      abbrev at : AnchorStep
      at = next classes ankr bytes anchoring s i (get_or glyphs i 0)

      class-here : class ≡ classes (get_or glyphs i 0)
      class-here = k ∙ ap (λ (f : ℕ → ℕ). f (get_or glyphs i 0)) (opened-index index bytes anchoring.states g.table)

      sound : Sound s.cycles at
      sound = next_sound classes ankr bytes anchoring s i (get_or glyphs i 0)

      -- a step that is not DONE
      stops : is_done at.answer ≡ false → Ends at.answer x y back
      stops d =
          let (n, f) = one_more in
          ends (record { answer = at.answer; writes = writes_at used i at.written })
          (whole_is n f (record { answer = at.answer; writes = writes_at used i at.written }) (turn_stops classes ankr bytes anchoring glyphs used n s i h d))
          (put_none used i x y back (sound.silent d))

      -- no entry
      pub going_ended : entered ≡ None → Ends Answer'.Ended x y back
      going_ended e =
          let n = next_ended classes ankr bytes anchoring s i (get_or glyphs i 0) class-here r e in
          subst⁻¹ (λ (t : AnchorStep). Ends t.answer x y back) n (stops (subst (λ (t : AnchorStep). is_done t.answer ≡ false) n refl))

      -- an entry
      module _ {entry : Entry} {step : AnchorStep} (e : entered ≡ Some entry) (a : step ≡ acted ankr bytes anchoring s entry i (get_or glyphs i 0)) where
        acted-at : step ≡ at
        acted-at = a ∙ next_acts classes ankr bytes anchoring s i (get_or glyphs i 0) class-here r e

        pub going_small : IsOffset step.written
        going_small = subst⁻¹ (λ (t : AnchorStep). IsOffset t.written) acted-at sound.small

        pub going_stops : is_done step.answer ≡ false → Ends step.answer x y back
        going_stops d =
            subst⁻¹ (λ (t : AnchorStep). Ends t.answer x y back) acted-at (stops (subst (λ (t : AnchorStep). is_done t.answer ≡ false) acted-at d))

        module _ (d : is_done step.answer ≡ true) where
          done_at : is_done at.answer ≡ true
          done_at = subst (λ (t : AnchorStep). is_done t.answer ≡ true) acted-at d

          falls : Falls s.cycles used i (stalled s.cycles sound.stays)
          falls = stall_falls s.cycles used i sound.stays g.cycles h

          advances : i + step.advance ≡ place_after (eqb step.advance 0) i
          advances =
              after_one step.advance i
              (subst⁻¹ (λ (t : AnchorStep). t.advance ≤ 1) acted-at
              (omega (arith, (stall_falls s.cycles (i + 1) i sound.stays g.cycles (omega arith)).within, (sound.stalls done_at).1)))

          at_less : rest used at.state (i + at.advance) < rest used s i
          at_less = omega (arith, falls.less, (sound.stalls done_at).0, (sound.stalls done_at).1)

          pub going_less : rest used step.state (place_after (eqb step.advance 0) i) < rest used s i
          going_less =
              subst (λ (n : ℕ). rest used step.state n < rest used s i) advances
              (subst⁻¹ (λ (t : AnchorStep). rest used t.state (i + t.advance) < rest used s i) acted-at at_less)

          at_goes : {memo' : List ℕ} {x' y' : List ℤ} {back' : List ℕ} → Remembers (class_by bytes opened) memo' → Wrote (writes_at used i at.written) x y back x' y' back'
              → Going opened memo' x' y' back' at.state (i + at.advance)
          at_goes m w =
              let (n, f) = one_more in
              let then : Anchored = from n at.state (i + at.advance) in
              record {
                table = g.table;
                remembers = m;
                turns = n;
                enough = omega (arith, g.enough, f, at_less);
                done = g.done ++ writes_at used i at.written;
                wrote = wrote_more g.wrote w;
                same =
                    ap (λ (ws : List Write). record { answer = then.answer; writes = ws }) (append_assoc g.done (writes_at used i at.written) then.writes)
                    ∙ whole_is n f (after (writes_at used i at.written) then) (turn_goes classes ankr bytes anchoring glyphs used n s i h done_at);
                cycles = omega (arith, falls.sound, (sound.stalls done_at).0);
                within = omega (arith, falls.within, (sound.stalls done_at).1);
              }

          pub going_goes : {memo' : List ℕ} {x' y' : List ℤ} {back' : List ℕ} → Remembers (class_by bytes opened) memo'
              → Wrote (writes_at used i step.written) x y back x' y' back'
              → Going opened memo' x' y' back' step.state (place_after (eqb step.advance 0) i)
          going_goes {memo'} {x'} {y'} {back'} m w =
              subst (λ (n : ℕ). Going opened memo' x' y' back' step.state n) advances
              (subst⁻¹ (λ (t : AnchorStep). Going opened memo' x' y' back' t.state (i + t.advance)) acted-at
              (at_goes m (subst (λ (t : AnchorStep). Wrote (writes_at used i t.written) x y back x' y' back') acted-at w)))

-- the steps at one place lead on, whatever the pass began with
pub record Staying (index ankr bytes : List ℕ) (anchoring : Anchoring) (glyphs : List ℕ) (used : ℕ) (opened : Classes) (place : ℕ) (memo₁ : List ℕ) (x₁ y₁ : List ℤ)
    (back₁ : List ℕ) (s₁ : AnchorState) (memo : List ℕ) (x y : List ℤ) (back : List ℕ) (s : AnchorState) (stays : Bool) : Type 0 where
  pub leads : (x₀ y₀ : List ℤ) (back₀ : List ℕ) → Going index ankr bytes anchoring glyphs used x₀ y₀ back₀ opened memo₁ x₁ y₁ back₁ s₁ place
      → Going index ankr bytes anchoring glyphs used x₀ y₀ back₀ opened memo x y back s (place_after stays place)

module _ {index ankr bytes : List ℕ} {anchoring : Anchoring} {glyphs : List ℕ} {used : ℕ} {opened : Classes} {place : ℕ} {memo₁ : List ℕ} {x₁ y₁ : List ℤ} {back₁ : List ℕ}
    {s₁ : AnchorState} {memo : List ℕ} {x y : List ℤ} {back : List ℕ} {s : AnchorState} {stays : Bool}
    (t : Staying index ankr bytes anchoring glyphs used opened place memo₁ x₁ y₁ back₁ s₁ memo x y back s stays) {x₀ y₀ : List ℤ} {back₀ : List ℕ}
    (g : Going index ankr bytes anchoring glyphs used x₀ y₀ back₀ opened memo₁ x₁ y₁ back₁ s₁ place) where
  led : (b : Bool) → stays ≡ b → Going index ankr bytes anchoring glyphs used x₀ y₀ back₀ opened memo x y back s (place_after b place)
  led b e = subst (λ (v : Bool). Going index ankr bytes anchoring glyphs used x₀ y₀ back₀ opened memo x y back s (place_after v place)) e (t.leads x₀ y₀ back₀ g)

  pub still_here : stays ≡ true → Going index ankr bytes anchoring glyphs used x₀ y₀ back₀ opened memo x y back s place
  still_here = led true

  pub moved_on : stays ≡ false → Going index ankr bytes anchoring glyphs used x₀ y₀ back₀ opened memo x y back s (place + 1)
  moved_on = led false

pub going_start : (index ankr bytes : List ℕ) (anchoring : Anchoring) (glyphs : List ℕ) (used : ℕ) (x y : List ℤ) (back : List ℕ) {opened : Classes} {memo : List ℕ}
    {s : AnchorState} → opened ≡ opened_classes bytes anchoring.states.edition → memo ≡ nothing_found → s ≡ fresh
    → Going index ankr bytes anchoring glyphs used x y back opened memo x y back s 0
unfolding passed_indexed passed_by
going_start index ankr bytes anchoring glyphs used x y back {opened} {memo} o m e =
    subst⁻¹ (λ (t : AnchorState). Going index ankr bytes anchoring glyphs used x y back opened memo x y back t 0) e
    (record {
      table = o;
      remembers = subst⁻¹ (Remembers (class_by bytes opened)) m (nothing_remembered (deleted-class bytes opened));
      turns = rest used fresh 0;
      enough = omega arith;
      done = [];
      wrote = wrote_none x y back;
      same = refl;
      cycles = omega arith;
      within = omega arith;
    })
