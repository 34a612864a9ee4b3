-- Calls of anchored passes, runs and steps: their tests, what a call that passes them may rely on, and what it answers and leaves.
use Rattle.std.specs.Prelude.{Result, Ok, Err}
use Prim.Native.Nat.{ℕ, ◌≤◌, ◌^◌}
use mathlib.Core.Path.{◌≡◌, refl, sym, ◌∙◌, ap, ap₂}
use mathlib.Core.Bool.{Bool, true, not}
use mathlib.Core.List.{List, [], ◌∷◌, ◌++◌}
use native.Mathlib.Omega.{arith}
use lib.Dec.{eqb}
use lib.IntN.{ℤ}
use lib.ListN.{length, take, drop}
use lib.Seq.{length-take-le}
use borrow.Author.Tests.{not-false, eqb-true}
use Rattle.laws.specs.Lists.{both}
use Rattle.laws.proofs.Lists.{both_left, both_right}
use Rattle.answers.specs.Limits.{room_limit}
use Rattle.answers.specs.Refuse.{Test, refuse, table_test}
use Rattle.answers.specs.declared.Answer.{Answer}
use Rattle.answers.specs.declared.Answer.TheVariants as Answer'
use Rattle.answers.specs.declared.Refusal.{Refusal}
use Rattle.answers.specs.declared.Refusal.TheVariants as Refusal'
use Rattle.answers.proofs.Refusals.{passed_here, passed_later}
use Rattle.line.specs.Line.{Line, line_of}
use Rattle.kerning.specs.Bounds.{Within}
use Rattle.kerning.specs.Line.{is_kernable, is_taken}
use Rattle.kerning.specs.declared.choices.Choices.{Choices}
use Rattle.kerning.proofs.Adding.{within_more}
use Rattle.kerning.proofs.Calls.{Kernable, Taken, kernable_of, taken_of}
use Rattle.anchors.specs.Anchors.{anchor_test}
use Rattle.anchor_machine.specs.Writes.{write_x, write_y, write_back, are_long}
use Rattle.anchor_machine.proofs.Writing.{Wrote}
use Rattle.kerning_lists.specs.Walk.{list_bytes, visited, walk_answer}
use Rattle.kerning_lists.specs.Run.{zeros, used_part}
use Rattle.kerning_lists.specs.Family.{walk_of, adds, ran}
use Rattle.kerning_lists.proofs.Calls.{Ready, RunIs, ran_is}
use Rattle.kerx.specs.Heads.{list_of}
use Rattle.kerx.specs.Kerx.{kerx}
use Rattle.kerx.specs.Lent.{Lent}
use Rattle.kerx.specs.Anchored.{AnchoredRan, pass_tests, run_tests, takes_pass, takes_run, run_call, ran_with, run_marks, nones}

-- TABLE, ANCHOR, LINE and what follows, from what the code has tested
module _ (n m : ℕ) (takes : Bool) (later : List Test) where
  abbrev line_test : Test
  line_test = record { holds = not takes; refusal = Refusal'.Line }

  abbrev tests : List Test
  tests = table_test n ∷ anchor_test m ∷ line_test ∷ later

  -- a call that passes them
  tests_takes : refuse tests ≡ Ok tt → takes ≡ true
  tests_takes e =
      not-false takes (passed_here line_test later (passed_later (anchor_test m) (line_test ∷ later) (passed_later (table_test n) (anchor_test m ∷ line_test ∷ later) e)))

-- what the work may rely on
pub record Lies (glyphs tags : List ℕ) (used : ℕ) (along x y : List ℤ) (back : List ℕ) : Type 0 where
  pub ready : Ready glyphs tags used along
  pub long-x : used ≤ length x
  pub long-y : used ≤ length y
  pub long-back : used ≤ length back

lies_of : (glyphs tags homes : List ℕ) (used : ℕ) (along x y : List ℤ) (back : List ℕ) → Kernable (line_of glyphs tags homes used) along
    → are_long (length glyphs) x y back ≡ true → Lies glyphs tags used along x y back
unfolding are_long
lies_of glyphs tags homes used along x y back k long =
    let room : ℕ = length glyphs in
    let first = both_left (eqb (length x) room) (both (eqb (length y) room) (eqb (length back) room)) long in
    let rest = both_right (eqb (length x) room) (both (eqb (length y) room) (eqb (length back) room)) long in
    let second = both_left (eqb (length y) room) (eqb (length back) room) rest in
    let third = both_right (eqb (length y) room) (eqb (length back) room) rest in
    record {
      ready =
          record {
            inside = k.valid.within;
            tagged = omega (arith, k.valid.within, k.valid.paired);
            long = omega (arith, k.valid.within, k.long);
            limited = omega (arith, k.valid.within, k.valid.limited);
          };
      long-x = omega (arith, k.valid.within, eqb-true (length x) room first);
      long-y = omega (arith, k.valid.within, eqb-true (length y) room second);
      long-back = omega (arith, k.valid.within, eqb-true (length back) room third);
    }

-- a lone pass
module _ (n m : ℕ) (glyphs tags homes : List ℕ) (used : ℕ) (along x y : List ℤ) (back : List ℕ) {takes : Bool} {check : (Result Unit Refusal)}
    (t : takes ≡ takes_pass (line_of glyphs tags homes used) along x y back) (e : check ≡ refuse (pass_tests n m takes)) (f : check ≡ (Ok tt)) where
  abbrev line : Line
  line = line_of glyphs tags homes used

  taken : both (are_long (length glyphs) x y back) (is_taken line along) ≡ true
  unfolding pass_tests takes_pass
  taken = sym t ∙ tests_takes n m takes [] (sym e ∙ f)

  fits : Taken line along
  fits = taken_of line along (both_right (are_long (length glyphs) x y back) (is_taken line along) taken)

  pub pass-lies : (used ≤ length glyphs) × (used ≤ length along) × (used ≤ room_limit) × Within (2 ^ 60) along × (used ≤ length x) × (used ≤ length y) × (used ≤ length back)
  pass-lies =
      let r = lies_of glyphs tags homes used along x y back fits.kernable (both_left (are_long (length glyphs) x y back) (is_taken line along) taken) in (
        r.ready.inside,
        r.ready.long,
        r.ready.limited,
        within_more (omega arith) fits.modest,
        r.long-x,
        r.long-y,
        r.long-back,
      )

-- a run
module _ (n m start : ℕ) (glyphs tags homes : List ℕ) (used : ℕ) (along x y : List ℤ) (back : List ℕ) {takes : Bool} {check : (Result Unit Refusal)}
    (t : takes ≡ takes_run (line_of glyphs tags homes used) along x y back) (e : check ≡ refuse (run_tests n m start takes)) (f : check ≡ (Ok tt)) where
  abbrev run_line : Line
  run_line = line_of glyphs tags homes used

  kernable : both (are_long (length glyphs) x y back) (is_kernable run_line along) ≡ true
  unfolding run_tests takes_run
  kernable = sym t ∙ tests_takes n m takes _ (sym e ∙ f)

  pub run_lies : Lies glyphs tags used along x y back
  run_lies =
      lies_of glyphs tags homes used along x y back (kernable_of run_line along (both_right (are_long (length glyphs) x y back) (is_kernable run_line along) kernable))
      (both_left (are_long (length glyphs) x y back) (is_kernable run_line along) kernable)

-- the used parts that are lent
pub part_length : {A : Type 0} (used : ℕ) (xs : List A) → used ≤ length xs → length (take used xs) ≡ used
part_length used xs h = length-take-le used xs h

pub lies_lent : (glyphs tags : List ℕ) (used : ℕ) (along x y : List ℤ) (back : List ℕ) → Lies glyphs tags used along x y back
    → (length (take used along) ≤ length glyphs)
    × (length (take used along) ≤ length tags)
    × (length (take used along) ≤ room_limit)
    × Lent (length (take used along)) (take used x) (take used y) (take used back)
lies_lent glyphs tags used along x y back r =
    let a = part_length used along r.ready.long in
    let i = part_length used x r.long-x in (
      omega (arith, a, r.ready.inside),
      omega (arith, a, r.ready.tagged),
      omega (arith, a, r.ready.limited),
      record { long-y = part_length used y r.long-y ∙ sym i; long-back = part_length used back r.long-back ∙ sym i; some = λ h. i ∙ sym a },
    )

-- what a run answers, counts and leaves
pub record RanIs (r : AnchoredRan) (answer : Answer) (read : ℕ) (along x y : List ℤ) (back : List ℕ) : Type 0 where
  pub plain : RunIs r.ran answer read along
  pub xs : x ≡ r.x
  pub ys : y ≡ r.y
  pub backs : back ≡ r.back

module _ (table ankr : List ℕ) (start : ℕ) (rtl : Bool) (l : Line) (along x y : List ℤ) (back : List ℕ) (choices : Choices) {takes : Bool} {check : (Result Unit Refusal)}
    (t : takes ≡ takes_run l along x y back) (e : check ≡ refuse (run_tests (length table) (length ankr) start takes)) where
  run_tested : check ≡ refuse (run_tests (length table) (length ankr) start (takes_run l along x y back))
  run_tested = e ∙ ap (λ (b : Bool). refuse (run_tests (length table) (length ankr) start b)) t

  pub run_refused : {why : Refusal} → check ≡ Err why
      → RanIs (run_call table ankr start rtl l along x y back choices) (Answer'.Refused why) 0 along x y back
  unfolding run_call
  run_refused f =
      rw (sym run_tested ∙ f) (record { plain = record { answers = refl; counts = refl; leaves = refl }; xs = refl; ys = refl; backs = refl })

  pub run-passed : {bytes : List ℕ} {n i j k read : ℕ} {answer : Answer} {part px py : List ℤ} {pback : List ℕ} → check ≡ Ok tt → bytes ≡ list_bytes table start
      → n ≡ l.used → i ≡ l.used → j ≡ l.used → k ≡ l.used → answer ≡ walk_answer (walk_of kerx rtl bytes) → read ≡ length (visited (walk_of kerx rtl bytes))
      → part ≡ used_part (walk_of kerx rtl bytes) (adds kerx bytes (list_of bytes).version n choices) l.glyphs n
      → Wrote (run_marks ankr bytes rtl l.glyphs n choices) (zeros i) (zeros j) (nones k) px py pback
      → RanIs (run_call table ankr start rtl l along x y back choices) answer read (part ++ drop l.used along) (px ++ drop l.used x) (py ++ drop l.used y)
      (pback ++ drop l.used back)
  unfolding run_call ran_with ran
  run-passed f d u a b c ans r p w =
      let there : List ℕ = list_bytes table start in
      let g = ap₂ (λ (q : List ℕ) (m : ℕ). run_marks ankr q rtl l.glyphs m choices) d u in
      rw (sym run_tested ∙ f)
      (record {
        plain =
            ran_is (walk_of kerx rtl there) (adds kerx there (list_of there).version l.used choices) l.glyphs l.used along
            (ans ∙ ap (λ (q : List ℕ). walk_answer (walk_of kerx rtl q)) d)
            (r ∙ ap (λ (q : List ℕ). length (visited (walk_of kerx rtl q))) d)
            (p ∙ ap₂ (λ (q : List ℕ) (m : ℕ). used_part (walk_of kerx rtl q) (adds kerx q (list_of q).version m choices) l.glyphs m) d u);
        xs = ap (λ (q : List ℤ). q ++ drop l.used x) (w.xs ∙ ap₂ write_x g (ap zeros a));
        ys = ap (λ (q : List ℤ). q ++ drop l.used y) (w.ys ∙ ap₂ write_y g (ap zeros b));
        backs = ap (λ (q : List ℕ). q ++ drop l.used back) (w.backs ∙ ap₂ write_back g (ap nones c));
      })
