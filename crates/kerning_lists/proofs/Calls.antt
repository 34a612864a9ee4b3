-- Calls of a run and of a lone pass: what a call that passes its tests may rely on, and what it answers and leaves.
use Rattle.std.specs.Prelude.{Result, Ok, Err}
use Prim.Native.Nat.{ℕ, ◌≤◌, ◌^◌}
use mathlib.Core.Path.{◌≡◌, refl, sym, ◌∙◌, ap, subst}
use mathlib.Core.List.{List, [], ◌++◌}
use native.Mathlib.Omega.{arith}
use lib.IntN.{ℤ}
use lib.ListN.{length, take, drop}
use lib.Seq.{length-take-le}
use Rattle.answers.specs.Limits.{room_limit}
use Rattle.answers.specs.Refuse.{Test, refuse}
use Rattle.answers.specs.declared.Refusal.{Refusal}
use Rattle.answers.specs.declared.Answer.{Answer}
use Rattle.answers.specs.declared.Answer.TheVariants as Answer'
use Rattle.line.specs.Line.{Line, line_of}
use Rattle.kerning.specs.Additions.{Addition, Kerned, add_all, called_by}
use Rattle.kerning.specs.Bounds.{Within}
use Rattle.kerning.specs.Line.{kerning_tests}
use Rattle.kerning.proofs.Adding.{add_all-none, within_more}
use Rattle.kerning.proofs.Calls.{Kernable, Taken, kernable_of, taken_pass}
use Rattle.kerning_lists.specs.Walk.{visited, walk_answer}
use Rattle.kerning_lists.specs.Run.{zeros, used_part, Ran, ran_over, run_tests, unless_refused}
use Rattle.kerning_lists.specs.declared.Subtable.{Subtable}
use Rattle.kerning_lists.proofs.Tests.{passed_kernable}
use Rattle.kerning_lists.proofs.Turns.{length-zeros, zeros_within}

-- what the work may rely on
pub record Ready (glyphs tags : List ℕ) (used : ℕ) (along : List ℤ) : Type 0 where
  pub inside : used ≤ length glyphs
  pub tagged : used ≤ length tags
  pub long : used ≤ length along
  pub limited : used ≤ room_limit

ready_of : (glyphs tags homes : List ℕ) (used : ℕ) (along : List ℤ) → Kernable (line_of glyphs tags homes used) along → Ready glyphs tags used along
ready_of glyphs tags homes used along k =
    record {
      inside = k.valid.within;
      tagged = omega (arith, k.valid.within, k.valid.paired);
      long = omega (arith, k.valid.within, k.long);
      limited = omega (arith, k.valid.within, k.valid.limited);
    }

pub run_ready : (n start : ℕ) (glyphs tags homes : List ℕ) (used : ℕ) (along : List ℤ) {check : (Result Unit Refusal)}
    → check ≡ refuse (run_tests n start (line_of glyphs tags homes used) along) → check ≡ Ok tt → Ready glyphs tags used along
run_ready n start glyphs tags homes used along e f =
    let l : Line = line_of glyphs tags homes used in
    ready_of glyphs tags homes used along (kernable_of l along (passed_kernable n start l along (sym e ∙ f)))

module _ (n : ℕ) (glyphs tags homes : List ℕ) (used : ℕ) (along : List ℤ) {check : (Result Unit Refusal)}
    (e : check ≡ refuse (kerning_tests n (line_of glyphs tags homes used) along)) (f : check ≡ (Ok tt)) where
  taken : Taken (line_of glyphs tags homes used) along
  taken = taken_pass n (line_of glyphs tags homes used) along (sym e ∙ f)

  pub pass_ready : Ready glyphs tags used along
  pass_ready = ready_of glyphs tags homes used along taken.kernable

  pub pass-modest : Within (2 ^ 60) along
  pass-modest = within_more (omega arith) taken.modest

-- what a pass answers and leaves
pub record Works (kerned : Kerned) (before : List ℤ) (answer : Answer) (after : List ℤ) : Type 0 where
  pub answers : answer ≡ kerned.answer
  pub leaves : after ≡ add_all kerned.additions before

pub works_same : {kerned other : Kerned} {before after : List ℤ} {answer : Answer} → other ≡ kerned → Works other before answer after
    → Works kerned before answer after
works_same {before = before} e w =
    record {
      answers = w.answers ∙ ap (λ (k : Kerned). k.answer) e;
      leaves = w.leaves ∙ ap (λ (k : Kerned). add_all k.additions before) e;
    }

pub works_nothing : {kerned : Kerned} {answer : Answer} (before : List ℤ) → record { answer = answer; additions = [] } ≡ kerned → Works kerned before answer before
works_nothing before e = works_same e (record { answers = refl; leaves = sym (add_all-none before) })

-- a call of a lone pass
module _ (tests : List Test) (kerned : Kerned) (before : List ℤ) {check : (Result Unit Refusal)} (e : check ≡ refuse tests) where
  pub call_refused : {why : Refusal} → check ≡ Err why → Works (called_by (refuse tests) kerned) before (Answer'.Refused why) before
  call_refused {why} f = works_nothing before (ap (λ (c : Result Unit Refusal). called_by c kerned) (sym (sym e ∙ f)))

  pub call_passed : {answer : Answer} {after : List ℤ} → check ≡ Ok tt → Works kerned before answer after
      → Works (called_by (refuse tests) kerned) before answer after
  call_passed f w = works_same (ap (λ (c : Result Unit Refusal). called_by c kerned) (sym (sym e ∙ f))) w

-- what a run answers, counts and leaves
pub record RunIs (ran : Ran) (answer : Answer) (read : ℕ) (after : List ℤ) : Type 0 where
  pub answers : answer ≡ ran.answer
  pub counts : read ≡ ran.heads
  pub leaves : after ≡ ran.along

run-same : {ran other : Ran} {answer : Answer} {read : ℕ} {after : List ℤ} → other ≡ ran → RunIs other answer read after → RunIs ran answer read after
run-same e r =
    record {
      answers = r.answers ∙ ap (λ (x : Ran). x.answer) e;
      counts = r.counts ∙ ap (λ (x : Ran). x.heads) e;
      leaves = r.leaves ∙ ap (λ (x : Ran). x.along) e;
    }

module _ (tests : List Test) (along : List ℤ) (ran : Ran) {check : (Result Unit Refusal)} (e : check ≡ refuse tests) where
  pub run_refused : {why : Refusal} → check ≡ Err why → RunIs (unless_refused (refuse tests) along ran) (Answer'.Refused why) 0 along
  run_refused f =
      run-same (ap (λ (c : Result Unit Refusal). unless_refused c along ran) (sym (sym e ∙ f))) (record { answers = refl; counts = refl; leaves = refl })

  pub run-passed : {answer : Answer} {read : ℕ} {after : List ℤ} → check ≡ Ok tt → RunIs ran answer read after
      → RunIs (unless_refused (refuse tests) along ran) answer read after
  run-passed f r = run-same (ap (λ (c : Result Unit Refusal). unless_refused c along ran) (sym (sym e ∙ f))) r

-- a run over a walk, by what it makes of the used part
pub ran_is : (walk : List Subtable) (work : Subtable → List ℕ → List Addition) (glyphs : List ℕ) (used : ℕ) (along : List ℤ)
    {answer : Answer} {read : ℕ} {part : List ℤ} → answer ≡ walk_answer walk → read ≡ length (visited walk) → part ≡ used_part walk work glyphs used
    → RunIs (ran_over walk work glyphs used along) answer read (part ++ drop used along)
unfolding ran_over
ran_is walk work glyphs used along a r p = record { answers = a; counts = r; leaves = ap (λ (x : List ℤ). x ++ drop used along) p }

-- so many zeroed adjustments may be run over
pub zeroed_ready : {n m : ℕ} {zero : List ℤ} → zero ≡ zeros n → n ≤ m → n ≤ room_limit
    → (length zero ≤ m) × (length zero ≤ length zero) × (length zero ≤ room_limit) × Within 0 zero
zeroed_ready {n} {m} {zero} e h k =
    let long : length zero ≡ n = ap length e ∙ length-zeros n in
    (omega arith, omega arith, omega arith, subst (Within 0) (sym e) (zeros_within n))

pub zeroed_ready_line : {n m k : ℕ} {zero : List ℤ} → zero ≡ zeros n → n ≤ m → n ≤ k → n ≤ room_limit
    → (length zero ≤ m) × (length zero ≤ k) × (length zero ≤ length zero) × (length zero ≤ room_limit) × Within 0 zero
zeroed_ready_line {n} {m} {k} {zero} e h i j =
    let long : length zero ≡ n = ap length e ∙ length-zeros n in
    (omega arith, omega arith, omega arith, omega arith, subst (Within 0) (sym e) (zeros_within n))

-- the used part that is lent
pub lent_length : (used : ℕ) (along : List ℤ) → used ≤ length along → length (take used along) ≡ used
lent_length used along h = length-take-le used along h

module _ (glyphs tags : List ℕ) (used : ℕ) (along : List ℤ) (r : Ready glyphs tags used along) where
  abbrev lent : List ℤ
  lent = take used along

  lent_is : length lent ≡ used
  lent_is = length-take-le used along r.long

  pub lent_ready : (length lent ≤ length glyphs) × (length lent ≤ room_limit)
  lent_ready = (omega (arith, lent_is, r.inside), omega (arith, lent_is, r.limited))

  pub lent_ready_line : (length lent ≤ length glyphs) × (length lent ≤ length tags) × (length lent ≤ room_limit)
  lent_ready_line = (omega (arith, lent_is, r.inside), omega (arith, lent_is, r.tagged), omega (arith, lent_is, r.limited))
