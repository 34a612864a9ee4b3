-- Anchors change nothing else: an anchored run answers, counts and adjusts as a run without them does, whatever the ankr table, and an anchored pass by
-- a subtable of another format is the pass without them.
use Rattle.std.specs.Prelude.{Option, Some, None, Result, Ok, Err}
use Rattle.answers.specs.declared.Refusal.{Refusal}
use Prim.Native.Nat.{ℕ, ◌≤◌}
use mathlib.Core.Path.{◌≡◌, refl}
use mathlib.Core.Bool.{Bool, true, false}
use mathlib.Core.List.{List}
use lib.IntN.{ℤ}
use lib.ListN.{length, drop}
use borrow.Author.Tests.{ne_eqb, le-ltb}
use Rattle.answers.specs.Limits.{table_limit}
use Rattle.answers.specs.Refuse.{refuse}
use Rattle.line.specs.Line.{Line}
use Rattle.kerning.specs.Additions.{Kerned, called_by}
use Rattle.kerning.specs.Line.{is_kernable, is_taken, kernable_test, taken_test, kerning_tests}
use Rattle.kerning.specs.declared.choices.Choices.{Choices}
use Rattle.anchors.specs.Anchors.{anchor_test}
use Rattle.anchor_machine.specs.Writes.{are_long}
use Rattle.kerning_lists.specs.Walk.{list_bytes}
use Rattle.kerning_lists.specs.Run.{unless_refused}
use Rattle.kerning_lists.specs.Run as Run'
use Rattle.kerning_lists.specs.Family.{ran, passed}
use Rattle.kerning_lists.specs.Family as Family'
use Rattle.kerning_lists.specs.declared.Subtable.{Subtable}
use Rattle.kerx.specs.Heads.{head_in}
use Rattle.kerx.specs.Kerx.{kerx}
use Rattle.kerx.specs.Anchored.{adding, worked_with, passed_with, pass_tests, marked_by, takes_pass, pass_call, ran_with, run_tests, takes_run, ran_unless_refused, run_call}

module _ (table ankr : List ℕ) (start : ℕ) (l : Line) (along x y : List ℤ) (back : List ℕ) (choices : Choices) (small : length ankr ≤ table_limit)
    (long : are_long (length l.glyphs) x y back ≡ true) where
  short-enough : (anchor_test (length ankr)).holds ≡ false
  unfolding anchor_test
  short-enough = le-ltb table_limit (length ankr) small

  run_takes : takes_run l along x y back ≡ is_kernable l along
  unfolding takes_run
  run_takes = rw long

  run_tests_lem : refuse (run_tests (length table) (length ankr) start (takes_run l along x y back)) ≡ refuse (Run'.run_tests (length table) start l along)
  unfolding refuse run_tests Run'.run_tests kernable_test
  run_tests_lem = rw (short-enough, run_takes)

  pub anchored-run : (rtl : Bool) → (run_call table ankr start rtl l along x y back choices).ran ≡ Family'.run_call kerx table start rtl l along choices
  unfolding run_call ran_with Family'.run_call
  anchored-run rtl = rw run_tests_lem (go (refuse (Run'.run_tests (length table) start l along)))
    where
      go : (check : Result Unit Refusal)
          → (ran_unless_refused check along x y back (ran_with ankr (list_bytes table start) rtl l.glyphs l.used along x y back choices)).ran
          ≡ unless_refused check along (ran kerx (list_bytes table start) rtl l.glyphs l.used along choices)
      go (Ok tt) = refl
      go (Err why) = refl

  pass_takes : takes_pass l along x y back ≡ is_taken l along
  unfolding takes_pass
  pass_takes = rw long

  pass_tests_lem : refuse (pass_tests (length table) (length ankr) (takes_pass l along x y back)) ≡ refuse (kerning_tests (length table) l along)
  unfolding refuse pass_tests kerning_tests taken_test
  pass_tests_lem = rw (short-enough, pass_takes)

  -- by a subtable whose head can't be read or tells another format
  module _ (version : ℕ) (other : (s : Subtable) → head_in false version 0 (drop start table) ≡ Some s → s.format ≡ 4 → ⊥) where
    worked_same : passed_with ankr (drop start table) version l.glyphs l.used choices ≡ adding (passed kerx (drop start table) version l.glyphs l.used choices)
    unfolding passed_with passed worked_with
    worked_same = go (head_in false version 0 (drop start table)) refl
      where
        go : (head : Option Subtable) → head_in false version 0 (drop start table) ≡ head
            → passed_with ankr (drop start table) version l.glyphs l.used choices ≡ adding (passed kerx (drop start table) version l.glyphs l.used choices)
        go (Some s) e = rw (e, ne_eqb s.format 4 (other s e))
        go None e = rw e

    pub anchored-pass : pass_call table ankr start version l along x y back choices ≡ adding (Family'.pass_call kerx table start version l along choices)
    unfolding pass_call Family'.pass_call
    anchored-pass =
        rw (pass_tests_lem, worked_same)
        (go (refuse (kerning_tests (length table) l along)) (passed kerx (drop start table) version l.glyphs l.used choices))
      where
        go : (check : Result Unit Refusal) (work : Kerned) → marked_by check (adding work) ≡ adding (called_by check work)
        go (Ok tt) work = refl
        go (Err why) work = refl
