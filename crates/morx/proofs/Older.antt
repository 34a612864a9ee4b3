-- Passes by a mort subtable and runs over a mort table leave homes and the used length.
use Prim.Native.Nat.{ℕ, zero, suc}
use mathlib.Core.Path.{◌≡◌, refl, ◌∙◌, ap, subst⁻¹}
use mathlib.Core.Bool.{Bool, true, false, cond}
use mathlib.Core.List.{List, [], ◌∷◌}
use lib.Dec.{eqb}
use lib.ListN.{length, drop}
use Rattle.answers.specs.Limits.{head_limit}
use Rattle.answers.specs.Refuse.{refuse}
use Rattle.line.specs.Line.{Line}
use Rattle.line.specs.Changes.{Change, apply, apply_all}
use Rattle.line.proofs.Histories.{apply_all-append}
use Rattle.machine.specs.Pass.{is_done}
use Rattle.machine.specs.Machine.{call_leaves}
use Rattle.machine.proofs.Having.{if_passed_lem}
use Rattle.mort.specs.Mort.{has_kind}
use Rattle.chains.specs.Orders.{is_reversed}
use Rattle.chains.specs.Walk.{walk_of}
use Rattle.chains.specs.declared.Edition.TheVariants.{Mort}
use Rattle.chains.specs.declared.Head.{Head}
use Rattle.chains.specs.declared.Head.TheVariants as Head'
use Rattle.morx.specs.Kinds.{kind_of, kind_at, subtable_of_kind, any_subtable}
use Rattle.morx.specs.Run.{is_passed_over, turned_work, visit_subtable, visit, visit_leaves, flags_after, Ran, run_over, ran}
use Rattle.morx.specs.Calls.{run_tests, run_call, run_leaves}
use Rattle.morx.specs.declared.Choices.{Choices}
use Rattle.morx.specs.declared.Kind.TheVariants.{OldRearrangement, OldNonContextual, LeftOut}
use Rattle.morx.proofs.Kept.{Has, kept-none, call_keeps}
use Rattle.morx.proofs.Machines.{window-homes, window-used, write-homes, write-used, kept-old-rearrangement, kept-old-noncontextual}
use Rattle.morx.proofs.Runs.{run_none, run-limit, run_stops, run-goes}

module _ {X : Type 0} (part : Line → X) (windows : (first last verb : ℕ) (l : Line) → part (apply (Change.window first last verb) l) ≡ part l)
    (writes : (at glyph : ℕ) (l : Line) → part (apply (Change.write at glyph) l) ≡ part l) where
  kept_kind : (turns looks : Bool) (bytes : List ℕ) (l : Line)
      → Has part ((subtable_of_kind (cond turns OldRearrangement (cond looks OldNonContextual LeftOut))).worked bytes l).changes l
  unfolding subtable_of_kind
  kept_kind true looks bytes l = kept-old-rearrangement part windows bytes l
  kept_kind false true bytes l = kept-old-noncontextual part writes bytes l
  kept_kind false false bytes l = kept-none part l

  kept-old : (bytes : List ℕ) (l : Line) → Has part ((any_subtable Mort).worked bytes l).changes l
  unfolding kind_at
  kept-old bytes l = kept_kind (has_kind bytes 0) (has_kind bytes 4) bytes l

  -- in a run
  module _ (turns : (l : Line) → part (apply Change.reversal l) ≡ part l) (table : List ℕ) (right_to_left : Bool) (requests : List ℕ) where
    abbrev choices : Choices
    choices = record { right_to_left = right_to_left; edition = Mort }

    kept-turned : (turned : Bool) (number : ℕ) (bytes : List ℕ) (l : Line) → Has part (turned_work turned (kind_of Mort number) bytes l).changes l
    unfolding turned_work kind_of apply_all
    kept-turned false number bytes l = kept_kind (eqb number 0) (eqb number 4) bytes l
    kept-turned true number bytes l =
        let made : List Change = ((subtable_of_kind (kind_of Mort number)).worked bytes (apply Change.reversal l)).changes in
        ap part (apply_all-append (Change.reversal ∷ made) (Change.reversal ∷ []) l)
        ∙ turns (apply_all made (apply Change.reversal l))
        ∙ kept_kind (eqb number 0) (eqb number 4) bytes (apply Change.reversal l)
        ∙ turns l

    kept-visit : (flags : ℕ) (head : Head) (l : Line) → Has part (visit table choices flags head l).changes l
    unfolding visit visit_subtable
    kept-visit flags (Head'.Chain chain) l = kept-none part l
    kept-visit flags (Head'.Subtable s) l = go (is_passed_over Mort flags s (drop s.place table)) refl
      where
        go : (b : Bool) → is_passed_over Mort flags s (drop s.place table) ≡ b → Has part (visit_subtable table choices flags s l).changes l
        go true e = rw (e, visit_subtable) (kept-none part l)
        go false e = rw (e, visit_subtable) (kept-turned (is_reversed s.order right_to_left) s.kind (drop s.place table) l)

    kept-over : (left flags : ℕ) (heads : List Head) (l : Line) → Has part (run_over table choices left flags heads l requests).changes l
    unfolding visit_leaves
    kept-over left flags [] l = subst⁻¹ (λ (r : Ran). Has part r.changes l) (run_none table choices left flags l requests) (kept-none part l)
    kept-over zero flags (head ∷ heads) l =
        subst⁻¹ (λ (r : Ran). Has part r.changes l) (run-limit table choices 0 flags l requests head heads) (kept-none part l)
    kept-over (suc left) flags (head ∷ heads) l =
        go (kept-over left (flags_after table head flags requests) heads (visit_leaves table choices flags head l)) (is_done (visit table choices flags head l).answer) refl
      where
        go : Has part (run_over table choices left (flags_after table head flags requests) heads (visit_leaves table choices flags head l) requests).changes
            (visit_leaves table choices flags head l)
            → (b : Bool) → is_done (visit table choices flags head l).answer ≡ b → Has part (run_over table choices (suc left) flags (head ∷ heads) l requests).changes l
        go then false e =
            subst⁻¹ (λ (r : Ran). Has part r.changes l) (run_stops table choices left flags l requests head heads e) (kept-visit flags head l)
        go then true e =
            subst⁻¹ (λ (r : Ran). Has part r.changes l) (run-goes table choices left flags l requests head heads e)
            (ap part (apply_all-append (visit table choices flags head l).changes _ l) ∙ then ∙ kept-visit flags head l)

    kept_run : (start : ℕ) (l : Line) → part (run_leaves table start choices l requests) ≡ part l
    unfolding run_leaves run_call ran
    kept_run start l =
        if_passed_lem (λ (r : Ran). Has part r.changes l) _ (λ why. kept-none part l) (refuse (run_tests (length table) start l requests))
        (ran table start choices l requests) (kept-over head_limit 0 (walk_of Mort table start) l)

-- a reversal leaves both
turned-homes : (l : Line) → (apply Change.reversal l).homes ≡ l.homes
unfolding apply
turned-homes l = refl

turned-used : (l : Line) → (apply Change.reversal l).used ≡ l.used
unfolding apply
turned-used l = refl

module _ (table : List ℕ) (start : ℕ) (l : Line) where
  pub old-homes : (call_leaves (any_subtable Mort) table start l).homes ≡ l.homes
  old-homes = call_keeps (λ (x : Line). x.homes) (any_subtable Mort) (kept-old (λ (x : Line). x.homes) window-homes write-homes) table start l

  pub old-used : (call_leaves (any_subtable Mort) table start l).used ≡ l.used
  old-used = call_keeps (λ (x : Line). x.used) (any_subtable Mort) (kept-old (λ (x : Line). x.used) window-used write-used) table start l

  module _ (right_to_left : Bool) (requests : List ℕ) where
    pub old-run-homes : (run_leaves table start (record { right_to_left = right_to_left; edition = Mort }) l requests).homes ≡ l.homes
    old-run-homes = kept_run (λ (x : Line). x.homes) window-homes write-homes turned-homes table right_to_left requests start l

    pub old-run-used : (run_leaves table start (record { right_to_left = right_to_left; edition = Mort }) l requests).used ≡ l.used
    old-run-used = kept_run (λ (x : Line). x.used) window-used write-used turned-used table right_to_left requests start l
