-- What runs add to the history: on every valid line their changes are legal.
use Prim.Native.Nat.{ℕ, zero, suc}
use mathlib.Core.Path.{◌≡◌, refl, subst⁻¹}
use mathlib.Core.Bool.{Bool, true, false}
use mathlib.Core.List.{List, [], ◌∷◌}
use lib.ListN.{length}
use Rattle.answers.specs.Refuse.{refuse}
use Rattle.line.specs.Line.{Line, Valid}
use Rattle.line.specs.Changes.{apply_all}
use Rattle.line.specs.History.{Fits}
use Rattle.machine.specs.Pass.{is_done}
use Rattle.machine.proofs.Having.{if_passed_lem}
use Rattle.machine.proofs.Quiet.{quiet_none, quiet_fits}
use Rattle.chains.specs.Walk.{walk_of}
use Rattle.chains.specs.declared.Head.{Head}
use Rattle.answers.specs.Limits.{head_limit}
use Rattle.morx.specs.Run.{visit, visit_leaves, flags_after, Ran, run_over, ran}
use Rattle.morx.specs.Calls.{run_tests, run_call}
use Rattle.morx.specs.declared.Choices.{Choices}
use Rattle.morx.proofs.Leaves.{valid-after, fits_then}
use Rattle.morx.proofs.Visits.{visit-fits}
use Rattle.morx.proofs.Runs.{run_none, run-limit, run_stops, run-goes}

none-fits : (l : Line) → Valid l → Fits [] l
none-fits l v = quiet_fits [] l v quiet_none

module _ (table : List ℕ) (choices : Choices) (requests : List ℕ) where
  over-fits : (left flags : ℕ) (heads : List Head) (l : Line) → Valid l → Fits (run_over table choices left flags heads l requests).changes l
  unfolding visit_leaves
  over-fits left flags [] l v = subst⁻¹ (λ (r : Ran). Fits r.changes l) (run_none table choices left flags l requests) (none-fits l v)
  over-fits zero flags (head ∷ heads) l v = subst⁻¹ (λ (r : Ran). Fits r.changes l) (run-limit table choices 0 flags l requests head heads) (none-fits l v)
  over-fits (suc left) flags (head ∷ heads) l v =
      let made = visit-fits table choices flags l head v in
      go made
      (over-fits left (flags_after table head flags requests) heads (visit_leaves table choices flags head l) (valid-after (visit table choices flags head l).changes l v made))
      (is_done (visit table choices flags head l).answer) refl
    where
      go : Fits (visit table choices flags head l).changes l
          → Fits (run_over table choices left (flags_after table head flags requests) heads (visit_leaves table choices flags head l) requests).changes (apply_all (visit table choices flags head l).changes l)
          → (b : Bool) → is_done (visit table choices flags head l).answer ≡ b → Fits (run_over table choices (suc left) flags (head ∷ heads) l requests).changes l
      go made then false e = subst⁻¹ (λ (r : Ran). Fits r.changes l) (run_stops table choices left flags l requests head heads e) made
      go made then true e =
          subst⁻¹ (λ (r : Ran). Fits r.changes l) (run-goes table choices left flags l requests head heads e)
          (fits_then (visit table choices flags head l).changes l v made _ then)

pub run_fits : (table : List ℕ) (start : ℕ) (choices : Choices) (l : Line) (requests : List ℕ) → Valid l → Fits (run_call table start choices l requests).changes l
unfolding run_call ran
run_fits table start choices l requests v =
    if_passed_lem (λ (r : Ran). Fits r.changes l) _ (λ why. none-fits l v) (refuse (run_tests (length table) start l requests)) (ran table start choices l requests)
    (over-fits table choices requests head_limit 0 (walk_of choices.edition table start) l v)
