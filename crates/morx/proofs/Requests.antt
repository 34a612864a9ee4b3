-- What the requests do: with none the run is document 01's, in any order they give the same run, and a chain's flags are the manual's.
use Prim.Native.Nat.{ℕ, zero, suc, ◌≤◌}
use mathlib.Core.Path.{◌≡◌, refl, sym, ◌∙◌, ap, ap₂}
use mathlib.Core.Bool.{Bool, true, false}
use mathlib.Core.List.{List, [], ◌∷◌}
use lib.ListN.{length}
use native.Mathlib.Omega.{arith}
use borrow.Author.Tests.{le-ltb}
use Rattle.answers.specs.Limits.{head_limit}
use Rattle.answers.specs.Refuse.{Test, refuse, table_test}
use Rattle.answers.specs.declared.Answer.TheVariants as Answer'
use Rattle.answers.proofs.Refusals.{refuse-here, refuse-later}
use Rattle.line.specs.Line.{Line}
use Rattle.line.specs.Test.{line_test}
use Rattle.machine.specs.Pass.{is_done}
use Rattle.machine.specs.Call.{if_passed}
use Rattle.chains.specs.Entries.{start_test}
use Rattle.chains.specs.Features.{is_asked}
use Rattle.chains.specs.Manual.{feature_total, feature_place, manual_chain, manual_flags, EndsAt}
use Rattle.chains.specs.Walk.{walk_of}
use Rattle.chains.specs.declared.Edition.{Edition}
use Rattle.chains.specs.declared.Head.{Head}
use Rattle.chains.specs.declared.Head.TheVariants as Head'
use Rattle.chains.proofs.Switching.{flags_unasked, flags_alike}
use Rattle.chains.proofs.ManualFlags.{flags-behind_as_manual}
use Rattle.morx.specs.Run.{choosing, visit, visit_leaves, flags_after, behind, run_over, ran}
use Rattle.morx.specs.Calls.{request_limit, request_test, run_tests, run_call}
use Rattle.morx.specs.Defaults.{defaults_after, over_by_defaults, default_tests, call_by_defaults}
use Rattle.morx.specs.declared.Choices.{Choices}
use Rattle.morx.proofs.Runs.{run_none, run-limit, run_stops, run-goes}

-- few requests pass their test
few-pass : (table_length start : ℕ) (l : Line) (requests : List ℕ) → length requests ≤ request_limit
    → refuse (run_tests table_length start l requests) ≡ refuse (default_tests table_length start l)
unfolding run_tests default_tests request_test
few-pass table_length start l requests h = go (table_test table_length).holds refl
  where
    rest : List Test
    rest = line_test l ∷ start_test table_length start ∷ []

    go : (b : Bool) → (table_test table_length).holds ≡ b → refuse (table_test table_length ∷ request_test requests ∷ rest) ≡ refuse (table_test table_length ∷ rest)
    go true e = refuse-here (table_test table_length) (request_test requests ∷ rest) e ∙ sym (refuse-here (table_test table_length) rest e)
    go false e =
        refuse-later (table_test table_length) (request_test requests ∷ rest) e
        ∙ refuse-later (request_test requests) rest (le-ltb _ _ h)
        ∙ sym (refuse-later (table_test table_length) rest e)

-- no requests
module _ (table : List ℕ) (choices : Choices) where
  unasked_after : (head : Head) (flags : ℕ) → flags_after table head flags [] ≡ defaults_after head flags
  unfolding choosing
  unasked_after (Head'.Chain chain) flags = flags_unasked table chain.features chain.flags
  unasked_after (Head'.Subtable s) flags = refl

  module _ (left flags : ℕ) (head : Head) (heads : List Head) (l : Line) where
    default_stops : is_done (visit table choices flags head l).answer ≡ false
        → over_by_defaults table choices (suc left) flags (head ∷ heads) l
        ≡ record { answer = (visit table choices flags head l).answer; changes = (visit table choices flags head l).changes; heads = 1 }
    unfolding over_by_defaults
    default_stops e = rw (e, over_by_defaults)

    default_goes : is_done (visit table choices flags head l).answer ≡ true
        → over_by_defaults table choices (suc left) flags (head ∷ heads) l
        ≡ behind (visit table choices flags head l).changes
        (over_by_defaults table choices left (defaults_after head flags) heads (visit_leaves table choices flags head l))
    unfolding over_by_defaults
    default_goes e = rw (e, over_by_defaults)

  over_unasked : (left flags : ℕ) (heads : List Head) (l : Line) → run_over table choices left flags heads l [] ≡ over_by_defaults table choices left flags heads l
  unfolding over_by_defaults
  over_unasked zero flags [] l = run_none table choices zero flags l []
  over_unasked (suc left) flags [] l = run_none table choices (suc left) flags l []
  over_unasked zero flags (head ∷ heads) l = run-limit table choices 0 flags l [] head heads
  over_unasked (suc left) flags (head ∷ heads) l =
      go (over_unasked left (defaults_after head flags) heads (visit_leaves table choices flags head l)) (is_done (visit table choices flags head l).answer) refl
    where
      go : run_over table choices left (defaults_after head flags) heads (visit_leaves table choices flags head l) []
          ≡ over_by_defaults table choices left (defaults_after head flags) heads (visit_leaves table choices flags head l)
          → (b : Bool) → is_done (visit table choices flags head l).answer ≡ b
          → run_over table choices (suc left) flags (head ∷ heads) l [] ≡ over_by_defaults table choices (suc left) flags (head ∷ heads) l
      go then false e = run_stops table choices left flags l [] head heads e ∙ sym (default_stops left flags head heads l e)
      go then true e =
          run-goes table choices left flags l [] head heads e
          ∙ ap (λ (x : ℕ). behind (visit table choices flags head l).changes (run_over table choices left x heads (visit_leaves table choices flags head l) []))
          (unasked_after head flags)
          ∙ ap (behind (visit table choices flags head l).changes) then
          ∙ sym (default_goes left flags head heads l e)

pub no_requests : (table : List ℕ) (start : ℕ) (choices : Choices) (l : Line) → run_call table start choices l [] ≡ call_by_defaults table start choices l
unfolding run_call call_by_defaults ran request_limit
no_requests table start choices l =
    ap₂ (if_passed (λ why. record { answer = Answer'.Refused why; changes = []; heads = 0 })) (few-pass (length table) start l [] (omega arith))
    (over_unasked table choices head_limit 0 (walk_of choices.edition table start) l)

-- the same requests
module _ (table : List ℕ) (choices : Choices) (xs ys : List ℕ) (alike : (request : ℕ) → is_asked xs request ≡ is_asked ys request) where
  after_alike : (head : Head) (flags : ℕ) → flags_after table head flags xs ≡ flags_after table head flags ys
  unfolding choosing
  after_alike (Head'.Chain chain) flags = flags_alike xs ys alike table chain.features chain.flags
  after_alike (Head'.Subtable s) flags = refl

  over_alike : (left flags : ℕ) (heads : List Head) (l : Line) → run_over table choices left flags heads l xs ≡ run_over table choices left flags heads l ys
  over_alike left flags [] l = run_none table choices left flags l xs ∙ sym (run_none table choices left flags l ys)
  over_alike zero flags (head ∷ heads) l = run-limit table choices 0 flags l xs head heads ∙ sym (run-limit table choices 0 flags l ys head heads)
  over_alike (suc left) flags (head ∷ heads) l =
      go (over_alike left (flags_after table head flags ys) heads (visit_leaves table choices flags head l)) (is_done (visit table choices flags head l).answer) refl
    where
      go : run_over table choices left (flags_after table head flags ys) heads (visit_leaves table choices flags head l) xs
          ≡ run_over table choices left (flags_after table head flags ys) heads (visit_leaves table choices flags head l) ys
          → (b : Bool) → is_done (visit table choices flags head l).answer ≡ b
          → run_over table choices (suc left) flags (head ∷ heads) l xs ≡ run_over table choices (suc left) flags (head ∷ heads) l ys
      go then false e = run_stops table choices left flags l xs head heads e ∙ sym (run_stops table choices left flags l ys head heads e)
      go then true e =
          run-goes table choices left flags l xs head heads e
          ∙ ap (λ (x : ℕ). behind (visit table choices flags head l).changes (run_over table choices left x heads (visit_leaves table choices flags head l) xs))
          (after_alike head flags)
          ∙ ap (behind (visit table choices flags head l).changes) then
          ∙ sym (run-goes table choices left flags l ys head heads e)

pub any_order : (table : List ℕ) (start : ℕ) (choices : Choices) (l : Line) (xs ys : List ℕ) → ((request : ℕ) → is_asked xs request ≡ is_asked ys request)
    → length xs ≤ request_limit → length ys ≤ request_limit → run_call table start choices l xs ≡ run_call table start choices l ys
unfolding run_call ran
any_order table start choices l xs ys alike h k =
    ap₂ (if_passed (λ why. record { answer = Answer'.Refused why; changes = []; heads = 0 }))
    (few-pass (length table) start l xs h ∙ sym (few-pass (length table) start l ys k))
    (over_alike table choices xs ys alike head_limit 0 (walk_of choices.edition table start) l)

-- the flags of a chain
pub flags_as_manual : (edition : Edition) (table requests : List ℕ) (chain left n : ℕ)
    → EndsAt table 12 (feature_place edition chain) (feature_total edition table chain) n
    → choosing table requests (manual_chain edition table chain left) ≡ manual_flags edition table requests chain n
unfolding choosing
flags_as_manual edition table requests chain left n e = flags-behind_as_manual edition table requests chain n e
