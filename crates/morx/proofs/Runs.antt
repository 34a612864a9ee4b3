-- The run's loop: what is left of the walk gives what the whole does.
use Rattle.std.specs.Prelude.{Some, None}
use Prim.Native.Nat.{ℕ, zero, suc, ◌+◌, ◌<◌, ◌≤◌}
use mathlib.Core.Path.{◌≡◌, refl, sym, ◌∙◌, ap, subst⁻¹}
use mathlib.Core.Bool.{true, false}
use mathlib.Core.List.{List, [], ◌∷◌, ◌++◌, append_assoc, append-nil}
use native.Mathlib.Nat.{zero-add}
use native.Mathlib.Omega.{arith}
use lib.ListN.{length}
use Rattle.answers.specs.Limits.{head_limit}
use Rattle.answers.specs.declared.Answer.{Answer}
use Rattle.answers.specs.declared.Answer.TheVariants as Answer'
use Rattle.line.specs.Line.{Line, line_of, Valid}
use Rattle.line.specs.Test.{is_valid}
use Rattle.line.specs.Changes.{Change, apply_all}
use Rattle.line.proofs.Histories.{apply_all-append}
use Rattle.machine.specs.Pass.{is_done}
use Rattle.chains.specs.Walk.{walk_from, next_head, heads_of, walk_of}
use Rattle.chains.specs.declared.Edition.{Edition}
use Rattle.chains.specs.declared.Head.{Head}
use Rattle.chains.specs.declared.Walk.{Walk}
use Rattle.chains.specs.declared.NextHead.{NextHead}
use Rattle.morx.specs.Run.{visit, visit_leaves, flags_after, Ran, behind, run_over, ran}
use Rattle.morx.specs.Work.{Leaves, RunLeaves, run_reply_of}
use Rattle.morx.specs.declared.Choices.{Choices}
use Rattle.morx.specs.declared.PassReply.{PassReply}
use Rattle.morx.specs.declared.RunReply.{RunReply}
use Rattle.morx.proofs.Leaves.{valid-after, valid_line}
use Rattle.morx.proofs.Visits.{visit-fits}

-- what a run leaves, as the entry's contract says it
module _ (r : Ran) (l : Line) (reply : RunReply) (glyphs tags homes : List ℕ) (e : RunLeaves r l reply glyphs tags homes) where
  pub run_reply : reply ≡ run_reply_of r l
  run_reply =
      ap (λ (x : Answer). record { answer = x; used = reply.used; heads = reply.heads }) e.answers
      ∙ ap (λ (x : Line). record { answer = r.answer; used = x.used; heads = reply.heads }) e.line
      ∙ ap (λ (n : ℕ). record { answer = r.answer; used = (apply_all r.changes l).used; heads = n }) e.counted

  pub run_glyphs : glyphs ≡ (apply_all r.changes l).glyphs
  run_glyphs = ap (λ (x : Line). x.glyphs) e.line

  pub run_tags : tags ≡ (apply_all r.changes l).tags
  run_tags = ap (λ (x : Line). x.tags) e.line

  pub run_homes : homes ≡ (apply_all r.changes l).homes
  run_homes = ap (λ (x : Line). x.homes) e.line

-- the walk from somewhere on
module _ (edition : Edition) (table : List ℕ) (most : ℕ) (walk : Walk) where
  heads-end : next_head edition table walk ≡ None → heads_of edition table (suc most) walk ≡ []
  unfolding heads_of
  heads-end e = rw (e, heads_of)

  heads-at : {n : NextHead} → next_head edition table walk ≡ Some n → heads_of edition table (suc most) walk ≡ n.head ∷ heads_of edition table most n.next
  unfolding heads_of
  heads-at e = rw (e, heads_of)

-- one head of a run
module _ (table : List ℕ) (choices : Choices) (left flags : ℕ) (l : Line) (requests : List ℕ) where
  pub run_none : run_over table choices left flags [] l requests ≡ record { answer = Answer'.Done; changes = []; heads = 0 }
  unfolding run_over
  run_none = go left
    where
      go : (n : ℕ) → run_over table choices n flags [] l requests ≡ record { answer = Answer'.Done; changes = []; heads = 0 }
      go zero = refl
      go (suc n) = refl

  module _ (head : Head) (heads : List Head) where
    pub run-limit : run_over table choices 0 flags (head ∷ heads) l requests ≡ record { answer = Answer'.Limit; changes = []; heads = 0 }
    unfolding run_over
    run-limit = refl

    pub run_stops : is_done (visit table choices flags head l).answer ≡ false
        → run_over table choices (suc left) flags (head ∷ heads) l requests
        ≡ record { answer = (visit table choices flags head l).answer; changes = (visit table choices flags head l).changes; heads = 1 }
    unfolding run_over
    run_stops e = rw (e, run_over)

    pub run-goes : is_done (visit table choices flags head l).answer ≡ true
        → run_over table choices (suc left) flags (head ∷ heads) l requests
        ≡ behind (visit table choices flags head l).changes (run_over table choices left (flags_after table head flags requests) heads (visit_leaves table choices flags head l) requests)
    unfolding run_over
    run-goes e = rw (e, run_over)

-- changes made and heads counted before
abbrev pub since : List Change → ℕ → Ran → Ran
since done heads r = record { answer = r.answer; changes = done ++ r.changes; heads = heads + r.heads }

module _ (table : List ℕ) (choices : Choices) (requests : List ℕ) (l₀ : Line) (whole : Ran) where
  pub record Going (glyphs tags homes : List ℕ) (walk : Walk) (flags heads used : ℕ) : Type 0 where
    pub left : ℕ
    pub exactly : heads + left ≡ head_limit
    pub done : List Change
    pub at : line_of glyphs tags homes used ≡ apply_all done l₀
    pub valid : Valid (line_of glyphs tags homes used)
    pub same : since done heads (run_over table choices left flags (heads_of choices.edition table (suc left) walk) (line_of glyphs tags homes used) requests) ≡ whole
    pub long-glyphs : length glyphs ≡ length l₀.glyphs
    pub long-tags : length tags ≡ length l₀.tags
    pub long-homes : length homes ≡ length l₀.homes

  module _ {glyphs tags homes : List ℕ} {walk : Walk} {flags heads used : ℕ} (g : Going glyphs tags homes walk flags heads used) where
    abbrev line : Line
    line = line_of glyphs tags homes used

    more : (n : ℕ) → heads + n ≡ head_limit → heads < head_limit → (k : ℕ) × (n ≡ suc k)
    more zero e h = absurd (omega arith)
    more (suc n) e h = (n, refl)

    -- a run that ends so
    over : (r : Ran) → run_over table choices g.left flags (heads_of choices.edition table (suc g.left) walk) line requests ≡ r → since g.done heads r ≡ whole
    over r e = ap (since g.done heads) (sym e) ∙ g.same

    here : (answer : Answer) {counted : ℕ} → counted ≡ heads → since g.done heads (record { answer = answer; changes = []; heads = 0 }) ≡ whole
        → RunLeaves whole l₀ (record { answer = answer; used = used; heads = counted }) glyphs tags homes
    here answer {counted} all e =
        let n : counted ≡ heads + 0 = omega arith in
        record {
          answers = ap (λ (r : Ran). r.answer) e;
          counted = n ∙ ap (λ (r : Ran). r.heads) e;
          line = g.at ∙ ap (λ (c : List Change). apply_all c l₀) (sym (append-nil g.done)) ∙ ap (λ (r : Ran). apply_all r.changes l₀) e;
        }

    pub going_end : {counted : ℕ} → counted ≡ heads → next_head choices.edition table walk ≡ None
        → RunLeaves whole l₀ (record { answer = Answer'.Done; used = used; heads = counted }) glyphs tags homes
    going_end all e =
        here Answer'.Done all
        (over _ (ap (λ (h : List Head). run_over table choices g.left flags h line requests) (heads-end choices.edition table g.left walk e) ∙ run_none table choices g.left flags line requests))

    pub going_limit : {counted : ℕ} {n : NextHead} → counted ≡ heads → head_limit ≤ heads → next_head choices.edition table walk ≡ Some n
        → RunLeaves whole l₀ (record { answer = Answer'.Limit; used = used; heads = counted }) glyphs tags homes
    going_limit {counted} {n} all h e =
        let none : g.left ≡ 0 = omega (arith, g.exactly) in
        here Answer'.Limit all
        (over _
        (ap (λ (k : ℕ). run_over table choices k flags (heads_of choices.edition table (suc k) walk) line requests) none
        ∙ ap (λ (x : List Head). run_over table choices 0 flags x line requests) (heads-at choices.edition table 0 walk e)
        ∙ run-limit table choices 0 flags line requests n.head (heads_of choices.edition table 0 n.next)))

    -- a head that was read and visited
    module _ {head : Head} {next : Walk} {reply : PassReply} {glyphs' tags' homes' : List ℕ} (room : heads < head_limit) (e : next_head choices.edition table walk ≡ Some (record { head = head; next = next }))
        (left : Leaves (visit table choices flags head line) line reply glyphs' tags' homes') where
      made : List Change
      made = (visit table choices flags head line).changes

      then_at : line_of glyphs' tags' homes' reply.used ≡ apply_all (g.done ++ (visit table choices flags head line).changes) l₀
      then_at =
          left.line
          ∙ ap (apply_all (visit table choices flags head line).changes) g.at
          ∙ sym (apply_all-append g.done (visit table choices flags head line).changes l₀)

      turn : (k : ℕ) → g.left ≡ suc k → (r : Ran) → run_over table choices (suc k) flags (head ∷ heads_of choices.edition table (suc k) next) line requests ≡ r → since g.done heads r ≡ whole
      turn k n r f =
          over r
          (ap (λ (x : ℕ). run_over table choices x flags (heads_of choices.edition table (suc x) walk) line requests) n
          ∙ ap (λ (x : List Head). run_over table choices (suc k) flags x line requests) (heads-at choices.edition table (suc k) walk e)
          ∙ f)

      pub going_stop : is_done reply.answer ≡ false
          → RunLeaves whole l₀ (record { answer = reply.answer; used = reply.used; heads = heads + 1 }) glyphs' tags' homes'
      going_stop d =
          let (k, n) = more g.left g.exactly room in
          let w = turn k n _ (run_stops table choices k flags line requests head (heads_of choices.edition table (suc k) next) (ap is_done (sym left.answers) ∙ d)) in
          record {
            answers = left.answers ∙ ap (λ (r : Ran). r.answer) w;
            counted = ap (λ (r : Ran). r.heads) w;
            line = then_at ∙ ap (λ (r : Ran). apply_all r.changes l₀) w;
          }

      pub going_step : {flags' : ℕ} → is_done reply.answer ≡ true → flags' ≡ flags_after table head flags requests → length glyphs' ≡ length glyphs → length tags' ≡ length tags
          → length homes' ≡ length homes → Going glyphs' tags' homes' next flags' (heads + 1) reply.used
      unfolding visit_leaves
      going_step {flags'} d f long-g long-t long-h =
          let (k, n) = more g.left g.exactly room in
          let cs : List Change = (visit table choices flags head line).changes in
          let then : Ran = run_over table choices k (flags_after table head flags requests) (heads_of choices.edition table (suc k) next) (visit_leaves table choices flags head line) requests in
          let w : since g.done heads (behind cs then) ≡ whole =
          turn k n _ (run-goes table choices k flags line requests head (heads_of choices.edition table (suc k) next) (ap is_done (sym left.answers) ∙ d)) in
          let count : heads + 1 + then.heads ≡ heads + suc then.heads = omega arith in
          record {
            left = k;
            exactly = omega (arith, g.exactly, n);
            done = g.done ++ cs;
            at = then_at;
            valid = subst⁻¹ Valid left.line (valid-after cs line g.valid (visit-fits table choices flags line head g.valid));
            same =
                ap (λ (x : ℕ). since (g.done ++ cs) (heads + 1) (run_over table choices k x (heads_of choices.edition table (suc k) next) (line_of glyphs' tags' homes' reply.used) requests)) f
                ∙ ap (λ (x : Line). since (g.done ++ cs) (heads + 1) (run_over table choices k (flags_after table head flags requests) (heads_of choices.edition table (suc k) next) x requests)) left.line
                ∙ ap (λ (c : List Change). record { answer = then.answer; changes = c; heads = heads + 1 + then.heads }) (append_assoc g.done cs then.changes)
                ∙ ap (λ (x : ℕ). record { answer = then.answer; changes = g.done ++ (cs ++ then.changes); heads = x }) count
                ∙ w;
            long-glyphs = long-g ∙ g.long-glyphs;
            long-tags = long-t ∙ g.long-tags;
            long-homes = long-h ∙ g.long-homes;
          }

pub going_start : (table : List ℕ) (start : ℕ) (choices : Choices) (glyphs tags homes : List ℕ) (used : ℕ) (requests : List ℕ) {walk : Walk} → is_valid (line_of glyphs tags homes used) ≡ true
    → walk ≡ walk_from table start
    → Going table choices requests (line_of glyphs tags homes used) (ran table start choices (line_of glyphs tags homes used) requests) glyphs tags homes walk 0 0 used
unfolding ran walk_of apply_all
going_start table start choices glyphs tags homes used requests {walk} v e =
    let l : Line = line_of glyphs tags homes used in
    subst⁻¹ (λ (w : Walk). Going table choices requests l (ran table start choices l requests) glyphs tags homes w 0 0 used) e
    (record {
      left = head_limit;
      exactly = omega arith;
      done = [];
      at = refl;
      valid = valid_line v;
      same = ap (λ (n : ℕ). record { answer = (ran table start choices l requests).answer; changes = (ran table start choices l requests).changes; heads = n }) (zero-add (ran table start choices l requests).heads);
      long-glyphs = refl;
      long-tags = refl;
      long-homes = refl;
    })
