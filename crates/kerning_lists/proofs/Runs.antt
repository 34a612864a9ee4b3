-- The loop of a whole run: what is left of the walk gives what the whole walk gives.
use Rattle.std.specs.Prelude.{Option, Some, None}
use Prim.Native.Nat.{ℕ, zero, suc, ◌+◌, ◌-◌, ◌*◌, ◌<◌, ◌≤◌, ◌^◌}
use mathlib.Core.Path.{◌≡◌, refl, sym, ◌∙◌, ap, subst}
use mathlib.Core.Bool.{Bool, true, false, cond}
use mathlib.Core.List.{List, [], ◌∷◌}
use native.Mathlib.Omega.{arith}
use lib.IntN.{ℤ, pos}
use lib.ListN.{length, take, length-take}
use borrow.Author.Tests.{lt-ltb, le-ltb}
use Rattle.laws.specs.Backward.{backward}
use Rattle.laws.proofs.Backward.{length-backward}
use Rattle.answers.specs.Limits.{head_limit}
use Rattle.answers.specs.declared.Answer.{Answer}
use Rattle.answers.specs.declared.Answer.TheVariants as Answer'
use Rattle.kerning.specs.Additions.{Addition, add_all}
use Rattle.kerning.specs.Bounds.{Within}
use Rattle.kerning.proofs.Adding.{add_all-none, add_all-append, length-add_all, within_more}
use Rattle.kerning_lists.specs.Walk.{heads_from, visited, walk_answer}
use Rattle.kerning_lists.specs.Run.{turned_back, contribution, contributions}
use Rattle.kerning_lists.specs.declared.Subtable.{Subtable}
use Rattle.kerning_lists.proofs.Turns.{within-backward, turned_and_back}

pub limit-small : head_limit ≤ 65535
unfolding head_limit
limit-small = omega arith

module _ (work : Subtable → List ℕ → List Addition) (glyphs : List ℕ) (used : ℕ) where
  -- what one subtable contributes, by its head
  module _ (s : Subtable) where
    pub contributes_nothing : s.passed_over ≡ true → contribution work glyphs used s ≡ []
    unfolding contribution
    contributes_nothing e = rw e

    pub contributes_turned : s.passed_over ≡ false → s.turned ≡ true
        → contribution work glyphs used s ≡ turned_back used (work s (backward used glyphs))
    unfolding contribution
    contributes_turned e f = rw (e, f)

    pub contributes_plain : s.passed_over ≡ false → s.turned ≡ false → contribution work glyphs used s ≡ work s glyphs
    unfolding contribution
    contributes_plain e f = rw (e, f)

  -- where each subtable's own work adds little, so does its contribution
  module _ (little : (s : Subtable) (gs : List ℕ) (b : ℕ) (along : List ℤ) → Within b along → Within (b + 2 ^ 39) (add_all (work s gs) along)) where
    pub contribution_little : (s : Subtable) {b : ℕ} (along : List ℤ) → used ≤ length along → Within b along
        → Within (b + 2 ^ 39) (add_all (contribution work glyphs used s) along)
    unfolding contribution
    contribution_little s {b} along fits w = go s.passed_over s.turned
      where
        go : (over turned : Bool)
            → Within (b + 2 ^ 39) (add_all (cond over [] (cond turned (turned_back used (work s (backward used glyphs))) (work s glyphs))) along)
        go true turned = subst (Within (b + 2 ^ 39)) (sym (add_all-none along)) (within_more (omega arith) w)
        go false false = little s glyphs b along w
        go false true =
            let there : List Addition = work s (backward used glyphs) in
            let turned : List ℤ = backward used along in
            subst (Within (b + 2 ^ 39)) (turned_and_back there used along fits)
            (within-backward used (add_all there turned) (omega (arith, length-add_all there turned, length-backward (pos 0) used along fits))
            (little s (backward used glyphs) b turned (within-backward used along fits w)))

  module _ (head_at : ℕ → Option Subtable) (whole : List Subtable) (start : List ℤ) where
    -- `read` heads are counted, and at most `left` follow from a place on
    pub record Running (along : List ℤ) (read left at : ℕ) : Type 0 where
      pub within : read ≤ head_limit
      pub counted : read + length (heads_from head_at left at) ≡ length whole
      pub same : add_all (contributions work glyphs used (take (head_limit - read) (heads_from head_at left at))) along
          ≡ add_all (contributions work glyphs used (visited whole)) start
      pub long : length along ≡ length start
      pub small : Within (read * 2 ^ 39) along

    -- what a run answers, counts and leaves
    pub record Ends (answer : Answer) (read : ℕ) (along : List ℤ) : Type 0 where
      pub answers : answer ≡ walk_answer whole
      pub counts : read ≡ length (visited whole)
      pub leaves : along ≡ add_all (contributions work glyphs used (visited whole)) start

    -- the walk from here on, by the head that is read
    goes_on : (left at : ℕ) {s : Subtable} → 0 < left → head_at at ≡ Some s → heads_from head_at left at ≡ s ∷ heads_from head_at (left - 1) s.next
    unfolding heads_from
    goes_on zero at h e = absurd (omega arith)
    goes_on (suc left) at h e = let f : suc left - 1 ≡ left = omega arith in rw (e, f, heads_from)

    ends-cut : (left at : ℕ) → head_at at ≡ None → heads_from head_at left at ≡ []
    unfolding heads_from
    ends-cut zero at e = refl
    ends-cut (suc left) at e = rw (e, heads_from)

    module _ {along : List ℤ} {read left at : ℕ} (r : Running along read left at) where
      pub running_next : {s : Subtable} {after : List ℤ} (next : ℕ) → next + 1 ≡ left → head_at at ≡ Some s → read < head_limit
          → after ≡ add_all (contribution work glyphs used s) along
          → Within (read * 2 ^ 39 + 2 ^ 39) (add_all (contribution work glyphs used s) along) → Running after (read + 1) next s.next
      unfolding contributions
      running_next {s} {after} next h e k g w =
          let on : heads_from head_at left at ≡ s ∷ heads_from head_at next s.next =
          goes_on left at (omega arith) e ∙ ap (λ (m : ℕ). s ∷ heads_from head_at m s.next) (omega arith) in
          let rest : List Subtable = heads_from head_at next s.next in
          let n : head_limit - read ≡ suc (head_limit - (read + 1)) = omega arith in
          let split : take (head_limit - read) (heads_from head_at left at) ≡ s ∷ take (head_limit - (read + 1)) rest =
          ap (take (head_limit - read)) on ∙ ap (λ (m : ℕ). take m (s ∷ rest)) n in
          record {
            within = omega arith;
            counted = let c : read + length (s ∷ rest) ≡ length whole = rw on at r.counted in omega (arith, c);
            same =
                ap (add_all (contributions work glyphs used (take (head_limit - (read + 1)) rest))) g
                ∙ sym (add_all-append (contribution work glyphs used s) (contributions work glyphs used (take (head_limit - (read + 1)) rest)) along)
                ∙ ap (λ (x : List Subtable). add_all (contributions work glyphs used x) along) (sym split)
                ∙ r.same;
            long = ap length g ∙ length-add_all (contribution work glyphs used s) along ∙ r.long;
            small = within_more (omega arith) (subst (Within (read * 2 ^ 39 + 2 ^ 39)) (sym g) w);
          }

      -- 65,535 are counted, and another can be read
      pub running_limit : {s : Subtable} → 0 < left → head_at at ≡ Some s → read ≡ head_limit → Ends Answer'.Limit read along
      unfolding walk_answer visited contributions
      running_limit {s} h e k =
          let c : read + length (s ∷ heads_from head_at (left - 1) s.next) ≡ length whole = rw (goes_on left at h e) at r.counted in
          let more : head_limit < length whole = omega (arith, c) in
          let none : head_limit - read ≡ 0 = omega arith in
          let n : length (take head_limit whole) ≡ read = length-take head_limit whole ∙ omega (arith, more) in
          record {
            answers = rw (lt-ltb head_limit (length whole) more);
            counts = sym n;
            leaves =
                sym (add_all-none along)
                ∙ ap (λ (m : ℕ). add_all (contributions work glyphs used (take m (heads_from head_at left at))) along) (sym none)
                ∙ r.same;
          }

      -- the list is at its end
      over : heads_from head_at left at ≡ [] → Ends Answer'.Done read along
      unfolding walk_answer visited contributions
      over e =
          let c : read + 0 ≡ length whole = rw e at r.counted in
          let n : length (take head_limit whole) ≡ read = length-take head_limit whole ∙ omega (arith, c, r.within) in
          let nothing : take (head_limit - read) (heads_from head_at left at) ≡ [] = ap (take (head_limit - read)) e ∙ take_none (head_limit - read) in
          record {
            answers = rw (le-ltb head_limit (length whole) (omega (arith, c, r.within)));
            counts = sym n;
            leaves =
                sym (add_all-none along)
                ∙ ap (λ (x : List Subtable). add_all (contributions work glyphs used x) along) (sym nothing)
                ∙ r.same;
          }
        where
          take_none : (m : ℕ) → take {A = Subtable} m [] ≡ []
          take_none zero = refl
          take_none (suc m) = refl

      pub running_cut : head_at at ≡ None → Ends Answer'.Done read along
      running_cut e = over (ends-cut left at e)

      pub running_done : left ≤ 0 → Ends Answer'.Done read along
      unfolding heads_from
      running_done h = let z : left ≡ 0 = omega arith in over (ap (λ (n : ℕ). heads_from head_at n at) z)

-- the run begins with the whole walk, from zero
pub running_start : (work : Subtable → List ℕ → List Addition) (glyphs : List ℕ) (used : ℕ) (head_at : ℕ → Option Subtable) (count first : ℕ) (start : List ℤ)
    → Within 0 start → Running work glyphs used head_at (heads_from head_at count first) start start 0 (count - 0) first
unfolding visited
running_start work glyphs used head_at count first start w =
    let n : head_limit - 0 ≡ head_limit = omega arith in
    record {
      within = omega arith;
      counted = let same : heads_from head_at (count - 0) first ≡ heads_from head_at count first = ap (λ (m : ℕ). heads_from head_at m first) (omega arith) in omega (arith, ap length same);
      same =
          ap (λ (m : ℕ). add_all (contributions work glyphs used (take m (heads_from head_at (count - 0) first))) start) n
          ∙ ap (λ (m : ℕ). add_all (contributions work glyphs used (take head_limit (heads_from head_at m first))) start) (omega arith);
      long = refl;
      small = within_more (omega arith) w;
    }

-- the code's count against the limit
pub limit-reached : {read : ℕ} → read ≡ 65535 → read ≡ head_limit
unfolding head_limit
limit-reached e = e

pub limit_ahead : {read : ℕ} → read ≤ head_limit → (read ≡ 65535 → ⊥) → read < head_limit
unfolding head_limit
limit_ahead h ne = omega (arith, ne)

-- no sum of a run leaves 64 bits
pub run_small : {read : ℕ} {along : List ℤ} → read ≤ head_limit → Within (read * 2 ^ 39) along → Within (2 ^ 60) along
run_small h w = within_more (omega (arith, limit-small)) w
