-- What anchored calls write is exact, and what a run leaves is in range.
use Rattle.std.specs.Prelude.{Option, Some, None, Result, Ok, Err}
use Rattle.state_tables.specs.declared.States.{States}
use Rattle.answers.specs.declared.Refusal.{Refusal}
use Prim.Native.Nat.{ℕ, ◌/◌, ◌%◌, ◌<◌, ◌≤◌}
use mathlib.Core.Path.{◌≡◌, refl, sym, ◌∙◌, ap, subst}
use mathlib.Core.Bool.{Bool, true, false, cond}
use mathlib.Core.List.{List, [], ◌∷◌, ◌++◌}
use mathlib.Core.Logic.{⊎_elim}
use native.Mathlib.Omega.{arith}
use lib.Dec.{eqb}
use lib.IntN.{ℤ, pos, nat_abs}
use lib.ListN.{length, get_or, set, length-set, drop, get_or-append}
use lib.Seq.{get_or-set_same, get_or-set_other}
use Rattle.laws.specs.Backward.{backward}
use Rattle.laws.specs.Lists.{tab}
use Rattle.laws.proofs.Lists.{length-tab, get_d_tab}
use Rattle.laws.proofs.Numbers.{eq-or-ne}
use Rattle.answers.specs.Refuse.{refuse}
use Rattle.answers.specs.declared.Answer.TheVariants as Answer'
use Rattle.answers.specs.declared.Refusal.TheVariants as Refusal'
use Rattle.parse.specs.Reads.{read_u32}
use Rattle.parse.specs.Use.{on_u32}
use Rattle.tables.specs.declared.units.Reading.{Reading}
use Rattle.state_tables.specs.States.{extended_by}
use Rattle.line.specs.Line.{Line}
use Rattle.kerning.specs.declared.choices.Choices.{Choices}
use Rattle.kerx_machine.specs.Machine.{body_of, is_tupled}
use Rattle.anchor_machine.specs.Writes.{Write, write_all}
use Rattle.anchor_machine.specs.Machine as Anchor'
use Rattle.anchor_machine.specs.Exact.{ExactWrite, EachWrite}
use Rattle.kerning.specs.Heads.{barred}
use Rattle.kerning.specs.declared.heads.Unready.TheVariants.{Short}
use Rattle.anchor_machine.proofs.Exactly.{each_append, pass-exact}
use Rattle.kerning_lists.specs.Walk.{on_head, visited}
use Rattle.kerning_lists.specs.Run.{zeros}
use Rattle.kerning_lists.specs.Family.{walk_of}
use Rattle.kerning_lists.specs.declared.Subtable.{Subtable}
use Rattle.kerx.specs.Heads.{head_in, list_of}
use Rattle.kerx.specs.Kerx.{worked, kerx}
use Rattle.kerx.specs.Range.{InRange}
use Rattle.kerx.specs.Anchored.{adding, writing, neither, marked_by, anchors_of, worked_with, passed_with, pass_tests, takes_pass, pass_call, ran_with, turned_marks, marking, markings, marks, run_marks, nones}

-- a machine reads by the reading that it was opened in
module _ (ankr body : List ℕ) (glyphs : List ℕ) (used : ℕ) where
  abbrev Fine : Reading → List Write → Type 0
  Fine reading = EachWrite (ExactWrite ankr reading glyphs used)

  opened_fine : (reading : Reading) (tupled : Bool) → Fine reading (Anchor'.worked_by ankr body (barred tupled (Anchor'.opened reading body)) glyphs used).writes
  unfolding Anchor'.opened barred Anchor'.worked_by
  opened_fine reading tupled = go (extended_by reading body) (read_u32 body 16) tupled
    where
      go : (made : Option States) (flags : Option ℕ) (t : Bool)
          → Fine reading
          (Anchor'.worked_by ankr body
          (barred t
          (Anchor'.on_made made
          (λ states. on_u32 flags (λ n. Ok (record { states = states; reading = reading; action = n / 0x40000000; control = n % 0x1000000 })) (Err Short))
          (Err Short)))
          glyphs used).writes
      go (Some states) (Some n) false =
          pass-exact ankr body (record { states = states; reading = reading; action = n / 0x40000000; control = n % 0x1000000 }) glyphs used
      go (Some states) (Some n) true = tt
      go (Some states) None false = tt
      go (Some states) None true = tt
      go None flags false = tt
      go None flags true = tt

-- each write of a pass is exact
module _ (ankr bytes : List ℕ) (version : ℕ) (glyphs : List ℕ) (used : ℕ) (choices : Choices) where
  pub worked-exact : (format : ℕ) → EachWrite (ExactWrite ankr choices.reading glyphs used) (worked_with ankr bytes version format glyphs used choices).writes
  unfolding worked_with anchors_of
  worked-exact format = go (eqb format 4)
    where
      go : (t : Bool) → EachWrite (ExactWrite ankr choices.reading glyphs used)
          (cond t (writing (Anchor'.worked_by ankr (body_of bytes) (barred (is_tupled bytes version choices.reading) (Anchor'.opened choices.reading (body_of bytes))) glyphs used))
          (adding (worked bytes version format glyphs used choices))).writes
      go true = opened_fine ankr (body_of bytes) glyphs used choices.reading (is_tupled bytes version choices.reading)
      go false = tt

  passed-exact : EachWrite (ExactWrite ankr choices.reading glyphs used) (passed_with ankr bytes version glyphs used choices).writes
  unfolding passed_with
  passed-exact = go (head_in false version 0 bytes)
    where
      go : (head : Option Subtable) → EachWrite (ExactWrite ankr choices.reading glyphs used)
          (on_head head (λ s. worked_with ankr bytes version s.format glyphs used choices) (neither (Answer'.Refused Refusal'.Head))).writes
      go (Some s) = worked-exact s.format
      go None = tt

pub call_exact : (table ankr : List ℕ) (start version : ℕ) (l : Line) (along x y : List ℤ) (back : List ℕ) (choices : Choices)
    → EachWrite (ExactWrite ankr choices.reading l.glyphs l.used) (pass_call table ankr start version l along x y back choices).writes
unfolding pass_call
call_exact table ankr start version l along x y back choices =
    go (refuse (pass_tests (length table) (length ankr) (takes_pass l along x y back)))
  where
    go : (c : Result Unit Refusal) → EachWrite (ExactWrite ankr choices.reading l.glyphs l.used)
        (marked_by c (passed_with ankr (drop start table) version l.glyphs l.used choices)).writes
    go (Ok tt) = passed-exact ankr (drop start table) version l.glyphs l.used choices
    go (Err why) = tt

-- what holds of each write of a run
record Small (w : Write) : Type 0 where
  pub small-x : nat_abs w.x ≤ 65535
  pub small-y : nat_abs w.y ≤ 65535
  pub near : w.back < 255

exact-small : (ankr : List ℕ) (reading : Reading) (glyphs : List ℕ) (used : ℕ) (ws : List Write) → EachWrite (ExactWrite ankr reading glyphs used) ws → EachWrite Small ws
exact-small ankr reading glyphs used [] e = tt
exact-small ankr reading glyphs used (w ∷ later) e =
    (record { small-x = e.0.exact.x-small; small-y = e.0.exact.y-small; near = e.0.exact.near }, exact-small ankr reading glyphs used later e.1)

turned-small : (used : ℕ) (ws : List Write) → EachWrite Small ws → EachWrite Small (turned_marks used ws)
unfolding turned_marks
turned-small used [] e = tt
turned-small used (w ∷ later) e = (record { small-x = e.0.small-x; small-y = e.0.small-y; near = e.0.near }, turned-small used later e.1)

module _ (ankr bytes : List ℕ) (version : ℕ) (glyphs : List ℕ) (used : ℕ) (choices : Choices) where
  abbrev work : Subtable → List ℕ → List Write
  work = marks ankr bytes version used choices

  work-small : (s : Subtable) (gs : List ℕ) → EachWrite Small (work s gs)
  work-small s gs = exact-small ankr choices.reading gs used (work s gs) (worked-exact ankr (drop s.body bytes) version gs used choices s.format)

  marking-small : (s : Subtable) → EachWrite Small (marking work glyphs used s)
  unfolding marking
  marking-small s = go s.passed_over s.turned
    where
      go : (over turned : Bool) → EachWrite Small (cond over [] (cond turned (turned_marks used (work s (backward used glyphs))) (work s glyphs)))
      go true turned = tt
      go false true = turned-small used (work s (backward used glyphs)) (work-small s (backward used glyphs))
      go false false = work-small s glyphs

  markings-small : (ss : List Subtable) → EachWrite Small (markings work glyphs used ss)
  unfolding markings
  markings-small [] = tt
  markings-small (s ∷ more) = each_append Small (marking work glyphs used s) (markings work glyphs used more) (marking-small s) (markings-small more)

-- a slice whose elements hold something, of which a part is written that holds it too
module _ {A : Type 0} (d : A) (part : Write → A) (holds : A → Type 0) (fine : (w : Write) → Small w → holds (part w)) where
  writes_hold : (ws : List Write) (xs : List A) → EachWrite Small ws → ((p : ℕ) → p < length xs → holds (get_or xs p d))
      → (p : ℕ) → p < length xs → holds (get_or (write_all part ws xs) p d)
  unfolding write_all
  writes_hold [] xs e h p k = h p k
  writes_hold (w ∷ later) xs e h p k =
      let n = length-set xs w.place (part w) in
      writes_hold later (set xs w.place (part w)) e.1
      (λ q m.
      let inside : q < length xs = omega (arith, m, n) in
      ⊎_elim
      (λ (s : q ≡ w.place).
      subst holds
      (sym (ap (λ (r : ℕ). get_or (set xs w.place (part w)) r d) s ∙ get_or-set_same xs w.place (part w) d (omega (arith, inside, s)))) (fine w e.0))
      (λ (ne : q ≡ w.place → ⊥). subst holds (sym (get_or-set_other xs w.place q (part w) d ne)) (h q inside))
      (eq-or-ne q w.place))
      p (omega (arith, k, n))

  write-long : (ws : List Write) (xs : List A) → length (write_all part ws xs) ≡ length xs
  unfolding write_all
  write-long [] xs = refl
  write-long (w ∷ later) xs = write-long later (set xs w.place (part w)) ∙ length-set xs w.place (part w)

  -- and others behind them
  rest-holds : (ws : List Write) (xs rest : List A) → EachWrite Small ws → ((p : ℕ) → p < length xs → holds (get_or xs p d))
      → (p : ℕ) → p < length xs → holds (get_or (write_all part ws xs ++ rest) p d)
  rest-holds ws xs rest e h p k =
      subst holds (sym (get_or-append (write_all part ws xs) rest d p (omega (arith, k, write-long ws xs)))) (writes_hold ws xs e h p k)

-- what a run leaves is small
pub run_in_range : (ankr bytes : List ℕ) (rtl : Bool) (glyphs : List ℕ) (used : ℕ) (along x y : List ℤ) (back : List ℕ) (choices : Choices)
    → InRange used (ran_with ankr bytes rtl glyphs used along x y back choices)
unfolding ran_with run_marks zeros nones
run_in_range ankr bytes rtl glyphs used along x y back choices =
    let all = markings-small ankr bytes (list_of bytes).version glyphs used choices (visited (walk_of kerx rtl bytes)) in
    let zero : List ℤ = tab (λ p. pos 0) used in
    let n : length zero ≡ used = length-tab (λ p. pos 0) used in
    let blank : List ℕ = tab (λ p. 0) used in
    let m : length blank ≡ used = length-tab (λ p. 0) used in
    let zero-fine : (p : ℕ) → p < length zero → nat_abs (get_or zero p (pos 0)) ≤ 65535 =
    λ p h. rw (get_d_tab (λ p. pos 0) used p (pos 0) (omega (arith, h, n))) (omega arith) in
    record {
      x-small = λ p h.
          rest-holds (pos 0) (λ (w : Write). w.x) (λ (z : ℤ). nat_abs z ≤ 65535) (λ w s. s.small-x) _ zero (drop used x) all zero-fine p (omega (arith, h, n));
      y-small = λ p h.
          rest-holds (pos 0) (λ (w : Write). w.y) (λ (z : ℤ). nat_abs z ≤ 65535) (λ w s. s.small-y) _ zero (drop used y) all zero-fine p (omega (arith, h, n));
      near = λ p h.
          rest-holds 0 (λ (w : Write). w.back) (λ (b : ℕ). b < 255) (λ w s. s.near) _ blank (drop used back) all
          (λ p k. rw (get_d_tab {A = ℕ} (λ p. 0) used p 0 (omega (arith, k, m))) (omega arith)) p (omega (arith, h, m));
    }
