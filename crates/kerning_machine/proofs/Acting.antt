-- What an entry does, from what the code has done.
use Rattle.std.specs.Prelude.{Option, Some, None}
use Prim.Native.Nat.{ℕ, ◌≤◌}
use mathlib.Core.Path.{◌≡◌, refl, sym, ◌∙◌, ap, ap₂, subst⁻¹}
use mathlib.Core.Bool.{Bool, true, false, cond}
use mathlib.Core.List.{List}
use native.Mathlib.Omega.{arith}
use lib.IntN.{ℤ}
use Rattle.answers.specs.declared.Answer.TheVariants as Answer'
use Rattle.state_tables.specs.declared.entries.Entry.{Entry}
use Rattle.state_tables.specs.Entries.{entry_of}
use Rattle.machine.specs.Stall.{stalled}
use Rattle.machine.specs.declared.Stalled.{Stalled}
use Rattle.kerning.specs.Additions.{Addition, add_all}
use Rattle.kerning.specs.Lists.{Walk}
use Rattle.kerning.specs.declared.lists.Walked.{Walked}
use Rattle.kerning.proofs.Adding.{add_all-none}
use Rattle.kerning_machine.specs.declared.Reading.{Reading}
use Rattle.kerning_machine.specs.declared.Orders.{Orders}
use Rattle.kerning_machine.specs.declared.Kerning.{Kerning}
use Rattle.kerning_machine.specs.declared.KerningState.{KerningState}
use Rattle.kerning_machine.specs.declared.KerningStep.{KerningStep}
use Rattle.kerning_machine.specs.Machine.{is_full, popped, stacked, stopped, settled, walked_from, Stepped, behind, listed, entered, acted, payload_of, orders_of, next}
use Rattle.kerning_machine.specs.Work.{standing, step_of}
use Rattle.kerning_machine.proofs.Readings.{room_left}

-- the code's step and adjustments are those of a definition
pub record Does (r : Stepped) (along₀ : List ℤ) (step : KerningStep) (along : List ℤ) : Type 0 where
  pub steps : step ≡ r.step
  pub leaves : along ≡ add_all r.additions along₀

-- without a push the stack is left as it is, or emptied
pub stacked_bare : (s : KerningState) (clears : Bool) (index : ℕ) → popped s (cond clears 0 s.depth) ≡ stacked s false clears index
unfolding stacked
stacked_bare s true index = refl
stacked_bare s false index = refl

pub stacked-deep : (s : KerningState) (pushes clears : Bool) (index : ℕ) → s.depth ≤ 8 → is_full pushes s.depth ≡ false
    → (stacked s pushes clears index).depth ≤ 8
unfolding stacked
stacked-deep s true clears index h f = omega (arith, room_left s.depth h f refl)
stacked-deep s false true index h f = omega arith
stacked-deep s false false index h f = h

-- the stack is no deeper than it may be
pub act_deep : (orders : Orders) (stack : List ℕ) (depth index : ℕ) {stack' : List ℕ} {deep : ℕ} → depth ≤ 8 → is_full orders.pushes depth ≡ false
    → ((state cycles : ℕ) → standing state stack' deep cycles ≡ stacked (standing state stack depth cycles) orders.pushes orders.clears index) → deep ≤ 8
act_deep orders stack depth index k f g =
    subst⁻¹ (λ (x : KerningState). x.depth ≤ 8) (g 0 0) (stacked-deep (standing 0 stack depth 0) orders.pushes orders.clears index k f)

module _ (bytes : List ℕ) (reading : Reading) (orders : Orders) (stack : List ℕ) (depth used index : ℕ) (along : List ℤ) {full : Bool}
    (f : full ≡ is_full orders.pushes depth) where
  abbrev does : (state cycles : ℕ) → Stepped
  does state cycles = acted bytes reading (standing state stack depth cycles) orders used index

  -- what the push and the list leave is what the entry does, in any state and however many steps in a row did not advance
  pub record Acts (walked : Walked) (stack' : List ℕ) (along' : List ℤ) : Type 0 where
    pub steps : (state cycles : ℕ) → behind orders (standing state stack' walked.depth cycles) walked ≡ (does state cycles).step
    pub leaves : (state cycles : ℕ) → along' ≡ add_all (does state cycles).additions along

  pub act_full : full ≡ true → Acts (record { ended = true; depth = depth }) stack along
  unfolding acted behind
  act_full h =
      record {
        steps = λ state cycles. rw (sym f ∙ h, acted);
        leaves = λ state cycles. sym (ap (λ (xs : List Addition). add_all xs along) (rw (sym f ∙ h, acted)) ∙ add_all-none along);
      }

  module _ {stack' : List ℕ} {deep : ℕ} (h : full ≡ false)
      (g : (state cycles : ℕ) → standing state stack' deep cycles ≡ stacked (standing state stack depth cycles) orders.pushes orders.clears index) where
    abbrev list : Walk
    list = walked_from bytes reading orders.start stack' deep used

    acts : (state cycles : ℕ) → does state cycles ≡ listed orders (standing state stack' deep cycles) list
    unfolding acted
    acts state cycles =
        rw (sym f ∙ h, acted)
        (ap (λ (x : KerningState). listed orders x (walked_from bytes reading orders.start x.stack x.depth used)) (sym (g state cycles)))

    pub act_follows : {walked : Walked} {along' : List ℤ} → walked ≡ list.left → along' ≡ add_all list.additions along → Acts walked stack' along'
    unfolding listed behind
    act_follows w a =
        record {
          steps = λ state cycles. ap (λ (x : Walked). behind orders (standing state stack' deep cycles) x) w ∙ sym (ap (λ (x : Stepped). x.step) (acts state cycles));
          leaves = λ state cycles. a ∙ sym (ap (λ (x : Stepped). add_all x.additions along) (acts state cycles));
        }

-- a list that ended the step, and one that did not
module _ (orders : Orders) (state : ℕ) (stack : List ℕ) (cycles : ℕ) (walked : Walked) {step : KerningStep} where
  pub behind-ended : walked.ended ≡ true → step ≡ stopped (standing state stack walked.depth cycles) Answer'.Ended
      → step ≡ behind orders (standing state stack walked.depth cycles) walked
  unfolding behind
  behind-ended t e = e ∙ rw (t, behind)

  pub behind-settled : walked.ended ≡ false → step ≡ settled (standing state stack walked.depth cycles) orders.resets orders.stays
      → step ≡ behind orders (standing state stack walked.depth cycles) walked
  unfolding behind
  behind-settled t e = e ∙ rw (t, behind)

module _ (classes : ℕ → ℕ) (bytes : List ℕ) (kerning : Kerning) (s : KerningState) (used index glyph : ℕ) (along : List ℤ) {class payload : ℕ}
    {r : (Option Entry)} (k : class ≡ classes glyph) (p : payload ≡ payload_of kerning.reading)
    (e : r ≡ entry_of bytes kerning.states s.state class payload) where
  found : r ≡ entry_of bytes kerning.states s.state (classes glyph) (payload_of kerning.reading)
  found = e ∙ ap₂ (λ (c q : ℕ). entry_of bytes kerning.states s.state c q) k p

  pub next-ended : {step : KerningStep} → r ≡ None → step ≡ stopped s Answer'.Ended → Does (next classes bytes kerning s used index glyph) along step along
  unfolding next
  next-ended f g =
      record {
        steps = g ∙ rw (sym found ∙ f, next);
        leaves = sym (ap (λ (xs : List Addition). add_all xs along) (rw (sym found ∙ f, next)) ∙ add_all-none along);
      }

  next-acts : {entry : Entry} {orders : Orders} {step : KerningStep} {along' : List ℤ} → r ≡ Some entry
      → orders ≡ orders_of bytes kerning.reading entry → step ≡ (acted bytes kerning.reading (entered s entry.state) orders used index).step
      → along' ≡ add_all (acted bytes kerning.reading (entered s entry.state) orders used index).additions along
      → Does (next classes bytes kerning s used index glyph) along step along'
  unfolding next
  next-acts {entry} {orders} f o q a =
      let n : acted bytes kerning.reading (entered s entry.state) orders used index ≡ next classes bytes kerning s used index glyph =
      ap (λ (x : Orders). acted bytes kerning.reading (entered s entry.state) x used index) o ∙ sym (rw (sym found ∙ f, next)) in
      record {
        steps = q ∙ ap (λ (x : Stepped). x.step) n;
        leaves = a ∙ ap (λ (x : Stepped). add_all x.additions along) n;
      }

  -- the list ended the step, or it did not
  module _ {entry : Entry} {orders : Orders} (walked : Walked) {stack' : List ℕ} {along' : List ℤ} (f : r ≡ Some entry)
      (o : orders ≡ orders_of bytes kerning.reading entry)
      (a : (state cycles : ℕ) → behind orders (standing state stack' walked.depth cycles) walked
      ≡ (acted bytes kerning.reading (standing state s.stack s.depth cycles) orders used index).step)
      (b : (state cycles : ℕ) → along' ≡ add_all (acted bytes kerning.reading (standing state s.stack s.depth cycles) orders used index).additions along) where
    pub next-over : walked.ended ≡ true
        → Does (next classes bytes kerning s used index glyph) along (stopped (standing entry.state stack' walked.depth s.cycles) Answer'.Ended) along'
    next-over t = next-acts f o (behind-ended orders entry.state stack' s.cycles walked t refl ∙ a entry.state s.cycles) (b entry.state s.cycles)

    pub next-goes : {stalled' : Stalled} {depth : ℕ} → walked.ended ≡ false → stalled' ≡ stalled s.cycles orders.stays → depth ≡ cond orders.resets 0 walked.depth
        → Does (next classes bytes kerning s used index glyph) along
        (record { answer = Answer'.Done; state = standing entry.state stack' depth stalled'.cycles; advance = stalled'.advance }) along'
    unfolding settled
    next-goes t m d =
        next-acts f o (behind-settled orders entry.state stack' s.cycles walked t (rw (m, d, settled)) ∙ a entry.state s.cycles) (b entry.state s.cycles)

-- a step by the class of its glyph
pub next_by_class : (classes : ℕ → ℕ) (bytes : List ℕ) (kerning : Kerning) (s : KerningState) (used index glyph : ℕ) (along : List ℤ) {class : ℕ} {r x : Option ℕ} (s' : KerningState)
    {along' : List ℤ} → class ≡ classes glyph → r ≡ x → ((glyph : ℕ) → step_of r s' ≡ (next (λ _. class) bytes kerning s used index glyph).step)
    → ((glyph : ℕ) → along' ≡ add_all (next (λ _. class) bytes kerning s used index glyph).additions along)
    → Does (next classes bytes kerning s used index glyph) along (step_of x s') along'
unfolding next
next_by_class classes bytes kerning s used index glyph along s' k o e a =
    record { steps = ap (λ (y : Option ℕ). step_of y s') (sym o) ∙ rw (← k) (e glyph); leaves = rw (← k) (a glyph) }
