-- More bytes behind a subtable change nothing for the machine's pass where no read fails without them.
use Rattle.std.specs.Prelude.{Option, Some}
use Prim.Native.Nat.{ℕ, zero, suc, ◌+◌, ◌<◌, ◌≤◌}
use mathlib.Core.Path.{◌≡◌, refl, sym, ◌∙◌, ap}
use mathlib.Core.Bool.{Bool, true, false, cond}
use mathlib.Core.List.{List, []}
use mathlib.Core.Logic.{⊎_elim}
use lib.ListN.{length, get_or}
use Rattle.laws.proofs.Numbers.{lt-or-ge}
use Rattle.answers.specs.declared.Answer.{Answer}
use Rattle.answers.specs.declared.Answer.TheVariants as Answer'
use Rattle.parse.proofs.Behind.{Begins, u16_stays}
use Rattle.state_tables.specs.Classes.{class_of}
use Rattle.state_tables.specs.Entries.{entry_of, on_entry}
use Rattle.state_tables.specs.declared.entries.Entry.{Entry}
use Rattle.state_tables.proofs.Laws.{entry_payload}
use Rattle.state_tables.proofs.Behind.{class_stays, entry_stays}
use Rattle.machine.specs.Pass.{is_done}
use Rattle.kerning.specs.Additions.{Kerned, after}
use Rattle.kerning.specs.Lists.{walk}
use Rattle.kerning.proofs.Behind.{walk_stays}
use Rattle.kerning_machine.specs.Inside.{ListInside, StepInside, Reached, first, later, PassInside}
use Rattle.kerning_machine.specs.declared.Reading.{Reading}
use Rattle.kerning_machine.specs.declared.Reading.TheVariants.{Kern, Kerx, Manual}
use Rattle.kerning_machine.specs.declared.Start.{Start}
use Rattle.kerning_machine.specs.declared.Start.TheVariants as Start'
use Rattle.kerning_machine.specs.declared.Orders.{Orders}
use Rattle.kerning_machine.specs.declared.Kerning.{Kerning}
use Rattle.kerning_machine.specs.declared.KerningState.{KerningState}
use Rattle.kerning_machine.specs.Machine.{fresh, payload_of, rule_of, stride_of, indexed_orders, manual_start, kerx_orders, orders_of, is_full, stacked, stopped}
use Rattle.kerning_machine.specs.Machine.{walked_from, Stepped, listed, entered, acted, next, step_at, pass_from, rest, passed_by, own_classes, passed}
use Rattle.kerning_machine.proofs.Passes.{turn_goes, turn_stops, turn_ends}

done_is : (answer : Answer) → is_done answer ≡ true → answer ≡ Answer'.Done
done_is Answer'.Done e = refl
done_is Answer'.Nothing e = absurd (cc)
done_is Answer'.Full e = absurd (cc)
done_is Answer'.Ended e = absurd (cc)
done_is Answer'.Limit e = absurd (cc)
done_is (Answer'.Refused why) e = absurd (cc)

module _ {own whole : List ℕ} (b : Begins own whole) where
  -- what an entry orders: its index lies in the own bytes
  orders_stay : (reading : Reading) (entry : Entry) → entry.payload + payload_of reading ≤ length own → orders_of whole reading entry ≡ orders_of own reading entry
  unfolding orders_of
  orders_stay (Kern crossed) entry h = refl
  orders_stay (Kerx values tuples) entry h = ap (kerx_orders values tuples entry.flags) (u16_stays b entry.payload h)
  orders_stay (Manual values) entry h = ap (λ (n : ℕ). indexed_orders entry.flags (manual_start values n)) (u16_stays b entry.payload h)

  list_stays : (reading : Reading) (start : Start) (stack : List ℕ) (depth used : ℕ)
      → ((place : ℕ) → start ≡ Start'.At place → (walk own (rule_of reading) (stride_of reading) stack used depth place).left.ended ≡ false)
      → walked_from whole reading start stack depth used ≡ walked_from own reading start stack depth used
  unfolding walked_from
  list_stays reading Start'.None stack depth used reads = refl
  list_stays reading Start'.Nowhere stack depth used reads = refl
  list_stays reading (Start'.At place) stack depth used reads = walk_stays b (rule_of reading) (stride_of reading) stack used depth place (reads place refl)

  act_stays : (kerning : Kerning) (s : KerningState) (orders : Orders) (used index : ℕ) → ListInside own kerning used s orders index
      → acted whole kerning.reading s orders used index ≡ acted own kerning.reading s orders used index
  unfolding acted
  act_stays kerning s orders used index reads = go (is_full orders.pushes s.depth) refl
    where
      on : KerningState
      on = stacked s orders.pushes orders.clears index

      full : Stepped
      full = record { step = stopped s Answer'.Ended; additions = [] }

      listed_in : List ℕ → Stepped
      listed_in bytes = listed orders on (walked_from bytes kerning.reading orders.start on.stack on.depth used)

      go : (t : Bool) → is_full orders.pushes s.depth ≡ t → cond t full (listed_in whole) ≡ cond t full (listed_in own)
      go true e = refl
      go false e = ap (listed orders on) (list_stays kerning.reading orders.start on.stack on.depth used (reads e))

  -- a step
  next_stays : (kerning : Kerning) (s : KerningState) (used index glyph : ℕ) → StepInside own kerning used s index glyph
      → next (own_classes whole kerning) whole kerning s used index glyph ≡ next (own_classes own kerning) own kerning s used index glyph
  unfolding next
  next_stays kerning s used index glyph inside =
      let entry : Entry = inside.entry in
      let payload : ℕ = payload_of kerning.reading in
      let c : class_of whole kerning.states glyph ≡ class_of own kerning.states glyph = class_stays b kerning.states glyph inside.class in
      let e : entry_of own kerning.states s.state (class_of own kerning.states glyph) payload ≡ Some entry = inside.there in
      let f : entry_of whole kerning.states s.state (class_of whole kerning.states glyph) payload ≡ Some entry =
      ap (λ (k : ℕ). entry_of whole kerning.states s.state k payload) c
      ∙ entry_stays b kerning.states s.state (class_of own kerning.states glyph) payload e in
      let o : orders_of whole kerning.reading entry ≡ orders_of own kerning.reading entry =
      orders_stay kerning.reading entry (entry_payload own kerning.states s.state (class_of own kerning.states glyph) payload (sym e) refl) in
      let does : List ℕ → Option Entry → Stepped =
      λ bytes r. on_entry r (λ x. acted bytes kerning.reading (entered s x.state) (orders_of bytes kerning.reading x) used index) (record { step = stopped s Answer'.Ended; additions = [] }) in
      ap (does whole) f
      ∙ ap (λ (x : Orders). acted whole kerning.reading (entered s entry.state) x used index) o
      ∙ act_stays kerning (entered s entry.state) (orders_of own kerning.reading entry) used index inside.list
      ∙ sym (ap (does own) e)

  -- a pass, by its steps
  module _ (kerning : Kerning) (glyphs : List ℕ) (used : ℕ) (inside : PassInside own kerning glyphs used) where
    abbrev from : List ℕ → (turns : ℕ) → KerningState → ℕ → Kerned
    from bytes = pass_from (own_classes bytes kerning) bytes kerning glyphs used

    abbrev step : List ℕ → KerningState → ℕ → Stepped
    step bytes = step_at (own_classes bytes kerning) bytes kerning glyphs used

    -- one turn, where the pass stays with fewer
    module _ (turns : ℕ) (again : (s : KerningState) (i : ℕ) → Reached own kerning glyphs used s i → from whole turns s i ≡ from own turns s i)
        (s : KerningState) (i : ℕ) (r : Reached own kerning glyphs used s i) (h : i < used) where
      same : step whole s i ≡ step own s i
      same = next_stays kerning s used i (get_or glyphs i 0) (inside s i r h)

      turn_stays : (t : Bool) → is_done (step own s i).step.answer ≡ t → from whole (suc turns) s i ≡ from own (suc turns) s i
      turn_stays true d =
          turn_goes (own_classes whole kerning) whole kerning glyphs used turns s i h (ap (λ (x : Stepped). is_done x.step.answer) same ∙ d)
          ∙ ap (λ (x : Stepped). after x.additions (from whole turns x.step.state (i + x.step.advance))) same
          ∙ ap (after (step own s i).additions) (again (step own s i).step.state (i + (step own s i).step.advance) (later r h (done_is _ d)))
          ∙ sym (turn_goes (own_classes own kerning) own kerning glyphs used turns s i h d)
      turn_stays false d =
          turn_stops (own_classes whole kerning) whole kerning glyphs used turns s i h (ap (λ (x : Stepped). is_done x.step.answer) same ∙ d)
          ∙ ap (λ (x : Stepped). record { answer = x.step.answer; additions = x.additions }) same
          ∙ sym (turn_stops (own_classes own kerning) own kerning glyphs used turns s i h d)

    from_stays : (turns : ℕ) (s : KerningState) (i : ℕ) → Reached own kerning glyphs used s i → from whole turns s i ≡ from own turns s i
    unfolding pass_from
    from_stays zero s i r = refl
    from_stays (suc turns) s i r =
        ⊎_elim
        (λ (h : i < used). turn_stays turns (from_stays turns) s i r h (is_done (step own s i).step.answer) refl)
        (λ (h : used ≤ i).
        turn_ends (own_classes whole kerning) whole kerning glyphs used turns s i h ∙ sym (turn_ends (own_classes own kerning) own kerning glyphs used turns s i h))
        (lt-or-ge i used)

    pub pass_stays : passed whole kerning glyphs used ≡ passed own kerning glyphs used
    unfolding passed passed_by
    pass_stays = from_stays (rest used fresh 0) fresh 0 first
