-- More turns than the entries of a step count with change nothing.
use Rattle.std.specs.Prelude.{Option, Some, None}
use Prim.Native.Nat.{ℕ, zero, suc, ◌+◌, ◌≤◌}
use mathlib.Core.Path.{◌≡◌, refl, sym, ◌∙◌, ap, subst⁻¹}
use mathlib.Core.Bool.{Bool, true, false, not}
use mathlib.Core.List.{List, [], ◌++◌}
use native.Mathlib.Omega.{arith}
use lib.Dec.{ltb}
use lib.ListN.{get_or}
use borrow.Author.Tests.{ltb-false}
use Rattle.laws.specs.Bits.{is_set}
use Rattle.laws.specs.Lists.{both, either}
use Rattle.answers.specs.declared.Answer.TheVariants as Answer'
use Rattle.parse.specs.Reads.{u16_at}
use Rattle.state_tables.specs.Entries.{entry_of, on_entry}
use Rattle.state_tables.specs.declared.States.{States}
use Rattle.state_tables.specs.declared.entries.Entry.{Entry}
use Rattle.ligature.specs.Actions.{action_of}
use Rattle.ligature.specs.Ligature.{Ligation, Stack, ligations_of, stored_in, turn_of, Acts, acts, Work, overflows, pushed, performed, entered, Ran, over, ran}
use Rattle.ligature.specs.declared.Turn.{Turn}
use Rattle.ligature.proofs.Acting.{turn_ends, turn_stops, turn_goes}

-- the cycle count never falls: over a list of actions
acts_since : (bytes places : List ℕ) (depth turns number at sum cycles : ℕ) (glyphs : List ℕ) (made : List Ligation)
    → cycles ≤ (acts bytes places depth turns number at sum cycles glyphs made).cycles
unfolding acts
acts_since bytes places depth zero number at sum cycles glyphs made = omega arith
acts_since bytes places depth (suc turns) number zero sum cycles glyphs made = omega arith
acts_since bytes places depth (suc turns) number (suc slot) sum cycles glyphs made =
    go (λ at total. acts_since bytes places depth turns (number + 1) at total (cycles + 1)) (turn_of (action_of bytes number (get_or glyphs slot 0) sum) slot) refl
  where
    go : ((at total : ℕ) (gs : List ℕ) (ms : List Ligation) → cycles + 1 ≤ (acts bytes places depth turns (number + 1) at total (cycles + 1) gs ms).cycles)
        → (t : Option Turn) → turn_of (action_of bytes number (get_or glyphs slot 0) sum) slot ≡ t
        → cycles ≤ (acts bytes places depth (suc turns) number (suc slot) sum cycles glyphs made).cycles
    go later None e =
        subst⁻¹ (λ (a : Acts). cycles ≤ a.cycles) (turn_ends bytes places depth turns number slot sum cycles glyphs made e) (omega arith)
    go later (Some turn) e = stop (either turn.last (ltb 32 cycles)) refl
      where
        stop : (t : Bool) → either turn.last (ltb 32 cycles) ≡ t → cycles ≤ (acts bytes places depth (suc turns) number (suc slot) sum cycles glyphs made).cycles
        stop true f =
            subst⁻¹ (λ (a : Acts). cycles ≤ a.cycles) (turn_stops bytes places depth turns number slot sum cycles glyphs made e f) (omega arith)
        stop false f =
            let more = later turn.at turn.sum (stored_in (action_of bytes number (get_or glyphs slot 0) sum) slot glyphs)
            (made ++ ligations_of (action_of bytes number (get_or glyphs slot 0) sum) places slot depth) in
            subst⁻¹ (λ (a : Acts). cycles ≤ a.cycles) (turn_goes bytes places depth turns number slot sum cycles glyphs made e f) (omega (arith, more))

-- and so over an entry
performed_since : (bytes : List ℕ) (performs : Bool) (number : ℕ) (stack : Stack) (cycles : ℕ) → cycles ≤ (performed bytes performs number stack cycles).cycles
unfolding performed
performed_since bytes false number stack cycles = omega arith
performed_since bytes true number stack cycles =
    acts_since bytes stack.places stack.depth 34 number stack.depth 0 cycles stack.glyphs []

entered_since : (bytes : List ℕ) (stack : Stack) (entry : Entry) (index glyph cycles : ℕ) → cycles ≤ (entered bytes stack entry index glyph cycles).cycles
unfolding entered
entered_since bytes stack entry index glyph cycles = go (overflows (is_set entry.flags 0x8000) stack.depth) refl
  where
    go : (t : Bool) → overflows (is_set entry.flags 0x8000) stack.depth ≡ t → cycles ≤ (entered bytes stack entry index glyph cycles).cycles
    go true e = rw (e, entered) (omega arith)
    go false e =
        rw (e, entered)
        (performed_since bytes (is_set entry.flags 0x2000) (u16_at bytes entry.payload) (pushed (is_set entry.flags 0x8000) stack index glyph) cycles)

second-of : (a b : Bool) → both a b ≡ true → b ≡ true
second-of true b e = e
second-of false b e = let z : ◌≡◌ {A = ℕ} 0 1 = cc in absurd (omega arith)

not_so : (b : Bool) → not b ≡ true → b ≡ false
not_so false e = refl
not_so true e = let z : ◌≡◌ {A = ℕ} 0 1 = cc in absurd (omega arith)

module _ (bytes : List ℕ) (states : States) (index glyph class : ℕ) where
  abbrev from : (turns state : ℕ) → Stack → (cycles : ℕ) → List Ligation → Ran
  from turns state stack cycles made = ran bytes states index glyph class turns state stack cycles made

  -- one turn, by its entry
  module _ (turns state : ℕ) (stack : Stack) (cycles : ℕ) (made : List Ligation) where
    none : entry_of bytes states state class 2 ≡ None → from (suc turns) state stack cycles made ≡ over Answer'.Ended state stack made
    unfolding ran
    none e = rw (e, ran)

    module _ {entry : Entry} (e : entry_of bytes states state class 2 ≡ Some entry) where
      abbrev work : Work
      work = entered bytes stack entry index glyph cycles

      ends : work.ended ≡ true → from (suc turns) state stack cycles made ≡ over Answer'.Ended entry.state work.stack (made ++ work.made)
      unfolding ran
      ends f = rw (e, ran, on_entry) (rw f)

      stops : work.ended ≡ false → both (is_set entry.flags 0x4000) (not (ltb 16 work.cycles)) ≡ false
          → from (suc turns) state stack cycles made ≡ over Answer'.Done entry.state work.stack (made ++ work.made)
      unfolding ran
      stops f g = rw (e, ran, on_entry) (rw (f, g))

      goes : work.ended ≡ false → both (is_set entry.flags 0x4000) (not (ltb 16 work.cycles)) ≡ true
          → from (suc turns) state stack cycles made ≡ from turns entry.state work.stack (work.cycles + 1) (made ++ work.made)
      unfolding ran
      goes f g = rw (e, ran, on_entry) (rw (f, g))

  module _ (more : ℕ) where
    pub entry_turns : (turns state : ℕ) (stack : Stack) (cycles : ℕ) (made : List Ligation) → cycles ≤ 17 → 18 ≤ cycles + turns
        → from (more + turns) state stack cycles made ≡ from turns state stack cycles made
    entry_turns zero state stack cycles made c h = absurd (omega (arith, c, h))
    entry_turns (suc turns) state stack cycles made c h =
        let one : more + suc turns ≡ suc (more + turns) = omega arith in
        ap (λ (n : ℕ). from n state stack cycles made) one
        ∙ go (λ s k n m. entry_turns turns s k n m) (entry_of bytes states state class 2) refl
      where
        go : ((s : ℕ) (k : Stack) (n : ℕ) (m : List Ligation) → n ≤ 17 → 18 ≤ n + turns → from (more + turns) s k n m ≡ from turns s k n m)
            → (t : Option Entry) → entry_of bytes states state class 2 ≡ t → from (suc (more + turns)) state stack cycles made ≡ from (suc turns) state stack cycles made
        go later None e = none (more + turns) state stack cycles made e ∙ sym (none turns state stack cycles made e)
        go later (Some entry) e = done (entered bytes stack entry index glyph cycles).ended refl
          where
            since : cycles ≤ (entered bytes stack entry index glyph cycles).cycles
            since = entered_since bytes stack entry index glyph cycles

            stay : (t : Bool) → both (is_set entry.flags 0x4000) (not (ltb 16 (entered bytes stack entry index glyph cycles).cycles)) ≡ t
                → (entered bytes stack entry index glyph cycles).ended ≡ false
                → from (suc (more + turns)) state stack cycles made ≡ from (suc turns) state stack cycles made
            stay false g f = stops (more + turns) state stack cycles made e f g ∙ sym (stops turns state stack cycles made e f g)
            stay true g f =
                let low = ltb-false 16 (entered bytes stack entry index glyph cycles).cycles
                (not_so (ltb 16 (entered bytes stack entry index glyph cycles).cycles)
                (second-of (is_set entry.flags 0x4000) (not (ltb 16 (entered bytes stack entry index glyph cycles).cycles)) g)) in
                goes (more + turns) state stack cycles made e f g
                ∙ later entry.state (entered bytes stack entry index glyph cycles).stack ((entered bytes stack entry index glyph cycles).cycles + 1)
                (made ++ (entered bytes stack entry index glyph cycles).made) (omega (arith, low)) (omega (arith, since, h))
                ∙ sym (goes turns state stack cycles made e f g)

            done : (t : Bool) → (entered bytes stack entry index glyph cycles).ended ≡ t
                → from (suc (more + turns)) state stack cycles made ≡ from (suc turns) state stack cycles made
            done true f = ends (more + turns) state stack cycles made e f ∙ sym (ends turns state stack cycles made e f)
            done false f = stay (both (is_set entry.flags 0x4000) (not (ltb 16 (entered bytes stack entry index glyph cycles).cycles))) refl f
