-- The actions of an entry: what is left to do, after the ligatures made, gives what the whole list gives.
use Rattle.std.specs.Prelude.{Option, Some, None}
use Prim.Native.Nat.{ℕ, zero, suc, ◌+◌, ◌-◌, ◌*◌, ◌<◌, ◌≤◌}
use mathlib.Core.Path.{◌≡◌, refl, sym, ◌∙◌, ap, ap₂, subst}
use mathlib.Core.Bool.{true, false}
use mathlib.Core.List.{List, [], ◌++◌}
use native.Mathlib.Omega.{arith}
use lib.Dec.{ltb}
use lib.ListN.{length, get_or}
use borrow.Author.Tests.{eq-eqb}
use Rattle.line.specs.Line.{Line, line_of}
use Rattle.ligature.specs.Actions.{action_of}
use Rattle.laws.specs.Lists.{either}
use Rattle.ligature.specs.Ligature.{Ligation, stack_of, ligations_of, stored_in, turn_of, on_turn, Acts, acted, acts}
use Rattle.ligature.specs.Work.{ligated, sum_of, spent, Leaves, after_action, after_acts}
use Rattle.ligature.specs.declared.actions.Action.{Action}
use Rattle.ligature.specs.declared.actions.Action.TheVariants as Action'
use Rattle.ligature.specs.declared.Stack.{Stack}
use Rattle.ligature.specs.declared.Turn.{Turn}
use Rattle.ligature.proofs.Ligations.{ligated-append, ligated-none, ligated-line}

-- an action that goes on: how many slots it leaves, and its sum
goes-within : (a : Option Action) (slot : ℕ) {turn : Turn} → turn_of a slot ≡ Some turn → turn.at ≤ slot + 1
goes-within None slot e = absurd cc
goes-within (Some (Action'.Adds sum)) slot {turn} e = let f : slot ≡ turn.at = cc in omega arith
goes-within (Some (Action'.Makes sum ligature last)) slot {turn} e = let f : slot + 1 ≡ turn.at = cc in omega arith

goes-sum : (a : Option Action) (slot : ℕ) {turn : Turn} → turn_of a slot ≡ Some turn → sum_of a ≡ turn.sum
goes-sum None slot e = absurd cc
goes-sum (Some (Action'.Adds total)) slot e = cc
goes-sum (Some (Action'.Makes total ligature last)) slot e = cc

-- its number is not the one that ends the step
goes-numbered : (bytes : List ℕ) (number glyph sum : ℕ) {action : Action} → action_of bytes number glyph sum ≡ Some action → number ≡ 0xFFFF → ⊥
unfolding action_of
goes-numbered bytes number glyph sum {action} e n =
    let f : None ≡ Some action = rw (eq-eqb number 0xFFFF n) at e in
    cc

-- an empty stack stops the list
pub none_left : (bytes places : List ℕ) (depth turns number sum cycles : ℕ) (stack : List ℕ) (done : List Ligation)
    → acts bytes places depth turns number 0 sum cycles stack done ≡ acted false 0 cycles stack done
unfolding acts
none_left bytes places depth zero number sum cycles stack done = refl
none_left bytes places depth (suc turns) number sum cycles stack done = refl

-- one turn, by what its action does
module _ (bytes places : List ℕ) (depth turns number : ℕ) where
  module _ (slot sum cycles : ℕ) (stack : List ℕ) (done : List Ligation) where
    abbrev action : Option Action
    action = action_of bytes number (get_or stack slot 0) sum

    pub turn_ends : turn_of action slot ≡ None
        → acts bytes places depth (suc turns) number (suc slot) sum cycles stack done ≡ acted true depth cycles stack done
    unfolding acts
    turn_ends e = rw (e, acts)

    module _ {turn : Turn} (e : turn_of action slot ≡ Some turn) where
      pub turn_stops : either turn.last (ltb 32 cycles) ≡ true
          → acts bytes places depth (suc turns) number (suc slot) sum cycles stack done
          ≡ acted false turn.at cycles (stored_in action slot stack) (done ++ ligations_of action places slot depth)
      unfolding acts
      turn_stops f = rw (e, acts, on_turn) (rw f)

      pub turn_goes : either turn.last (ltb 32 cycles) ≡ false
          → acts bytes places depth (suc turns) number (suc slot) sum cycles stack done
          ≡ acts bytes places depth turns (number + 1) turn.at turn.sum (cycles + 1) (stored_in action slot stack) (done ++ ligations_of action places slot depth)
      unfolding acts
      turn_goes f = rw (e, acts, on_turn) (rw f)

-- a number above 0, by its predecessor
pub positive : (n : ℕ) → 0 < n → n ≡ suc (n - 1)
positive zero h = absurd (omega arith)
positive (suc n) h = omega arith

module _ (bytes : List ℕ) (stack₀ : Stack) (first begun : ℕ) (l₀ : Line) where
  abbrev whole : Acts
  whole = acts bytes stack₀.places stack₀.depth 34 first stack₀.depth 0 begun stack₀.glyphs []

  abbrev Left : Option ℕ → Stack → (glyphs homes : List ℕ) → Type 0
  Left = Leaves (after_acts bytes stack₀ first begun l₀)

  -- what the loop knows, with the cycle count that it began with: with 34 turns at most, the sum has room
  pub record Acting (stack : Stack) (glyphs homes : List ℕ) (number at sum cycles : ℕ) : Type 0 where
    pub turns : ℕ
    pub enough : cycles + turns ≡ 34 + begun
    pub spent : cycles ≤ 33
    pub small : sum + turns * 65535 ≤ 2228190
    pub within : at ≤ stack₀.depth
    pub counted : number < 65536
    pub places : stack.places ≡ stack₀.places
    pub depth : stack.depth ≡ stack₀.depth
    pub done : List Ligation
    pub same : acts bytes stack₀.places stack₀.depth turns number at sum cycles stack.glyphs done ≡ whole
    pub made : line_of glyphs l₀.tags homes l₀.used ≡ ligated done l₀
    pub long : length glyphs ≡ length l₀.glyphs
    pub all : length homes ≡ length l₀.homes

  -- a list that ends here
  over : {stack : Stack} {glyphs homes : List ℕ} (a : Acts) → a ≡ whole → stack ≡ stack_of stack₀.places a.glyphs a.depth
      → line_of glyphs l₀.tags homes l₀.used ≡ ligated a.made l₀ → Left (spent a.ended a.cycles) stack glyphs homes
  over a e s l =
      record {
        answers = ap (λ (w : Acts). spent w.ended w.cycles) e;
        stands = s ∙ ap (λ (w : Acts). stack_of stack₀.places w.glyphs w.depth) e;
        written = ap (λ (x : Line). x.glyphs) l ∙ ap (λ (w : Acts). (ligated w.made l₀).glyphs) e;
        joined = ap (λ (x : Line). x.homes) l ∙ ap (λ (w : Acts). (ligated w.made l₀).homes) e;
      }

  pub acting_start : begun ≤ 33 → first < 65536 → Acting stack₀ l₀.glyphs l₀.homes first stack₀.depth 0 begun
  acting_start h k =
      record {
        turns = 34;
        enough = omega arith;
        spent = h;
        small = omega arith;
        within = omega arith;
        counted = k;
        places = refl;
        depth = refl;
        done = [];
        same = refl;
        made = sym (ligated-none l₀);
        long = refl;
        all = refl;
      }

  module _ {stack : Stack} {glyphs homes : List ℕ} {number at sum cycles : ℕ} (a : Acting stack glyphs homes number at sum cycles) where
    -- the stack is empty
    pub acting_out : at ≡ 0 → Left (Some cycles) (stack_of stack.places stack.glyphs at) glyphs homes
    acting_out z =
        over (acted false 0 cycles stack.glyphs a.done)
        (sym (none_left bytes stack₀.places stack₀.depth a.turns number sum cycles stack.glyphs a.done)
        ∙ subst (λ (n : ℕ). acts bytes stack₀.places stack₀.depth a.turns number n sum cycles stack.glyphs a.done ≡ whole) z a.same)
        (ap₂ (λ (x : List ℕ) (n : ℕ). stack_of x stack.glyphs n) a.places z) a.made

    module _ {slot : ℕ} {r : Option Action} (h : at ≡ suc slot) (e : r ≡ action_of bytes number (get_or stack.glyphs slot 0) sum) where
      some : 0 < a.turns
      some = omega (arith, a.enough, a.spent)

      from_here : acts bytes stack₀.places stack₀.depth (suc (a.turns - 1)) number (suc slot) sum cycles stack.glyphs a.done ≡ whole
      from_here =
          subst (λ (n : ℕ). acts bytes stack₀.places stack₀.depth (suc (a.turns - 1)) number n sum cycles stack.glyphs a.done ≡ whole) h
          (subst (λ (n : ℕ). acts bytes stack₀.places stack₀.depth n number at sum cycles stack.glyphs a.done ≡ whole) (positive a.turns some) a.same)

      -- the action ends the step
      pub acting_ended : r ≡ None → Left None stack glyphs homes
      acting_ended n =
          over (acted true stack₀.depth cycles stack.glyphs a.done)
          (sym (turn_ends bytes stack₀.places stack₀.depth (a.turns - 1) number slot sum cycles stack.glyphs a.done
          (ap (λ (x : Option Action). turn_of x slot) (sym e ∙ n)))
          ∙ from_here)
          (ap₂ (λ (x : List ℕ) (n : ℕ). stack_of x stack.glyphs n) a.places a.depth)
          a.made

      module _ {action : Action} {turn : Turn} {stack' : Stack} {glyphs' homes' : List ℕ} (p : r ≡ Some action) (t : Some turn ≡ turn_of (Some action) slot)
          (m : Leaves (after_action action slot stack (line_of glyphs l₀.tags homes l₀.used)) tt stack' glyphs' homes') where
        is : Some action ≡ action_of bytes number (get_or stack.glyphs slot 0) sum
        is = sym p ∙ e

        goes : turn_of (action_of bytes number (get_or stack.glyphs slot 0) sum) slot ≡ Some turn
        goes = ap (λ (x : Option Action). turn_of x slot) (sym is) ∙ sym t

        abbrev all : List Ligation
        all = a.done ++ ligations_of (action_of bytes number (get_or stack.glyphs slot 0) sum) stack₀.places slot stack₀.depth

        line : line_of glyphs' l₀.tags homes' l₀.used ≡ ligated all l₀
        line =
            ligated-line (ligations_of (Some action) stack.places slot stack.depth) glyphs l₀.tags homes l₀.used m.written m.joined
            ∙ ap (ligated (ligations_of (Some action) stack.places slot stack.depth)) a.made
            ∙ sym (ligated-append a.done (ligations_of (Some action) stack.places slot stack.depth) l₀)
            ∙ ap₂ (λ (x : List ℕ) (n : ℕ). ligated (a.done ++ ligations_of (Some action) x slot n) l₀) a.places a.depth
            ∙ ap (λ (x : Option Action). ligated (a.done ++ ligations_of x stack₀.places slot stack₀.depth) l₀) is

        glyphs-are : stack'.glyphs ≡ stored_in (action_of bytes number (get_or stack.glyphs slot 0) sum) slot stack.glyphs
        glyphs-are = ap (λ (x : Stack). x.glyphs) m.stands ∙ ap (λ (x : Option Action). stored_in x slot stack.glyphs) is

        places-are : stack'.places ≡ stack₀.places
        places-are = ap (λ (x : Stack). x.places) m.stands ∙ a.places

        pub acting_left : turn.at ≤ at
        acting_left = omega (arith, h, goes-within (Some action) slot (sym t))

        pub acting_number : number ≡ 0xFFFF → ⊥
        acting_number = goes-numbered bytes number (get_or stack.glyphs slot 0) sum (sym is)

        pub acting_stops : either turn.last (ltb 32 cycles) ≡ true → Left (Some cycles) (stack_of stack'.places stack'.glyphs turn.at) glyphs' homes'
        acting_stops f =
            over (acted false turn.at cycles (stored_in (action_of bytes number (get_or stack.glyphs slot 0) sum) slot stack.glyphs) all)
            (sym (turn_stops bytes stack₀.places stack₀.depth (a.turns - 1) number slot sum cycles stack.glyphs a.done goes f) ∙ from_here)
            (ap₂ (λ (x y : List ℕ). stack_of x y turn.at) places-are glyphs-are)
            line

        pub acting_goes : either turn.last (ltb 32 cycles) ≡ false → cycles ≤ 32 → sum_of r ≤ sum + 65535 → length glyphs' ≡ length glyphs
            → length homes' ≡ length homes → Acting stack' glyphs' homes' (number + 1) turn.at turn.sum (cycles + 1)
        acting_goes f k room lg lh =
            let s = goes-sum (Some action) slot (sym t) in
            record {
              turns = a.turns - 1;
              enough = omega (arith, a.enough, some);
              spent = omega arith;
              small = omega (arith, a.small, some, s, ap sum_of p, room);
              within = omega (arith, acting_left, a.within);
              counted = omega (arith, acting_number, a.counted);
              places = places-are;
              depth = ap (λ (x : Stack). x.depth) m.stands ∙ a.depth;
              done = all;
              same = ap (λ (x : List ℕ). acts bytes stack₀.places stack₀.depth (a.turns - 1) (number + 1) turn.at turn.sum (cycles + 1) x all) glyphs-are
                  ∙ sym (turn_goes bytes stack₀.places stack₀.depth (a.turns - 1) number slot sum cycles stack.glyphs a.done goes f)
                  ∙ from_here;
              made = line;
              long = lg ∙ a.long;
              all = lh ∙ a.all;
            }
