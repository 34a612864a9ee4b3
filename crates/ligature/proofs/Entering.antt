-- What an entry comes to, by its push and its actions.
use Rattle.std.specs.Prelude.{Option, Some, None}
use Prim.Native.Nat.{ℕ}
use mathlib.Core.Path.{◌≡◌, refl, sym, ◌∙◌, ap, ap₂, subst⁻¹}
use mathlib.Core.Bool.{Bool, true, false, cond}
use mathlib.Core.List.{List, []}
use Rattle.parse.specs.Reads.{u16_at}
use Rattle.state_tables.specs.declared.entries.Entry.{Entry}
use Rattle.line.specs.Line.{Line}
use Rattle.laws.specs.Bits.{is_set}
use Rattle.ligature.specs.Ligature.{Work, work_of, overflows, pushed, performed, entered}
use Rattle.ligature.specs.Work.{ligated, spent, Stands, Leaves, after_acts, after_entry}
use Rattle.ligature.specs.declared.Stack.{Stack}
use Rattle.ligature.proofs.Ligations.{ligated-none}

-- a push that finds room, and none
pub record Ready (stack : Stack) (index glyph : ℕ) (sets : Bool) (stack' : Stack) : Type 0 where
  pub room : overflows sets stack.depth ≡ false
  pub is : stack' ≡ pushed sets stack index glyph

-- by what the code has of it
module _ (stack : Stack) (index glyph : ℕ) {sets : Bool} where
  pub push_none : {stack' : Stack} → sets ≡ false → stack' ≡ stack → Ready stack index glyph sets stack'
  push_none e s = rw e (record { room = refl; is = s })

  module _ {pushes : Option Unit} {stack' : Stack} (e : sets ≡ true) (f : pushes ≡ cond (overflows true stack.depth) None (Some tt))
      (s : stack' ≡ cond (overflows true stack.depth) stack (pushed true stack index glyph)) where
    pub push_full : pushes ≡ None → (overflows sets stack.depth ≡ true) × (stack' ≡ stack)
    push_full n = go (overflows true stack.depth) refl (sym f ∙ n) s
      where
        go : (t : Bool) → overflows true stack.depth ≡ t → ◌≡◌ {A = Option Unit} (cond t None (Some tt)) None
            → stack' ≡ cond t stack (pushed true stack index glyph) → (overflows sets stack.depth ≡ true) × (stack' ≡ stack)
        go true o n k = (ap (λ (b : Bool). overflows b stack.depth) e ∙ o, k)
        go false o n k = absurd cc

    pub push_room : {done : Unit} {stack'' : Stack} → pushes ≡ Some done → stack'' ≡ stack' → Ready stack index glyph sets stack''
    push_room {done} {stack''} n k = go (overflows true stack.depth) refl (sym f ∙ n) s
      where
        go : (t : Bool) → overflows true stack.depth ≡ t → ◌≡◌ {A = Option Unit} (cond t None (Some tt)) (Some done)
            → stack' ≡ cond t stack (pushed true stack index glyph) → Ready stack index glyph sets stack''
        go true o n s = absurd cc
        go false o n s =
            rw e (record { room = o; is = k ∙ s })

-- what work of this kind leaves
abbrev after_work : Work → Line → Stands (Option ℕ)
after_work w l = record { answer = spent w.ended w.cycles; stack = w.stack; line = ligated w.made l }

-- with no ligatures
bare : (w : Work) (l : Line) → ligated w.made l ≡ l → Leaves (after_work w l) (spent w.ended w.cycles) w.stack l.glyphs l.homes
bare w l e =
    record { answers = refl; stands = refl; written = ap (λ (k : Line). k.glyphs) (sym e); joined = ap (λ (k : Line). k.homes) (sym e) }

module _ (l : Line) (bytes : List ℕ) (entry : Entry) (stack : Stack) (index glyph cycles : ℕ) where
  abbrev Left : Option ℕ → Stack → (glyphs homes : List ℕ) → Type 0
  Left = Leaves (after_entry bytes entry stack l index glyph cycles)

  -- the push finds no room
  pub entered_full : {sets : Bool} → sets ≡ is_set entry.flags 0x8000 → overflows sets stack.depth ≡ true → Left None stack l.glyphs l.homes
  unfolding entered
  entered_full s o = rw (ap (λ (b : Bool). overflows b stack.depth) (sym s) ∙ o, entered) (bare (work_of true stack cycles []) l (ligated-none l))

  -- it does, or there is none
  module _ {sets : Bool} {stack' : Stack} (s : sets ≡ is_set entry.flags 0x8000) (p : Ready stack index glyph sets stack') where
    is_performed : {performs : Bool} → performs ≡ is_set entry.flags 0x2000
        → entered bytes stack entry index glyph cycles ≡ performed bytes performs (u16_at bytes entry.payload) stack' cycles
    unfolding entered
    is_performed {performs} e =
        rw (ap (λ (b : Bool). overflows b stack.depth) (sym s) ∙ p.room, entered)
        (ap₂ (λ (b : Bool) (x : Stack). performed bytes b (u16_at bytes entry.payload) x cycles) (sym e)
        (ap (λ (b : Bool). pushed b stack index glyph) (sym s) ∙ sym p.is))

    pub entered_bare : {performs : Bool} → performs ≡ is_set entry.flags 0x2000 → performs ≡ false → Left (Some cycles) stack' l.glyphs l.homes
    unfolding performed
    entered_bare e n =
        subst⁻¹ (λ (w : Work). Leaves (after_work w l) (Some cycles) stack' l.glyphs l.homes) (is_performed (sym n ∙ e)) (bare (work_of false stack' cycles []) l (ligated-none l))

    pub entered_acts : {performs : Bool} {number : ℕ} {answer : Option ℕ} {stack'' : Stack} {glyphs homes : List ℕ} → performs ≡ is_set entry.flags 0x2000
        → performs ≡ true → number ≡ u16_at bytes entry.payload → Leaves (after_acts bytes stack' number cycles l) answer stack'' glyphs homes
        → Left answer stack'' glyphs homes
    unfolding performed
    entered_acts {performs} {number} {answer} {stack''} {glyphs} {homes} e n c a =
        subst⁻¹ (λ (w : Work). Leaves (after_work w l) answer stack'' glyphs homes)
        (is_performed (sym n ∙ e) ∙ ap (λ (k : ℕ). performed bytes true k stack' cycles) (sym c)) a
