-- A machine's pass by a state table that it is lent: what the changes of its every step have of the line that they are made on, those of the pass have.
use Rattle.std.specs.Prelude.{Some}
use Prim.Native.Nat.{ℕ}
use mathlib.Core.Bool.{Bool}
use mathlib.Core.List.{List, ◌∷◌}
use Rattle.state_tables.specs.declared.States.{States}
use Rattle.line.specs.Line.{Line}
use Rattle.line.specs.Changes.{Change}
use Rattle.machine.specs.Machine.{Machine, passed_by, passed}
use Rattle.machine.proofs.Having.{Closed, worked-has}

-- the machine over a subtable that this state table is behind the head of
module _ (On : Line → Type 0) (Has : List Change → Line → Type 0) (closed : Closed On Has) {S : Type 0} (machine : Machine S)
    (has : (classes : ℕ → ℕ) (bytes : List ℕ) (states : States) (s : S) (l : Line) (i g : ℕ) (e : Bool) → On l
    → Has (machine.step classes bytes states s l i g e).changes l) where
  abbrev over : States → Machine S
  over states =
      record { opened = λ bytes. Some states; fresh = machine.fresh; step = machine.step; rest = machine.rest; state_tests = machine.state_tests }

  abbrev headed : List ℕ → List ℕ
  headed body = 0 ∷ 0 ∷ 0 ∷ 0 ∷ 0 ∷ 0 ∷ 0 ∷ 0 ∷ 0 ∷ 0 ∷ 0 ∷ 0 ∷ body

  pub passed-has : (body : List ℕ) (states : States) (l : Line) → On l → Has (passed machine body states l).changes l
  unfolding passed passed_by
  passed-has body states l on = worked-has On Has closed (over states) has (headed body) l on
