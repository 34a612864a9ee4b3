-- A whole run: over the heads of the table's walk, one after the other.
use Rattle.std.specs.Prelude.{ℕ, zero, suc, Bool, true, false, not, cond, List, [], ◌∷◌, ◌++◌, eqb, drop}
use Rattle.std.specs.Int.Bits.{bit_and}
use Rattle.answers.specs.Limits.{head_limit}
use Rattle.answers.specs.declared.Answer.{Answer}
use Rattle.answers.specs.declared.Answer.TheVariants as Answer'
use Rattle.line.specs.Line.{Line}
use Rattle.line.specs.Changes.{Change, apply, apply_all}
use Rattle.machine.specs.Pass.{Passed, is_done}
use Rattle.chains.specs.Orders.{is_reversed}
use Rattle.chains.specs.Features.{flags_behind}
use Rattle.chains.specs.Walk.{walk_of}
use Rattle.chains.specs.declared.Edition.{Edition}
use Rattle.chains.specs.declared.Chain.{Chain}
use Rattle.chains.specs.declared.Subtable.{Subtable}
use Rattle.chains.specs.declared.Head.{Head}
use Rattle.chains.specs.declared.Head.TheVariants as Head'
use Rattle.morx.specs.Kinds.{kind_of, subtable_of_kind}
use Rattle.morx.specs.declared.Kind.{Kind}
use Rattle.morx.specs.declared.Choices.{Choices}

-- the flags that choose a chain's subtables: its default flags, switched by those of its features that are asked for, in table order
unfoldable pub choosing : List ℕ → (requests : List ℕ) → Chain → ℕ
choosing table requests chain = flags_behind table chain.features chain.flags requests

-- two numbers have some common bit
unfoldable pub share_bit : ℕ → ℕ → Bool
share_bit a b = not (eqb (bit_and a b) 0)

-- a run passes over the subtables that the flags don't choose, those for vertical text alone, and those of a kind that is left out or
-- can't be opened
unfoldable pub is_passed_over : Edition → (flags : ℕ) → Subtable → (bytes : List ℕ) → Bool
is_passed_over edition flags s bytes =
    cond (share_bit flags s.flags) (cond s.vertical true (not ((subtable_of_kind (kind_of edition s.kind)).is_open bytes))) true

-- nothing is done
abbrev pub idle : Passed
idle = record { answer = Answer'.Done; changes = [] }

-- where the line is to be turned, it is turned before the pass and after it, however that ends
unfoldable pub turned_work : (turned : Bool) → Kind → List ℕ → Line → Passed
turned_work false kind bytes l = (subtable_of_kind kind).worked bytes l
turned_work true kind bytes l =
    let work : Passed = (subtable_of_kind kind).worked bytes (apply Change.reversal l) in
    record { answer = work.answer; changes = (Change.reversal ∷ work.changes) ++ (Change.reversal ∷ []) }

-- what a pass's answer is to its run: FULL ends the run, and any other end is the subtable's own. A pass is never NOTHING or LIMIT, and in a run never
-- refused, since what can't be opened is passed over before: those lines are never reached
abbrev pub settled_answer : Answer → Answer
settled_answer Answer'.Full = Answer'.Full
settled_answer Answer'.Done = Answer'.Done
settled_answer Answer'.Nothing = Answer'.Done
settled_answer Answer'.Ended = Answer'.Done
settled_answer Answer'.Limit = Answer'.Done
settled_answer (Answer'.Refused why) = Answer'.Done

abbrev pub settled : Passed → Passed
settled p = record { answer = settled_answer p.answer; changes = p.changes }

-- a run, over a table and with its choices
module _ (table : List ℕ) (choices : Choices) where
  -- what it does at a subtable, under the flags of its chain
  unfoldable pub visit_subtable : (flags : ℕ) → Subtable → Line → Passed
  visit_subtable flags s l =
      elim (is_passed_over choices.edition flags s (drop s.place table)) [
        | true ↦ idle
        | false ↦ settled (turned_work (is_reversed s.order choices.right_to_left) (kind_of choices.edition s.kind) (drop s.place table) l)
      ]

  -- what it does at a head: nothing at a chain
  unfoldable pub visit : (flags : ℕ) → Head → Line → Passed
  visit flags (Head'.Chain chain) l = idle
  visit flags (Head'.Subtable s) l = visit_subtable flags s l

  -- the line that it leaves
  unfoldable pub visit_leaves : (flags : ℕ) → Head → Line → Line
  visit_leaves flags head l = apply_all (visit flags head l).changes l

-- the flags behind a head: a chain's choose from there on
abbrev pub flags_after : List ℕ → Head → (flags : ℕ) → (requests : List ℕ) → ℕ
flags_after table (Head'.Chain chain) flags requests = choosing table requests chain
flags_after table (Head'.Subtable s) flags requests = flags

-- what a run answers, the changes it made, and how many heads it counted
pub record Ran : Type 0 where
  pub answer : Answer
  pub changes : List Change
  pub heads : ℕ

-- a head counted and changes made before
abbrev pub behind : List Change → Ran → Ran
behind done r = record { answer = r.answer; changes = done ++ r.changes; heads = suc r.heads }

module _ (table : List ℕ) (choices : Choices) where
  -- over heads, with so many left to count: LIMIT where none is left and another head can be read
  unfoldable pub run_over : (left : ℕ) → (flags : ℕ) → List Head → Line → (requests : List ℕ) → Ran
  run_over left flags [] l requests = record { answer = Answer'.Done; changes = []; heads = 0 }
  run_over zero flags (head ∷ heads) l requests = record { answer = Answer'.Limit; changes = []; heads = 0 }
  run_over (suc left) flags (head ∷ heads) l requests =
      let here : Passed = visit table choices flags head l in
      elim (is_done here.answer) [
        | false ↦ record { answer = here.answer; changes = here.changes; heads = 1 }
        | true ↦ behind here.changes (run_over left (flags_after table head flags requests) heads (visit_leaves table choices flags head l) requests)
      ]

-- the run over the table at `start`
unfoldable pub ran : List ℕ → (start : ℕ) → Choices → Line → (requests : List ℕ) → Ran
ran table start choices l requests = run_over table choices head_limit 0 (walk_of choices.edition table start) l requests
