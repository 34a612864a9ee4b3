-- The tests of a pass and of a step on a subtable of morx, and what is made of them.
use Rattle.std.specs.Prelude.{ℕ, Bool, true, false, not, cond, List, [], ◌∷◌, ◌++◌, ltb, length, drop, Option, Some, None, Result, Ok, Err}
use Rattle.answers.specs.Refuse.{Test, refuse, table_test}
use Rattle.answers.specs.declared.Refusal.{Refusal}
use Rattle.answers.specs.declared.Refusal.TheVariants as Refusal'
use Rattle.state_tables.specs.declared.States.{States}
use Rattle.state_tables.specs.Classes.{class_of}
use Rattle.state_tables.specs.States.{extended_at}
use Rattle.line.specs.Line.{Line}
use Rattle.line.specs.Test.{line_test}
use Rattle.machine.specs.Head.{has_kind, body_of}

-- the state table of a subtable of this kind, where its head and the state table's own can be read
unfoldable pub opened : List ℕ → (kind : ℕ) → Option States
opened bytes kind = cond (has_kind bytes kind) (extended_at (body_of bytes)) None

abbrev pub is_ready : Option States → Bool
is_ready (Some states) = true
is_ready None = false

-- HEAD: the subtable can't be used, since its head is cut short or of another kind, or what its machine reads behind it is not there
unfoldable pub head_test : (opens : Bool) → Test
head_test opens = record { holds = not opens; refusal = Refusal'.Head }

-- TABLE, LINE, HEAD
unfoldable pub pass_tests : (table_length : ℕ) → Line → (opens : Bool) → List Test
pass_tests table_length l opens = table_test table_length ∷ line_test l ∷ head_test opens ∷ []

-- PLACE: a step's index is above the used length
unfoldable pub place_test : (used index : ℕ) → Test
place_test used index = record { holds = ltb used index; refusal = Refusal'.Place }

-- TABLE, LINE, PLACE, STATE, HEAD, where LINE and STATE are the tests given
unfoldable pub step_tests : (table_length : ℕ) → (line_tests : List Test) → (used index : ℕ) → (state_tests : List Test) → Option States → List Test
step_tests table_length line_tests used index state_tests made =
    table_test table_length ∷ (line_tests ++ place_test used index ∷ (state_tests ++ head_test (is_ready made) ∷ []))

-- what tests leave to do, or what they refuse
abbrev pub if_passed : {A : Type 0} → (refused : Refusal → A) → Result Unit Refusal → A → A
if_passed refused (Ok tt) work = work
if_passed refused (Err why) work = refused why

-- what there is to do on a state table; without one it is refused by HEAD
abbrev pub on_made : {A : Type 0} → (refused : Refusal → A) → Option States → (States → A) → A
on_made refused (Some states) work = work states
on_made refused None work = refused Refusal'.Head

-- a lone step on the subtable at `start`: its tests, and then what is told, by the classes of glyphs, the bytes from the state table on and that table
unfoldable pub lone_step : {A : Type 0} → (opened : List ℕ → Option States) → (refused : Refusal → A) → List ℕ → (start : ℕ) → (line_tests : List Test)
    → (used index : ℕ) → (state_tests : List Test) → (step : (classes : ℕ → ℕ) → List ℕ → States → A) → A
lone_step opened refused table start line_tests used index state_tests step =
    let bytes : List ℕ = drop start table in
    let made : (Option States) = opened bytes in
    if_passed refused (refuse (step_tests (length table) line_tests used index state_tests made))
    (on_made refused made (λ states. step (class_of (body_of bytes) states) (body_of bytes) states))
