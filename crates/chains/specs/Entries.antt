-- What the entries on lists answer: a refusal, or what the list gives.
use Rattle.answers.specs.declared.Refusal.{Refusal}
use Rattle.std.specs.Prelude.{ℕ, List, [], ◌∷◌, ltb, length, Option, Result, Ok, Err}
use Rattle.answers.specs.Refuse.{Test, refuse, table_test}
use Rattle.answers.specs.declared.Refusal.TheVariants as Refusal'
use Rattle.answers.specs.declared.Answer.{Answer}
use Rattle.answers.specs.declared.Answer.TheVariants as Answer'
use Rattle.chains.specs.Lists.{chains_from, next_chain, next_feature, next_subtable}
use Rattle.chains.specs.declared.Edition.{Edition}
use Rattle.chains.specs.declared.Cursor.{Cursor}
use Rattle.chains.specs.declared.Chain.{Chain}
use Rattle.chains.specs.declared.Feature.{Feature}
use Rattle.chains.specs.declared.Subtable.{Subtable}

-- HEAD: the start is past the table
unfoldable pub start_test : (table_length start : ℕ) → Test
start_test table_length start = record { holds = ltb table_length start; refusal = Refusal'.Head }

-- TABLE, HEAD
unfoldable pub chains_tests : (table_length start : ℕ) → List Test
chains_tests table_length start = table_test table_length ∷ start_test table_length start ∷ []

-- a call that passes its tests gives what its list does, and any other its refusal
abbrev pub given : {T : Type 0} → Result Unit Refusal → T → Result T Refusal
given (Ok tt) work = Ok work
given (Err why) work = Err why

abbrev pub chains_by : Result Unit Refusal → Cursor → Result Cursor Refusal
chains_by = given

unfoldable pub chains_call : List ℕ → (start : ℕ) → Result Cursor Refusal
chains_call table start = chains_by (refuse (chains_tests (length table) start)) (chains_from table start)

-- the lists answer TABLE, or what they go on with
abbrev pub chain_by : Result Unit Refusal → Option Chain → Result (Option Chain) Refusal
chain_by = given

unfoldable pub chain_call : Edition → List ℕ → Cursor → Result (Option Chain) Refusal
chain_call edition table c = chain_by (refuse (table_test (length table) ∷ [])) (next_chain edition table c)

abbrev pub feature_by : Result Unit Refusal → Option Feature → Result (Option Feature) Refusal
feature_by = given

unfoldable pub feature_call : List ℕ → Cursor → Result (Option Feature) Refusal
feature_call table c = feature_by (refuse (table_test (length table) ∷ [])) (next_feature table c)

abbrev pub subtable_by : Result Unit Refusal → Option Subtable → Result (Option Subtable) Refusal
subtable_by = given

unfoldable pub subtable_call : Edition → List ℕ → Cursor → Result (Option Subtable) Refusal
subtable_call edition table c = subtable_by (refuse (table_test (length table) ∷ [])) (next_subtable edition table c)

-- the answers: the end of a list is DONE, too
abbrev pub answered : {T : Type 0} → Result T Refusal → Answer
answered (Ok work) = Answer'.Done
answered (Err why) = Answer'.Refused why

abbrev pub chains_answer : Result Cursor Refusal → Answer
chains_answer = answered

abbrev pub chain_answer : Result (Option Chain) Refusal → Answer
chain_answer = answered

abbrev pub feature_answer : Result (Option Feature) Refusal → Answer
feature_answer = answered

abbrev pub subtable_answer : Result (Option Subtable) Refusal → Answer
subtable_answer = answered
