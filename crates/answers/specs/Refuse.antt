-- The tests of a call before its work, in document 01's order: the first that holds refuses it.
use Rattle.std.specs.Prelude.{ℕ, Bool, cond, List, [], ◌∷◌, ltb, Option, Result, Ok, Err}
use Rattle.answers.specs.declared.Refusal.{Refusal}
use Rattle.answers.specs.declared.Refusal.TheVariants.{Table}
use Rattle.answers.specs.Limits.{table_limit}

-- a test, and the refusal that it means
pub record Test : Type 0 where
  pub holds : Bool
  pub refusal : Refusal

unfoldable pub refuse : List Test → Result Unit Refusal
refuse [] = Ok tt
refuse (t ∷ ts) = cond t.holds (Err t.refusal) (refuse ts)

-- TABLE: the table is too long
unfoldable pub table_test : ℕ → Test
table_test table_length = record { holds = ltb table_limit table_length; refusal = Table }

-- a refused call is answered so, any other by its work
abbrev pub checked : Result Unit Refusal → Result (Option ℕ) Refusal → Result (Option ℕ) Refusal
checked (Ok tt) work = work
checked (Err why) work = Err why
