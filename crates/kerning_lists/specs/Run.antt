-- A whole run over a list: zero, plus what each visited subtable contributes.
use Rattle.answers.specs.declared.Refusal.{Refusal}
use Rattle.std.specs.Prelude.{ℕ, suc, ◌-◌, true, false, cond, List, [], ◌∷◌, ◌++◌, ℤ, pos, length, drop, Result, Ok, Err}
use Rattle.laws.specs.Backward.{backward}
use Rattle.laws.specs.Choose.{if_lt}
use Rattle.laws.specs.Lists.{tab}
use Rattle.answers.specs.Refuse.{Test, table_test}
use Rattle.answers.specs.declared.Answer.{Answer}
use Rattle.answers.specs.declared.Answer.TheVariants as Answer'
use Rattle.answers.specs.declared.Refusal.TheVariants as Refusal'
use Rattle.line.specs.Line.{Line}
use Rattle.kerning.specs.Additions.{Addition, add_all}
use Rattle.kerning.specs.Line.{kernable_test}
use Rattle.kerning_lists.specs.Walk.{visited, walk_answer}
use Rattle.kerning_lists.specs.declared.Subtable.{Subtable}

-- so many adjustments, all zero
unfoldable pub zeros : ℕ → List ℤ
zeros n = tab (λ p. pos 0) n

-- the place where one of the first n stands when they are turned round
abbrev pub mirrored : (n place : ℕ) → ℕ
mirrored n place = if_lt place n (n - suc place) place

-- additions to a line that was turned round, as additions to the line itself
unfoldable pub turned_back : (used : ℕ) → List Addition → List Addition
turned_back used [] = []
turned_back used (a ∷ more) = record { place = mirrored used a.place; number = a.number } ∷ turned_back used more

-- what one subtable contributes: nothing where the run passes over it; where it is turned, what it adds to the glyphs turned round, turned back
unfoldable pub contribution : (work : Subtable → List ℕ → List Addition) → (glyphs : List ℕ) → (used : ℕ) → Subtable → List Addition
contribution work glyphs used s =
    cond s.passed_over []
    (cond s.turned (turned_back used (work s (backward used glyphs))) (work s glyphs))

-- what all of some subtables contribute, one after the other
unfoldable pub contributions : (work : Subtable → List ℕ → List Addition) → (glyphs : List ℕ) → (used : ℕ) → List Subtable → List Addition
contributions work glyphs used [] = []
contributions work glyphs used (s ∷ more) = contribution work glyphs used s ++ contributions work glyphs used more

-- what a run makes of the used adjustments: zero, plus what the visited subtables contribute
unfoldable pub used_part : (walk : List Subtable) → (work : Subtable → List ℕ → List Addition) → (glyphs : List ℕ) → (used : ℕ) → List ℤ
used_part walk work glyphs used = add_all (contributions work glyphs used (visited walk)) (zeros used)

-- what a run answers, the heads that it read, and the adjustments that it leaves
pub record Ran : Type 0 where
  pub answer : Answer
  pub heads : ℕ
  pub along : List ℤ

-- a run over a walk; the adjustments behind the used ones stay as they were
unfoldable pub ran_over : (walk : List Subtable) → (work : Subtable → List ℕ → List Addition) → (glyphs : List ℕ) → (used : ℕ) → List ℤ → Ran
ran_over walk work glyphs used along =
    record {
      answer = walk_answer walk;
      heads = length (visited walk);
      along = used_part walk work glyphs used ++ drop used along;
    }

-- HEAD of a run: the start is past the table
unfoldable pub start_test : (table_length start : ℕ) → Test
start_test table_length start = record { holds = if_lt table_length start true false; refusal = Refusal'.Head }

-- the tests of a run: TABLE, LINE, HEAD
unfoldable pub run_tests : (table_length start : ℕ) → Line → List ℤ → List Test
run_tests table_length start l along = table_test table_length ∷ kernable_test l along ∷ start_test table_length start ∷ []

-- a refused run counts no heads and changes nothing
abbrev pub unless_refused : Result Unit Refusal → List ℤ → Ran → Ran
unless_refused (Ok tt) along ran = ran
unless_refused (Err why) along ran = record { answer = Answer'.Refused why; heads = 0; along = along }
