-- The LINE test of kerning calls, and the tests of a lone pass.
use Rattle.std.specs.Prelude.{ℕ, Bool, not, List, [], ◌∷◌, leb, eqb, ℤ, pos, nat_abs, length, get_or}
use Rattle.laws.specs.Lists.{both, every}
use Rattle.answers.specs.Refuse.{Test, table_test}
use Rattle.answers.specs.declared.Refusal.TheVariants as Refusal'
use Rattle.line.specs.Line.{Line}
use Rattle.line.specs.Test.{is_valid}

-- how large a lent adjustment may be: 2^40
abbrev pub bound : ℕ
bound = 1099511627776

-- no adjustment of the room is beyond ±2^40
unfoldable pub is_modest : List ℤ → Bool
is_modest along = every (λ p. leb (nat_abs (get_or along p (pos 0))) bound) (length along)

-- the line's own test, and as many adjustments as the room: what a whole run tests
unfoldable pub is_kernable : Line → List ℤ → Bool
is_kernable l along = both (eqb (length along) (length l.glyphs)) (is_valid l)

-- and the bound on lent adjustments: what a lone pass tests
unfoldable pub is_taken : Line → List ℤ → Bool
is_taken l along = both (is_kernable l along) (is_modest along)

-- LINE of a whole run
unfoldable pub kernable_test : Line → List ℤ → Test
kernable_test l along = record { holds = not (is_kernable l along); refusal = Refusal'.Line }

-- LINE of a lone pass
unfoldable pub taken_test : Line → List ℤ → Test
taken_test l along = record { holds = not (is_taken l along); refusal = Refusal'.Line }

-- the tests of a lone pass: TABLE, LINE; HEAD is an answer of the pass
unfoldable pub kerning_tests : (table_length : ℕ) → Line → List ℤ → List Test
kerning_tests table_length l along = table_test table_length ∷ taken_test l along ∷ []
