-- For the code alone; no entry and no promise rests on it, and nobody has to believe it. The number of a pair by tables of classes that are opened once,
-- the first place of some, what a stretch of places adds, and that a number has 16 bits, with which the code shows that it does not overflow.
use Rattle.tables.specs.declared.lookup.Why.{Why}
use Rattle.std.specs.Prelude.{ℕ, zero, suc, ◌+◌, ◌<◌, ◌≤◌, ◌≡◌, Bool, true, false, not, List, [], ◌∷◌, ◌++◌, leb, length, get_or, drop, Option, Some, None, Result, Ok, Err, ℤ}
use Rattle.std.specs.Result.{result_ok}
use Rattle.std.specs.Int.{w16}
use Rattle.std.proofs.Common.{SFits}
use Rattle.laws.specs.Lists.{both}
use Rattle.tables.specs.Records.{pair_place}
use Rattle.tables.specs.Units.{units_by}
use Rattle.tables.specs.declared.units.Reading.{Reading}
use Rattle.tables.specs.declared.units.Units.{Units}
use Rattle.tables.specs.declared.units.Units.TheVariants as Units'
use Rattle.tables.specs.Opened.{found_in}
use Rattle.tables.specs.declared.opened.Array.{Array}
use Rattle.pairs.specs.Pairs.{number_at}
use Rattle.kerning.specs.Additions.{Addition}
use Rattle.pairs.specs.Pass.{addition_of}
use Rattle.pairs.specs.declared.PairTable.{PairTable}
use Rattle.pairs.specs.declared.PairTable.TheVariants.{Ordered, Classes}

-- rows and columns both have elements of two bytes
abbrev pub are_words : Result Units Why → Bool
are_words (Ok Units'.Words) = true
are_words (Ok (Units'.Bytes first count)) = false
are_words (Err why) = false

unfoldable pub in_words : List ℕ → (rows columns : ℕ) → Reading → Bool
in_words bytes rows columns reading = both (are_words (units_by reading (drop rows bytes))) (are_words (units_by reading (drop columns bytes)))

-- pairs that have a loop of their own
unfoldable pub is_plain : List ℕ → PairTable → Bool
is_plain bytes (Ordered first count) = leb (pair_place first count) (length bytes)
is_plain bytes (Classes rows columns array reading) = in_words bytes rows columns reading

-- what is made of a class; why there is none is not told
abbrev pub on_found : Result ℕ Why → (ℕ → Option ℤ) → Option ℤ
on_found (Ok class) use-it = use-it class
on_found (Err why) use-it = None

unfoldable pub opened_number : List ℕ → (rows : List ℕ) → Option Array → (columns : List ℕ) → Option Array → (array left right : ℕ) → Option ℤ
opened_number bytes rows left_rows columns right_columns array left right =
    on_found (found_in rows left_rows left)
    (λ row. on_found (found_in columns right_columns right) (λ column. result_ok (number_at bytes (array + row + column))))

-- the first place from `from` on of which the test says so, or `used`, where there is none below
pub record FirstFrom (test : ℕ → Bool) (so : Bool) (from used place : ℕ) : Type 0 where
  pub within : place ≤ used
  pub skipped : (k : ℕ) → from ≤ k → k < place → test k ≡ not so
  pub here : place < used → (from ≤ place) × (test place ≡ so)

-- what n places from `from` on add, each with the one before it and the first with `before`
module _ (number : (left right : ℕ) → Result ℤ Why) (glyphs : List ℕ) where
  unfoldable pub stretch : (before from n : ℕ) → List Addition
  stretch before from zero = []
  stretch before from (suc n) = addition_of before (number (get_or glyphs before 0) (get_or glyphs from 0)) ++ stretch from (suc from) n

-- what a number adds to a place
abbrev pub added : (place : ℕ) → Option ℤ → List Addition
added place (Some number) = record { place = place; number = number } ∷ []
added place None = []

-- calls of a closure give the numbers of pairs
abbrev pub Gives : (gave : (left right : ℕ) → Option ℤ → Type 0) → (number : (left right : ℕ) → Result ℤ Why) → Type 0
Gives gave number = (left right : ℕ) → left < 65536 → right < 65536 → (n : Option ℤ) → gave left right n → n ≡ result_ok (number left right)

-- a pair's number is one of 16 bits
abbrev pub Sized : Result ℤ Why → Type 0
Sized (Ok z) = SFits w16 z
Sized (Err why) = Unit {0}
