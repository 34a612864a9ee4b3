-- The answer for a pair of glyphs, by the paper's numbers.
use Rattle.answers.specs.declared.Refusal.{Refusal}
use Rattle.tables.specs.declared.lookup.Why.{Why}
use Rattle.std.specs.Prelude.{ℕ, List, ℤ, Result, Ok, Err}
use Rattle.answers.specs.declared.Answer.{Answer}
use Rattle.answers.specs.declared.Answer.TheVariants as Answer'
use Rattle.kerning.specs.Heads.{refusal}
use Rattle.kerning.specs.declared.heads.Unready.{Unready}
use Rattle.pairs.specs.Pairs.{pair_number}
use Rattle.pairs.specs.declared.PairTable.{PairTable}

-- the answer of a reply: a number is DONE
abbrev pub answer_of : Result (Result ℤ Why) Refusal → Answer
answer_of (Ok (Ok z)) = Answer'.Done
answer_of (Ok (Err why)) = Answer'.Nothing
answer_of (Err why) = Answer'.Refused why

-- the number lent for the value, afterwards: the pair's number, or as it was
abbrev pub value_of : Result (Result ℤ Why) Refusal → ℤ → ℤ
value_of (Ok (Ok z)) was = z
value_of (Ok (Err why)) was = was
value_of (Err why) was = was

-- the public answer: the number, or nothing and why
abbrev pub number_reply : Result ℤ Why → Result (Result ℤ Why) Refusal
number_reply number = Ok number

-- HEAD where the pairs can't be opened, TUPLES where these are refused, which they are not for a single pair
unfoldable pub reply_of : List ℕ → Result PairTable Unready → (left right : ℕ) → Result (Result ℤ Why) Refusal
reply_of bytes (Ok pairs) left right = number_reply (pair_number bytes pairs left right)
reply_of bytes (Err why) left right = Err (refusal why)

-- a refused call is answered so, any other by its work
abbrev pub checked_pair : Result Unit Refusal → Result (Result ℤ Why) Refusal → Result (Result ℤ Why) Refusal
checked_pair (Ok tt) work = work
checked_pair (Err why) work = Err why
