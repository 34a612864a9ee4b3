-- The numbers of the answers: document 01's table, and from 10 on those that document 02 adds.
use Rattle.answers.specs.declared.Refusal.{Refusal}
use Rattle.std.specs.Prelude.{ℕ, Option, Some, None, Result, Ok, Err}
use Rattle.answers.specs.declared.Refusal.TheVariants.{Table, Line, Place, State, Head, Request, Record, Version, Tuples, Index, Reel, Anchor, Overlap, Space}
use Rattle.answers.specs.declared.Answer.{Answer}
use Rattle.answers.specs.declared.Answer.TheVariants.{Done, Nothing, Full, Ended, Limit, Refused}

abbrev pub number_of : Answer → ℕ
number_of Done = 0
number_of Nothing = 1
number_of (Refused Table) = 2
number_of (Refused Line) = 3
number_of (Refused Place) = 4
number_of (Refused State) = 5
number_of (Refused Head) = 6
number_of Full = 7
number_of Ended = 8
number_of Limit = 9
number_of (Refused Request) = 10
number_of (Refused Record) = 11
number_of (Refused Version) = 12
number_of (Refused Tuples) = 13
number_of (Refused Index) = 14
number_of (Refused Reel) = 15
number_of (Refused Anchor) = 16
number_of (Refused Overlap) = 17
number_of (Refused Space) = 18

-- the answer of a reply: a value is DONE
abbrev pub answer_of : Result (Option ℕ) Refusal → Answer
answer_of (Ok (Some v)) = Done
answer_of (Ok None) = Nothing
answer_of (Err why) = Refused why

-- the number lent for the value, afterwards: the value, or as it was
abbrev pub value_of : Result (Option ℕ) Refusal → ℕ → ℕ
value_of (Ok (Some v)) was = v
value_of (Ok None) was = was
value_of (Err why) was = was
