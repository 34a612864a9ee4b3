-- The survey's verdict as numbers: 0 no records, 1 sorted, 2 bad, with the first bad record, 3 another unit size. What is not said stays as it was.
use Rattle.std.specs.Prelude.{ℕ, Result, Ok, Err}
use Rattle.answers.specs.declared.Answer.{Answer}
use Rattle.answers.specs.declared.Refusal.{Refusal}
use Rattle.answers.specs.declared.Answer.TheVariants as Answer'
use Rattle.answers.specs.declared.Refusal.{Refusal}
use Rattle.tables.specs.declared.survey.Surveyed.{Surveyed}
use Rattle.tables.specs.declared.survey.Surveyed.TheVariants.{Sorted, Bad, UnitSize, NoRecords, Nothing}

abbrev pub survey_answer : Result Surveyed Refusal → Answer
survey_answer (Ok Sorted) = Answer'.Done
survey_answer (Ok (Bad index)) = Answer'.Done
survey_answer (Ok (UnitSize n)) = Answer'.Done
survey_answer (Ok NoRecords) = Answer'.Done
survey_answer (Ok Nothing) = Answer'.Nothing
survey_answer (Err why) = Answer'.Refused why

abbrev pub verdict_of : Result Surveyed Refusal → ℕ → ℕ
verdict_of (Ok NoRecords) was = 0
verdict_of (Ok Sorted) was = 1
verdict_of (Ok (Bad index)) was = 2
verdict_of (Ok (UnitSize n)) was = 3
verdict_of (Ok Nothing) was = was
verdict_of (Err why) was = was

abbrev pub bad_record : Result Surveyed Refusal → ℕ → ℕ
bad_record (Ok (Bad index)) was = index
bad_record (Ok Sorted) was = was
bad_record (Ok (UnitSize n)) was = was
bad_record (Ok NoRecords) was = was
bad_record (Ok Nothing) was = was
bad_record (Err why) was = was
