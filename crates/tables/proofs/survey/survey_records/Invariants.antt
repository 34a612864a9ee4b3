use Rattle.tables.proofs.Scanning.{Surveying}
use Rattle.tables.proofs.survey.survey_records.Given as goal

abbrev pub invariant-loop-index : goal.invariant-loop-index
invariant-loop-index l = Surveying l.bytes l.kind l.count l.floor l.index
