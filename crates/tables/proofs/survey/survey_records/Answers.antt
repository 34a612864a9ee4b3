use Rattle.tables.proofs.Scanning.{surveying_start, bad_cut}
use Rattle.tables.proofs.survey.survey_records.Goals as goal

pub loop-index-init : goal.loop-index-init
loop-index-init c = surveying_start _ _ _

pub returns-in_default : goal.returns-in_default
returns-in_default c = bad_cut c.loop-index.invariant c.loop-index-test.true c.record_at.ensures c.in_default.is
