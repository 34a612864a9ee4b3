use Rattle.kerning_machine.proofs.Readings.{kerx-none, kerx-nowhere, kerx-fits, kerx-at}
use Rattle.kerning_machine.proofs.kerx_start.Goals as goal

pub returns-then-index-eq-NO_LIST : goal.returns-then-index-eq-NO_LIST
returns-then-index-eq-NO_LIST c = kerx-none _ _ _ c.if-index-eq-NO_LIST.true

pub returns-then-size-number : goal.returns-then-size-number
returns-then-size-number c = kerx-nowhere _ _ _ c.if-index-eq-NO_LIST.false c.size_of-size.ensures.0 c.size_of-size.ensures.1 c.if-size-number.true

pub overflow_mul-result : goal.overflow_mul-result
overflow_mul-result c = record { fits = kerx-fits _ _ _ c.if-index-eq-NO_LIST.false c.size_of-size.ensures.0 c.size_of-size.ensures.1 c.if-size-number.false }

pub returns : goal.returns
returns c = kerx-at _ _ _ c.if-index-eq-NO_LIST.false c.size_of-size.ensures.0 c.size_of-size.ensures.1 c.if-size-number.false
