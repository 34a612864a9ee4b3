use Rattle.kerning.proofs.Signs.{sum_fits, sum_is}
use Rattle.report.proofs.sum.Goals as goal

pub overflow_add-result : goal.overflow_add-result
overflow_add-result c = sum_fits c.ranges.a c.ranges.b c.requires

pub returns : goal.returns
returns c = sum_is c.ranges.a c.ranges.b c.requires
