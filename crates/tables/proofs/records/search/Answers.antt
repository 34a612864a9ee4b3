use Rattle.std.proofs.Common.{rules}
use Rattle.tables.specs.Search.{side_of, searched}
use Rattle.tables.proofs.records.search.Goals as goal

pub returns : goal.returns
unfolding searched
returns c = c.halve.ensures (side_of c.args.bytes.now c.args.base c.args.keys c.args.key) (λ i s h p. search rules)
