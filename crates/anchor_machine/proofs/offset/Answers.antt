use Rattle.anchor_machine.proofs.Acting.{offset_is}
use Rattle.anchor_machine.proofs.offset.Goals as goal

pub returns : goal.returns
returns c = offset_is c.requires.0 c.requires.1 c.in_ok-mark.was c.in_ok-current.was c.if-back-ge-FARTHEST.false c.difference.ensures c.difference-2.ensures
