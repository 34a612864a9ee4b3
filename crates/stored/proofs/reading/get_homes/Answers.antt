use Rattle.stored.proofs.Got.{home_next, homes_done}
use Rattle.line.proofs.Loops.{pasting_start}
use Rattle.stored.proofs.reading.get_homes.Goals as goal

pub loop-c-init : goal.loop-c-init
loop-c-init c = pasting_start _ _ _ _

pub loop-c-preserved : goal.loop-c-preserved
loop-c-preserved c = search home_next

pub shape_of-homes : goal.shape_of-homes
shape_of-homes c = c.loop-c.invariant.long

pub returns : goal.returns
returns c = search homes_done
