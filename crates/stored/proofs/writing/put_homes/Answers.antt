use Rattle.stored.proofs.Written.{filling_start, home_next, filling_done}
use native.Mathlib.Omega.{arith}
use Rattle.stored.proofs.writing.put_homes.Goals as goal

pub loop-c-init : goal.loop-c-init
loop-c-init c = filling_start _ _ _ _ (omega arith)

pub loop-c-preserved : goal.loop-c-preserved
loop-c-preserved c = search home_next

pub shape_of-buffer : goal.shape_of-buffer
shape_of-buffer c = c.loop-c.invariant.long

pub returns : goal.returns
returns c = search filling_done
