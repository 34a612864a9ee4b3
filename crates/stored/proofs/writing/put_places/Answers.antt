use Rattle.stored.proofs.Written.{filling_start, place_next, filling_done}
use native.Mathlib.Omega.{arith}
use Rattle.stored.proofs.writing.put_places.Goals as goal

pub loop-p-init : goal.loop-p-init
loop-p-init c = filling_start _ _ _ _ (omega arith)

pub loop-p-preserved : goal.loop-p-preserved
loop-p-preserved c = search place_next

pub shape_of-buffer : goal.shape_of-buffer
shape_of-buffer c = c.loop-p.invariant.long

pub returns : goal.returns
returns c = search filling_done
