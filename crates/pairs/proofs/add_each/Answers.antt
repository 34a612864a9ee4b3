use native.Mathlib.Omega.{arith}
use Rattle.kerning.proofs.Adding.{within_more}
use Rattle.line.proofs.Room.{room_small}
use Rattle.pairs.proofs.Passes.{stretching_next, stretching_done}
use Rattle.pairs.proofs.add_each.Goals as goal

pub add_number-requires : goal.add_number-requires
add_number-requires g c =
    (omega (arith, c.loop-place.invariant.begun, c.loop-place.invariant.long), within_more (omega (arith, room_small)) c.loop-place.invariant.small)

pub loop-place-preserved : goal.loop-place-preserved
loop-place-preserved g c =
    stretching_next _ _ c.number.result c.loop-place.invariant c.loop-place-test.true
    (omega (arith, c.type_inv.glyphs c.loop-place.left)) (omega (arith, c.type_inv.glyphs c.loop-place.place))
    c.number.ensures c.add_number.ensures.along c.add_number.ensures.small

pub returns : goal.returns
returns g c = λ numbers gives. stretching_done _ _ c.loop-place.invariant (omega arith) numbers gives
