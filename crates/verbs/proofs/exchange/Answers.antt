use Prim.Native.Nat.{◌-◌}
use native.Mathlib.Omega.{arith}
use Rattle.verbs.specs.Steps.{Filled, slid_at}
use Rattle.verbs.proofs.Steps.{slid_over, slid_still, exchanged}
use Rattle.verbs.proofs.exchange.Goals.{then-left_size-right_size, else-left_size-right_size}
use Rattle.verbs.proofs.exchange.Goals as goal

pub returns : goal.returns
returns c =
    let l = c.size_of-left_size.result in
    let r = c.size_of-right_size.result in
    let slid : Filled (slid_at c.args.part.now l r) r (c.args.end - l) c.args.part.now c.if-left_size-right_size.part =
    elim c.if-left_size-right_size.branch [
      | then-left_size-right_size w ↦ rw w.part-is (slid_over _ _ _ _ (omega arith) w.copy_within.ensures.len w.copy_within.ensures.by_index)
      | else-left_size-right_size w ↦ rw w.part-is (slid_still _ _ _ _ (omega (arith, w.if-left_size-right_size)))
    ]
    in
    exchanged _ _ _ _ c.requires.0 c.size_of-left_size.ensures.0 c.size_of-right_size.ensures.0 c.lift-first.ensures c.lift-last.ensures slid
    c.put.ensures c.put-2.ensures
