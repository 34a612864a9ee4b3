use Rattle.std.proofs.Common.{◌<◌, ◌≢◌, length, arith, get_or-set_other, get_or-set_same, below_more, refl}
use Rattle.noncontextual.proofs.Memos.{nothing_remembered, still_remembers}
use Rattle.noncontextual.proofs.by_records.Goals as goal

pub loop-place-init : goal.loop-place-init
loop-place-init c = (λ k h. absurd (omega arith), λ k h. refl, nothing_remembered)

pub loop-place-preserved : goal.loop-place-preserved
loop-place-preserved c =
    let place = c.loop-place.place in
    let known = c.loop-place.invariant in (
      below_more _ _
          (λ k h. let ne : k ≢ place = omega arith in rw get_or-set_other (known.0 k h))
          (let lt : place < length c.loop-place.glyphs = omega arith in rw (get_or-set_same, ← known.1 place (omega arith)) c.remembered.ensures.becomes),
      λ k h. let ne : k ≢ place = omega arith in rw get_or-set_other (known.1 k (omega arith)),
      still_remembers known.2 c.remembered.ensures.becomes c.remembered.type_inv c.remembered.ensures.memo,
    )
