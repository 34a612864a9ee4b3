use Rattle.insertion.proofs.Steps.{step_told, start_fits, list-fits}
use Rattle.insertion.proofs.Shapes.{next_fits}
use Rattle.insertion.proofs.InsertionState.step.Goals as goal

pub overflow_add-body : goal.overflow_add-body
overflow_add-body c =
    let t = step_told _ _ _ _ _ _ c.refuse_step.ensures c.in_default.is in
    record { fits = start_fits _ _ t.short c.from-bytes.ensures c.open-made.ensures c.in-Some.is c.from.ensures }

pub moved_by-requires : goal.moved_by-requires
moved_by-requires c =
    let t = step_told _ _ _ _ _ _ c.refuse_step.ensures c.in_default.is in
    let f = next_fits _ _ _ _ _ _ _ _ _ t.within c.next-step.ensures in
    list-fits _ _ t.short c.from-bytes.ensures c.open-made.ensures c.in-Some.is c.from.ensures _ f.marked-inside

pub moved_by-requires-2 : goal.moved_by-requires-2
moved_by-requires-2 c =
    let t = step_told _ _ _ _ _ _ c.refuse_step.ensures c.in_default.is in
    let f = next_fits _ _ _ _ _ _ _ _ _ t.within c.next-step.ensures in
    list-fits _ _ t.short c.from-bytes.ensures c.open-made.ensures c.in-Some.is c.from.ensures _ f.current-inside
