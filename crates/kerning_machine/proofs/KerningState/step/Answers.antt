use Rattle.kerning_machine.proofs.Steps.{step-refused, step-ready, step-works}
use Rattle.kerning_machine.proofs.KerningState.step.Goals as goal

pub go-requires : goal.go-requires
go-requires c = step-ready _ c.args.bytes.now _ _ _ _ c.args.glyph _ c.ready.ensures c.in-Ok.is

pub returns-in-Ok : goal.returns-in-Ok
returns-in-Ok c =
    let e = step-works _ _ _ _ _ _ _ _ c.ready.ensures c.in-Ok.is c.go.ensures.step c.go.ensures.along in
    record { step = e.steps; along = e.leaves }

pub returns-in-Err : goal.returns-in-Err
returns-in-Err c =
    let e = step-refused _ _ _ _ _ _ _ _ c.ready.ensures c.in-Err.is c.stopped.ensures in
    record { step = e.steps; along = e.leaves }
