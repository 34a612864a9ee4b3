use Rattle.line.specs.Line.{line_of}
use Rattle.ligature.proofs.Entering.{Ready, push_none, push_full, push_room, entered_full, entered_bare, entered_acts}
use Rattle.ligature.proofs.enter.Goals as goal
use Rattle.ligature.proofs.enter.Goals.{then-is_set+in_ok-push, else-is_set}

pub returns-in_err-push-clause-leaves : goal.returns-in_err-push-clause-leaves
returns-in_err-push-clause-leaves c =
    let o = push_full c.args.stack.now c.args.index c.args.glyph c.if-is_set.true c.push.ensures.full c.push.ensures.stack c.in_err-push.was in
    rw (c.from_residual.ensures, o.1) (entered_full (line_of _ _ _ _) _ _ _ _ _ _ c.is_set.ensures o.0)

pub returns-then-not-is_set-clause-leaves : goal.returns-then-not-is_set-clause-leaves
returns-then-not-is_set-clause-leaves c =
    let ready : Ready c.args.stack.now c.args.index c.args.glyph c.is_set.result c.if-is_set.stack = elim c.if-is_set.branch [
      | then-is_set+in_ok-push w ↦ push_room _ _ _ w.if-is_set.true w.push.ensures.full w.push.ensures.stack w.in_ok-push.was w.stack-is
      | else-is_set w ↦ push_none _ _ _ w.if-is_set.false w.stack-is
    ] in
    entered_bare (line_of _ _ _ _) _ _ _ _ _ _ c.is_set.ensures ready c.is_set-2.ensures c.if-not-is_set.true

pub returns-clause-leaves : goal.returns-clause-leaves
returns-clause-leaves c =
    let ready : Ready c.args.stack.now c.args.index c.args.glyph c.is_set.result c.if-is_set.stack = elim c.if-is_set.branch [
      | then-is_set+in_ok-push w ↦ push_room _ _ _ w.if-is_set.true w.push.ensures.full w.push.ensures.stack w.in_ok-push.was w.stack-is
      | else-is_set w ↦ push_none _ _ _ w.if-is_set.false w.stack-is
    ] in
    entered_acts (line_of _ _ _ _) _ _ _ _ _ _ c.is_set.ensures ready c.is_set-2.ensures c.if-not-is_set.false c.one_number-number.ensures c.act.ensures.leaves
