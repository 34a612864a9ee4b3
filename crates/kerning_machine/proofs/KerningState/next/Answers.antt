use Rattle.kerning_machine.proofs.Acting.{next-ended, next-over, next-goes}
use Rattle.state_tables.proofs.Laws.{entry_payload}
use mathlib.Core.Path.{refl}
use native.Mathlib.Omega.{arith}
use Rattle.kerning_machine.proofs.KerningState.next.Goals as goal

pub returns-in_err-entry : goal.returns-in_err-entry
returns-in_err-entry g c =
    let e = λ (glyph : _). next-ended (λ _. c.args.class) _ _ _ _ _ glyph _ refl c.payload_of.ensures c.entry_of.ensures c.in_err-entry.was (rw c.from_residual.ensures) in
    record { step = λ glyph. (e glyph).steps; along = λ glyph. (e glyph).leaves }

pub orders_of-orders-requires : goal.orders_of-orders-requires
orders_of-orders-requires g c = omega (arith, entry_payload _ _ _ _ _ c.entry_of.ensures c.in_ok-entry.was, c.payload_of.ensures)

pub returns-then-walked : goal.returns-then-walked
returns-then-walked g c =
    record {
      step = λ glyph. (next-over (λ _. c.args.class) _ _ _ _ _ glyph _ refl c.payload_of.ensures c.entry_of.ensures _ c.in_ok-entry.was c.orders_of-orders.ensures (c.act-walked.ensures.step _ c.requires.0) (c.act-walked.ensures.along _ c.requires.0) c.if-walked.true).steps;
      along = λ glyph. (next-over (λ _. c.args.class) _ _ _ _ _ glyph _ refl c.payload_of.ensures c.entry_of.ensures _ c.in_ok-entry.was c.orders_of-orders.ensures (c.act-walked.ensures.step _ c.requires.0) (c.act-walked.ensures.along _ c.requires.0) c.if-walked.true).leaves;
    }

pub returns : goal.returns
returns g c =
    record {
      step = λ glyph. (next-goes (λ _. c.args.class) _ _ _ _ _ glyph _ refl c.payload_of.ensures c.entry_of.ensures _ c.in_ok-entry.was c.orders_of-orders.ensures (c.act-walked.ensures.step _ c.requires.0) (c.act-walked.ensures.along _ c.requires.0) c.if-walked.false c.stall-stalled.ensures c.kept-self.ensures).steps;
      along = λ glyph. (next-goes (λ _. c.args.class) _ _ _ _ _ glyph _ refl c.payload_of.ensures c.entry_of.ensures _ c.in_ok-entry.was c.orders_of-orders.ensures (c.act-walked.ensures.step _ c.requires.0) (c.act-walked.ensures.along _ c.requires.0) c.if-walked.false c.stall-stalled.ensures c.kept-self.ensures).leaves;
    }
