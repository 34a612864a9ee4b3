use Rattle.kerning_machine.proofs.Acting.{act_full, act_deep, act_follows}
use mathlib.Core.Path.{sym, ◌∙◌}
use Rattle.kerning_machine.proofs.act.Goals as goal

pub returns-then-is_full : goal.returns-then-is_full
returns-then-is_full g c =
    record {
      step = λ reading by. (act_full _ reading _ _ _ _ _ c.args.along.now c.is_full.ensures c.if-is_full.true).steps;
      along = λ reading by. (act_full _ reading _ _ _ _ _ _ c.is_full.ensures c.if-is_full.true).leaves;
    }

pub push-deep-requires : goal.push-deep-requires
push-deep-requires g c = (c.requires.1.0, sym c.is_full.ensures ∙ c.if-is_full.false)

pub follow-requires : goal.follow-requires
follow-requires g c =
    (c.requires.0, (act_deep c.args.orders _ _ _ c.requires.1.0 (sym c.is_full.ensures ∙ c.if-is_full.false) c.push-deep.ensures, c.requires.1.1, c.requires.1.2))

pub returns : goal.returns
returns g c =
    record {
      step = λ reading by. (act_follows _ reading _ _ _ _ _ _ c.is_full.ensures c.if-is_full.false c.push-deep.ensures (c.follow.ensures.left reading by) (c.follow.ensures.along reading by)).steps;
      along = λ reading by. (act_follows _ reading _ _ _ _ _ _ c.is_full.ensures c.if-is_full.false c.push-deep.ensures (c.follow.ensures.left reading by) (c.follow.ensures.along reading by)).leaves;
    }
