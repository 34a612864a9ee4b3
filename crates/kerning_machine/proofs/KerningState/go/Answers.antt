use mathlib.Core.Path.{sym, ◌∙◌}
use native.Mathlib.Omega.{arith}
use Rattle.kerning_machine.specs.Machine.{own_classes}
use Rattle.kerning_machine.proofs.Acting.{next_by_class}
use Rattle.kerning_machine.proofs.KerningState.go.Goals as goal

pub next-requires : goal.next-requires
next-requires c = ((sym c.rule_of-rule.ensures, sym c.stride_of-stride.ensures.0), omega (arith, c.stride_of-stride.ensures.1), c.requires)

pub returns-in_default : goal.returns-in_default
returns-in_default c =
    let e = next_by_class (own_classes _ c.args.kerning) _ c.args.kerning _ _ _ c.args.glyph _ c.next.new.self c.class_of-class.ensures c.in_default.is c.next.ensures.step c.next.ensures.along in
    record { step = c.stopped.ensures ∙ e.steps; along = e.leaves }

pub returns : goal.returns
returns c =
    let e = next_by_class (own_classes _ c.args.kerning) _ c.args.kerning _ _ _ c.args.glyph _ c.next.new.self c.class_of-class.ensures c.in-Some.is c.next.ensures.step c.next.ensures.along in
    record { step = e.steps; along = e.leaves }
