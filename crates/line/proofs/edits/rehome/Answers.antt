use mathlib.Core.Path.{◌∙◌, sym}
use Rattle.laws.proofs.Choices.{if_eq_yes, if_eq_no}
use Rattle.line.proofs.Loops.{rehome_next}
use Rattle.line.proofs.edits.rehome.Goals as goal
use Rattle.line.proofs.edits.rehome.Goals.{then-home-from, else-home-from}

pub loop-home-preserved : goal.loop-home-preserved
loop-home-preserved c =
    rehome_next _ _ _ c.loop-home.invariant c.loop-home-test.true
    (elim c.if-home-from.branch [
      | then-home-from w ↦ w.home-is ∙ sym (if_eq_yes _ _ w.if-home-from.true)
      | else-home-from w ↦ w.home-is ∙ sym (if_eq_no _ _ w.if-home-from.false)
    ])
