use mathlib.Core.Path.{refl, sym, ◌∙◌}
use native.Mathlib.Omega.{arith}
use Rattle.answers.specs.Limits.{head_limit}
use Rattle.line.proofs.Exact.{of_valid}
use Rattle.morx.proofs.Runs.{going_start, going_step, going_stop, going_end, going_limit}
use Rattle.morx.proofs.run_line.Goals as goal

pub loop-heads-init : goal.loop-heads-init
loop-heads-init c = search going_start

pub returns-in_default : goal.returns-in_default
returns-in_default c = going_end _ _ _ _ _ c.loop-heads.invariant refl (sym c.next_head.ensures ∙ c.in_default.is)

pub visit-reply-requires : goal.visit-reply-requires
visit-reply-requires c = search of_valid

pub returns-then-not-is_done : goal.returns-then-not-is_done
unfolding head_limit
returns-then-not-is_done c =
    going_stop _ _ _ _ _ c.loop-heads.invariant (omega arith) (sym c.next_head.ensures ∙ c.in-Some.is) c.visit-reply.ensures (sym c.is_done.ensures ∙ c.if-not-is_done.true)

pub loop-heads-preserved : goal.loop-heads-preserved
unfolding head_limit
loop-heads-preserved c =
    going_step _ _ _ _ _ c.loop-heads.invariant (omega arith) (sym c.next_head.ensures ∙ c.in-Some.is) c.visit-reply.ensures (sym c.is_done.ensures ∙ c.if-not-is_done.false)
    c.flags_after-flags.ensures c.visit-reply.auto.glyphs c.visit-reply.auto.tags c.visit-reply.auto.homes

pub returns-in-Some-next_head : goal.returns-in-Some-next_head
unfolding head_limit
returns-in-Some-next_head c = going_limit _ _ _ _ _ c.loop-heads.invariant (omega arith) (omega arith) (sym c.next_head-2.ensures ∙ c.in-Some-next_head.is)

pub returns-in-None : goal.returns-in-None
returns-in-None c = going_end _ _ _ _ _ c.loop-heads.invariant (omega arith) (sym c.next_head-2.ensures ∙ c.in-None.is)
