use mathlib.Core.Path.{◌≡◌, sym, ◌∙◌}
use native.Mathlib.Omega.{arith}
use Rattle.kerning_lists.proofs.Runs.{running_start, running_next, running_limit, running_cut, running_done, contribution_little, limit-reached, limit_ahead, run_small}
use Rattle.kern.proofs.Heads.{head_plain}
use Rattle.kern.proofs.Works.{worked_little}
use Rattle.kern.proofs.run_list.Goals as goal

pub loop-heads-init : goal.loop-heads-init
loop-heads-init c = running_start _ _ _ _ _ _ _ c.requires.3

pub shape_of-along-in_default : goal.shape_of-along-in_default
shape_of-along-in_default c = c.loop-heads.invariant.long

pub returns-in_default : goal.returns-in_default
returns-in_default c = let e = running_cut _ _ _ _ _ _ c.loop-heads.invariant (sym c.head_at.ensures ∙ c.in_default.is) in
    record { answer = e.answers; heads = e.counts; along = e.leaves }

pub returns-then-heads-eq-HEADS : goal.returns-then-heads-eq-HEADS
returns-then-heads-eq-HEADS c =
    let e = running_limit _ _ _ _ _ _ c.loop-heads.invariant (omega arith) (sym c.head_at.ensures ∙ c.in-Some.is) (limit-reached c.if-heads-eq-HEADS.true) in
    record { answer = e.answers; heads = e.counts; along = e.leaves }

pub visit-requires : goal.visit-requires
visit-requires c =
    (c.requires.0, omega arith, c.requires.2, run_small c.loop-heads.invariant.within c.loop-heads.invariant.small, head_plain _ _ _ (sym c.head_at.ensures ∙ c.in-Some.is))

pub loop-heads-preserved : goal.loop-heads-preserved
loop-heads-preserved c =
    running_next _ _ _ _ _ _ c.loop-heads.invariant _ (omega arith) (sym c.head_at.ensures ∙ c.in-Some.is) (limit_ahead c.loop-heads.invariant.within c.if-heads-eq-HEADS.false) c.visit.ensures (contribution_little _ _ _ (λ s gs b along w. worked_little _ _ _ _ _ _ b along c.requires.2 w) _ _ (omega arith) c.loop-heads.invariant.small)

pub shape_of-along : goal.shape_of-along
shape_of-along c = c.loop-heads.invariant.long

pub returns : goal.returns
returns c =
    let e = running_done _ _ _ _ _ _ c.loop-heads.invariant (omega arith) in
    let all : c.args.list.count ≡ c.loop-heads.heads = omega arith in
    record { answer = e.answers; heads = all ∙ e.counts; along = e.leaves }
