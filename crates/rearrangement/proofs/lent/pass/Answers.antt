use native.Mathlib.Omega.{arith}
use mathlib.Core.Path.{refl}
use mathlib.Core.List.{[]}
use Rattle.rearrangement.proofs.Passes.{going_start, going_ended, going_less, going_stays, going_moves, going_end, class_lent, lent_answers, lent_glyphs, lent_tags}
use Rattle.rearrangement.proofs.lent.pass.Goals as goal

pub loop-place-init : goal.loop-place-init
loop-place-init c = going_start [] _ _ _ _ _ _ refl refl c.new-state.ensures

pub steps-init : goal.steps-init
steps-init c = record { leads = λ l₀ g. g }

pub returns-in_default : goal.returns-in_default
returns-in_default c =
    let e = going_ended [] _ _ _ (c.steps.invariant.leads _ c.loop-place.invariant) c.loop-place-test.true (class_lent _ _ _ c.class_at-class.ensures) c.entry_of.ensures c.in_default.is in
    record { answer = lent_answers e; glyphs = lent_glyphs e; tags = lent_tags e }

pub steps-smaller : goal.steps-smaller
steps-smaller c =
    going_less [] _ _ _ (c.steps.invariant.leads _ c.loop-place.invariant) c.loop-place-test.true (class_lent _ _ _ c.class_at-class.ensures) c.entry_of.ensures c.in-Some.is c.act-step.ensures
    (omega arith)

pub steps-preserved : goal.steps-preserved
steps-preserved c =
    record {
      leads = λ l₀ g.
          let here = c.steps.invariant.leads l₀ g in
          going_stays [] _ _ _ here c.loop-place-test.true (class_lent _ _ _ c.class_at-class.ensures) c.entry_of.ensures c.in-Some.is c.act-step.ensures
          (omega arith) here.remembers c.edit.ensures.glyphs c.edit.ensures.tags c.edit.auto.glyphs c.edit.auto.tags;
    }

pub loop-place-preserved : goal.loop-place-preserved
loop-place-preserved c =
    let here = c.steps.invariant.leads _ c.loop-place.invariant in
    going_moves [] _ _ _ here c.loop-place-test.true (class_lent _ _ _ c.class_at-class.ensures) c.entry_of.ensures c.in-Some.is c.act-step.ensures
    (omega arith) here.remembers c.edit.ensures.glyphs c.edit.ensures.tags c.edit.auto.glyphs c.edit.auto.tags

pub returns : goal.returns
returns c =
    let e = going_end [] _ _ _ c.loop-place.invariant c.loop-place-test.false c.next-step.ensures c.edit-2.ensures.glyphs c.edit-2.ensures.tags in
    record { answer = lent_answers e; glyphs = lent_glyphs e; tags = lent_tags e }
