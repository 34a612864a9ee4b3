use native.Mathlib.Omega.{arith}
use Rattle.rearrangement.proofs.Passes.{going_start, going_lies, going_ended, going_less, going_stays, going_moves, going_end}
use Rattle.rearrangement.proofs.pass_line.Goals as goal

pub loop-place-init : goal.loop-place-init
loop-place-init c = going_start _ _ _ _ _ _ _ c.open-opened.ensures c.nothing_found-memo.ensures c.new-state.ensures

pub steps-init : goal.steps-init
steps-init c = record { leads = λ l₀ g. g }

pub class_by-class-requires : goal.class_by-class-requires
class_by-class-requires c = let g = c.steps.invariant.leads _ c.loop-place.invariant in (going_lies _ _ _ _ g, g.remembers)

pub returns-in_default : goal.returns-in_default
returns-in_default c =
    let e = going_ended _ _ _ _ (c.steps.invariant.leads _ c.loop-place.invariant) c.loop-place-test.true c.class_by-class.ensures.class c.entry_of.ensures c.in_default.is in
    record { answer = e.answers; glyphs = e.glyphs-left; tags = e.tags-left }

pub steps-smaller : goal.steps-smaller
steps-smaller c =
    going_less _ _ _ _ (c.steps.invariant.leads _ c.loop-place.invariant) c.loop-place-test.true c.class_by-class.ensures.class c.entry_of.ensures c.in-Some.is c.act-step.ensures
    (omega arith)

pub steps-preserved : goal.steps-preserved
steps-preserved c =
    record {
      leads = λ l₀ g.
          going_stays _ _ _ _ (c.steps.invariant.leads l₀ g) c.loop-place-test.true c.class_by-class.ensures.class c.entry_of.ensures c.in-Some.is c.act-step.ensures
          (omega arith) c.class_by-class.ensures.memo c.edit.ensures.glyphs c.edit.ensures.tags c.edit.auto.glyphs c.edit.auto.tags;
    }

pub loop-place-preserved : goal.loop-place-preserved
loop-place-preserved c =
    going_moves _ _ _ _ (c.steps.invariant.leads _ c.loop-place.invariant) c.loop-place-test.true c.class_by-class.ensures.class c.entry_of.ensures c.in-Some.is c.act-step.ensures
    (omega arith) c.class_by-class.ensures.memo c.edit.ensures.glyphs c.edit.ensures.tags c.edit.auto.glyphs c.edit.auto.tags

pub returns : goal.returns
returns c =
    let e = going_end _ _ _ _ c.loop-place.invariant c.loop-place-test.false c.next-step.ensures c.edit-2.ensures.glyphs c.edit-2.ensures.tags in
    record { answer = e.answers; glyphs = e.glyphs-left; tags = e.tags-left }
