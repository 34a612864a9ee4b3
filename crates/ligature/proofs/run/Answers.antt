use mathlib.Core.Path.{sym, ◌∙◌}
use Rattle.ligature.proofs.Runs.{going_start, going_over, going_last, going_more}
use Rattle.ligature.proofs.run.Goals as goal

pub loop-place-init : goal.loop-place-init
loop-place-init c = going_start _ _ _ _ _ _ _ _ _ _ c.open-opened.ensures c.nothing_found-memo.ensures c.requires.0 c.requires.1

pub loop-place-preserved : goal.loop-place-preserved
loop-place-preserved c =
    going_more _ _ _ _ _ _ c.loop-place.invariant c.loop-place-test.true c.class_by-class.ensures.class c.next-reached.ensures.leaves
    (sym c.is_done.ensures ∙ c.if-not-is_done.false) c.next-reached.ensures.depth c.class_by-class.ensures.memo c.next-reached.auto.glyphs c.next-reached.auto.homes
    c.glyph_at-glyph.ensures

pub returns-after-loop-place : goal.returns-after-loop-place
returns-after-loop-place c = going_over _ _ _ _ _ _ c.loop-place.invariant c.loop-place-test.false

pub returns-then-not-is_done : goal.returns-then-not-is_done
returns-then-not-is_done c =
    going_last _ _ _ _ _ _ c.loop-place.invariant c.loop-place-test.true c.class_by-class.ensures.class c.next-reached.ensures.leaves
    (sym c.is_done.ensures ∙ c.if-not-is_done.true)
