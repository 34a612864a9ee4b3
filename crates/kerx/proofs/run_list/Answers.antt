use mathlib.Core.Path.{◌≡◌, sym, ◌∙◌, ap}
use native.Mathlib.Omega.{arith}
use lib.ListN.{length}
use Rattle.kerning_lists.proofs.Runs.{running_limit, running_cut, running_done, limit-reached, limit_ahead}
use Rattle.anchor_machine.proofs.Writing.{wrote_long}
use Rattle.kerx.proofs.Marking.{on-start, on-next, on_ready, marking-limit, marking-cut, marking-done}
use Rattle.kerx.proofs.run_list.Goals as goal

pub loop-heads-init : goal.loop-heads-init
loop-heads-init c =
    on-start _ _ _ _ _ _ _ _ _ _ _ _ c.requires.4

pub shape_of-glyphs-in_default : goal.shape_of-glyphs-in_default
shape_of-glyphs-in_default c =
    ap length c.loop-heads.invariant.plain.same_glyphs

pub shape_of-tags-in_default : goal.shape_of-tags-in_default
shape_of-tags-in_default c =
    ap length c.loop-heads.invariant.plain.same_tags

pub shape_of-along-in_default : goal.shape_of-along-in_default
shape_of-along-in_default c =
    c.loop-heads.invariant.plain.running.long

pub shape_of-x-in_default : goal.shape_of-x-in_default
shape_of-x-in_default c =
    (wrote_long c.loop-heads.invariant.beside.wrote).0

pub shape_of-y-in_default : goal.shape_of-y-in_default
shape_of-y-in_default c =
    (wrote_long c.loop-heads.invariant.beside.wrote).1

pub shape_of-back-in_default : goal.shape_of-back-in_default
shape_of-back-in_default c =
    (wrote_long c.loop-heads.invariant.beside.wrote).2

pub returns-in_default : goal.returns-in_default
returns-in_default c =
    let cut = sym c.head_at.ensures ∙ c.in_default.is in
    let e = running_cut _ _ _ _ _ _ c.loop-heads.invariant.plain.running cut in
    let w = marking-cut _ _ _ _ _ _ _ _ _ _ c.loop-heads.invariant.beside cut in
    record { answer = e.answers; heads = e.counts; glyphs = c.loop-heads.invariant.plain.same_glyphs; tags = c.loop-heads.invariant.plain.same_tags; along = e.leaves; x = w.xs; y = w.ys; back = w.backs }

pub shape_of-glyphs-then-heads-eq-HEADS : goal.shape_of-glyphs-then-heads-eq-HEADS
shape_of-glyphs-then-heads-eq-HEADS c =
    ap length c.loop-heads.invariant.plain.same_glyphs

pub shape_of-tags-then-heads-eq-HEADS : goal.shape_of-tags-then-heads-eq-HEADS
shape_of-tags-then-heads-eq-HEADS c =
    ap length c.loop-heads.invariant.plain.same_tags

pub shape_of-along-then-heads-eq-HEADS : goal.shape_of-along-then-heads-eq-HEADS
shape_of-along-then-heads-eq-HEADS c =
    c.loop-heads.invariant.plain.running.long

pub shape_of-x-then-heads-eq-HEADS : goal.shape_of-x-then-heads-eq-HEADS
shape_of-x-then-heads-eq-HEADS c =
    (wrote_long c.loop-heads.invariant.beside.wrote).0

pub shape_of-y-then-heads-eq-HEADS : goal.shape_of-y-then-heads-eq-HEADS
shape_of-y-then-heads-eq-HEADS c =
    (wrote_long c.loop-heads.invariant.beside.wrote).1

pub shape_of-back-then-heads-eq-HEADS : goal.shape_of-back-then-heads-eq-HEADS
shape_of-back-then-heads-eq-HEADS c =
    (wrote_long c.loop-heads.invariant.beside.wrote).2

pub returns-then-heads-eq-HEADS : goal.returns-then-heads-eq-HEADS
returns-then-heads-eq-HEADS c =
    let full = limit-reached c.if-heads-eq-HEADS.true in
    let e = running_limit _ _ _ _ _ _ c.loop-heads.invariant.plain.running (omega arith) (sym c.head_at.ensures ∙ c.in-Some.is) full in
    let w = marking-limit _ _ _ _ _ _ _ _ _ _ c.loop-heads.invariant.beside full in
    record { answer = e.answers; heads = e.counts; glyphs = c.loop-heads.invariant.plain.same_glyphs; tags = c.loop-heads.invariant.plain.same_tags; along = e.leaves; x = w.xs; y = w.ys; back = w.backs }

pub visit-requires : goal.visit-requires
visit-requires c =
    on_ready _ _ _ _ _ _ _ _ _ _ _ _ c.loop-heads.invariant c.requires.0 c.requires.1 c.requires.2 c.requires.3 c.requires.5

pub loop-heads-preserved : goal.loop-heads-preserved
loop-heads-preserved c =
    on-next _ _ _ _ _ _ _ _ _ _ _ _ _ c.loop-heads.invariant c.requires.3 c.requires.2 (omega arith) (sym c.head_at.ensures ∙ c.in-Some.is) (limit_ahead c.loop-heads.invariant.plain.running.within c.if-heads-eq-HEADS.false) c.visit.ensures.glyphs c.visit.ensures.tags c.visit.ensures.along (record { xs = c.visit.ensures.x; ys = c.visit.ensures.y; backs = c.visit.ensures.back })

pub shape_of-glyphs : goal.shape_of-glyphs
shape_of-glyphs c =
    ap length c.loop-heads.invariant.plain.same_glyphs

pub shape_of-tags : goal.shape_of-tags
shape_of-tags c =
    ap length c.loop-heads.invariant.plain.same_tags

pub shape_of-along : goal.shape_of-along
shape_of-along c =
    c.loop-heads.invariant.plain.running.long

pub shape_of-x : goal.shape_of-x
shape_of-x c =
    (wrote_long c.loop-heads.invariant.beside.wrote).0

pub shape_of-y : goal.shape_of-y
shape_of-y c =
    (wrote_long c.loop-heads.invariant.beside.wrote).1

pub shape_of-back : goal.shape_of-back
shape_of-back c =
    (wrote_long c.loop-heads.invariant.beside.wrote).2

pub returns : goal.returns
returns c =
    let e = running_done _ _ _ _ _ _ c.loop-heads.invariant.plain.running (omega arith) in
    let w = marking-done _ _ _ _ _ _ _ _ _ _ c.loop-heads.invariant.beside (omega arith) in
    let all : c.args.list.count ≡ c.loop-heads.heads = omega arith in
    record { answer = e.answers; heads = all ∙ e.counts; glyphs = c.loop-heads.invariant.plain.same_glyphs; tags = c.loop-heads.invariant.plain.same_tags; along = e.leaves; x = w.xs; y = w.ys; back = w.backs }
