use mathlib.Core.Path.{sym, ◌∙◌}
use native.Mathlib.Omega.{arith}
use Rattle.contextual.proofs.Classes.{own-lies, memory_start}
use Rattle.contextual.proofs.Passes.{going_start, going_out, going_stops, going_goes, own-ends}
use Rattle.contextual.proofs.ContextualState.run.Goals as goal

pub loop-place-init : goal.loop-place-init
loop-place-init c =
    going_start _ _ _ _ _ _ _ _ _ _ _ (omega arith) c.requires.1 (memory_start _ _ c.nothing_found-memo.ensures)

pub next-step-requires : goal.next-step-requires
next-step-requires c =
    (omega (arith, c.requires.0, c.loop-place.invariant.long), own-lies _ _ c.open-table.ensures, c.loop-place.invariant.memory)

pub returns-then-not-is_done : goal.returns-then-not-is_done
returns-then-not-is_done c =
    let e = own-ends _ _ _ _ _ _ _ _ _ _ c.open-table.ensures (going_stops _ _ _ _ _ _ c.loop-place.invariant (omega arith) c.next-step.ensures.step c.next-step.ensures.glyphs (sym c.is_done.ensures ∙ c.if-not-is_done.true)) in
    record { step = e.answers; glyphs = e.left }

pub loop-place-preserved : goal.loop-place-preserved
loop-place-preserved c =
    going_goes _ _ _ _ _ _ c.loop-place.invariant (omega arith) c.next-step.ensures.step c.next-step.ensures.glyphs (omega arith) (sym c.is_done.ensures ∙ c.if-not-is_done.false) c.next-step.ensures.memo c.next-step.auto.glyphs c.glyph_at-glyph.ensures

pub returns : goal.returns
returns c =
    let e = own-ends _ _ _ _ _ _ _ _ _ _ c.open-table.ensures (going_out _ _ _ _ _ _ c.loop-place.invariant (omega arith)) in
    record { step = e.answers; glyphs = e.left }
