use mathlib.Core.Path.{sym, ◌∙◌}
use native.Mathlib.Omega.{arith}
use Rattle.line.proofs.Room.{room_small}
use Rattle.insertion.proofs.Passes.{going_start, going_lies, going_ended, quiet_ends, act_fits, act_ends, act_stops, act_goes, act_less}
use Rattle.insertion.proofs.pass_line.Goals as goal
use Rattle.insertion.proofs.pass_line.Goals.{then-place-end-2-via-then-place-end-2, then-place-end-2-via-else-place-end-2+then-not-is_done}

pub loop-entry-init : goal.loop-entry-init
loop-entry-init c = going_start _ _ _ _ _ _ _ (omega arith) (omega arith) (omega arith) c.open-opened.ensures c.nothing_found-memo.ensures c.new-state.ensures

pub class_by-class-requires : goal.class_by-class-requires
class_by-class-requires c = (going_lies _ _ _ _ c.loop-entry.invariant, c.loop-entry.invariant.remembers, c.loop-entry.invariant.within, c.loop-entry.invariant.fits)

pub returns-in_default : goal.returns-in_default
returns-in_default c =
    going_ended _ _ _ _ c.loop-entry.invariant c.class_by-class.ensures.class c.entry_of.ensures c.in_default.is

pub returns-then-place-end : goal.returns-then-place-end
returns-then-place-end c =
    quiet_ends _ _ _ _ c.loop-entry.invariant c.class_by-class.ensures.class c.entry_of.ensures c.in-Some.is c.is_quiet.ensures c.if-is_quiet.true c.if-place-end.true

pub edit-longer-requires : goal.edit-longer-requires
edit-longer-requires c =
    let f = act_fits _ _ _ _ c.loop-entry.invariant c.class_by-class.ensures.class c.entry_of.ensures c.in-Some.is c.act-step.ensures in
    (f.marked-inside, f.current-inside, f.within, omega (arith, c.loop-entry.invariant.long-glyphs, c.loop-entry.invariant.long-tags, c.loop-entry.invariant.paired), omega (arith, c.loop-entry.invariant.long-glyphs, c.loop-entry.invariant.limited))

pub returns-then-place-end-2 : goal.returns-then-place-end-2
returns-then-place-end-2 c =
    elim c.then-place-end-2.branch [
      | then-place-end-2-via-then-place-end-2 w ↦
          act_ends _ _ _ _ c.loop-entry.invariant c.class_by-class.ensures.class c.entry_of.ensures c.in-Some.is c.act-step.ensures c.edit-longer.ensures w.if-place-end-2.true
      | then-place-end-2-via-else-place-end-2+then-not-is_done w ↦
          act_stops _ _ _ _ c.loop-entry.invariant c.class_by-class.ensures.class c.entry_of.ensures c.in-Some.is c.act-step.ensures c.edit-longer.ensures
          (sym w.is_done.ensures ∙ w.if-not-is_done.true)
    ]

pub overflow_add-place-in-loop-entry : goal.overflow_add-place-in-loop-entry
overflow_add-place-in-loop-entry c =
    let g = act_goes _ _ _ _ c.loop-entry.invariant c.class_by-class.ensures.class c.entry_of.ensures c.in-Some.is c.act-step.ensures
    c.edit-longer.ensures
    (sym c.is_done.ensures ∙ c.if-not-is_done.false) c.if-place-end-2.false c.class_by-class.ensures.memo c.edit-longer.auto.glyphs c.edit-longer.auto.tags in omega (arith, g.within, g.fits, g.long-glyphs, g.limited, room_small)

pub loop-entry-smaller : goal.loop-entry-smaller
loop-entry-smaller c =
    act_less _ _ _ _ c.loop-entry.invariant c.class_by-class.ensures.class c.entry_of.ensures c.in-Some.is c.act-step.ensures
    c.edit-longer.ensures
    (sym c.is_done.ensures ∙ c.if-not-is_done.false) c.if-place-end-2.false c.edit-longer.auto.glyphs

pub loop-entry-preserved : goal.loop-entry-preserved
loop-entry-preserved c =
    act_goes _ _ _ _ c.loop-entry.invariant c.class_by-class.ensures.class c.entry_of.ensures c.in-Some.is c.act-step.ensures
    c.edit-longer.ensures
    (sym c.is_done.ensures ∙ c.if-not-is_done.false) c.if-place-end-2.false c.class_by-class.ensures.memo c.edit-longer.auto.glyphs c.edit-longer.auto.tags
