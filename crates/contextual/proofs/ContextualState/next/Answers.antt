use native.Mathlib.Omega.{arith}
use Rattle.state_tables.proofs.Laws.{entry_payload}
use Rattle.contextual.proofs.Runs.{running_start, running_out, running_ended, running_stops, running_goes, next-idle, next-over}
use mathlib.Core.Path.{ap}
use mathlib.Core.Bool.{not}
use Rattle.contextual.proofs.ContextualState.next.Goals as goal

pub returns-then-idle : goal.returns-then-idle
returns-then-idle c =
    let e = next-idle _ _ _ _ _ _ _ c.idle.ensures _ _ c.if-idle.true in
    record { step = e.answers; memo = c.requires.2; glyphs = e.left }

pub loop-entry-init : goal.loop-entry-init
loop-entry-init c =
    running_start _ _ _ _ _ _ _ _ _ _ _ c.requires.2

pub class_by-class-requires : goal.class_by-class-requires
class_by-class-requires c =
    (c.requires.1, c.loop-entry.invariant.memory)

pub returns-in_default : goal.returns-in_default
returns-in_default c =
    let e = next-over _ _ _ _ _ _ _ c.idle.ensures c.if-idle.false c.begun-state.ensures (running_ended _ _ _ _ _ _ _ c.loop-entry.invariant (omega arith) c.class_by-class.ensures.class c.entry_of.ensures c.in_default.is) in
    record { step = e.answers; memo = c.class_by-class.ensures.memo; glyphs = e.left }

pub act-acted-requires : goal.act-acted-requires
act-acted-requires c = entry_payload _ _ _ _ _ c.entry_of.ensures c.in-Some.is

pub returns-then-not-is_set : goal.returns-then-not-is_set
returns-then-not-is_set c =
    let e = next-over _ _ _ _ _ _ _ c.idle.ensures c.if-idle.false c.begun-state.ensures (running_stops _ _ _ _ _ _ _ c.loop-entry.invariant (omega arith) c.class_by-class.ensures.class c.entry_of.ensures c.in-Some.is c.act-acted.ensures c.replace.ensures c.replace-in-loop-entry.ensures c.is_set.ensures (ap not c.if-not-is_set.true)) in
    record { step = e.answers; memo = c.class_by-class.ensures.memo; glyphs = e.left }

pub loop-entry-preserved : goal.loop-entry-preserved
loop-entry-preserved c =
    running_goes _ _ _ _ _ _ _ c.loop-entry.invariant (omega arith) c.class_by-class.ensures.class c.entry_of.ensures c.in-Some.is c.act-acted.ensures c.replace.ensures c.replace-in-loop-entry.ensures c.is_set.ensures
    (omega arith) (ap not c.if-not-is_set.false) c.class_by-class.ensures.memo c.replace.auto.glyphs c.replace-in-loop-entry.auto.glyphs

pub returns : goal.returns
returns c =
    let e = next-over _ _ _ _ _ _ _ c.idle.ensures c.if-idle.false c.begun-state.ensures (running_out _ _ _ _ _ _ _ c.loop-entry.invariant (omega arith)) in
    record { step = e.answers; memo = c.loop-entry.invariant.memory; glyphs = e.left }
