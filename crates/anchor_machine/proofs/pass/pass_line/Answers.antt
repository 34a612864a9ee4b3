use mathlib.Core.Path.{sym, ◌∙◌}
use native.Mathlib.Omega.{arith}
use Rattle.state_tables.proofs.Laws.{entry_payload}
use Rattle.anchor_machine.proofs.Passes.{still_here, moved_on, going_start, going_lies, going_ended, going_small, going_stops, going_less, going_goes, going_end}
use Rattle.anchor_machine.proofs.pass.pass_line.Goals as goal

pub loop-place-init : goal.loop-place-init
loop-place-init c =
    record {
      going = going_start _ _ _ _ _ _ _ _ _ c.open-opened.ensures c.nothing_found-memo.ensures c.new-state.ensures;
      table = c.new-points.ensures.ankr;
      reading = c.new-points.ensures.reading;
    }

pub class_by-class-requires : goal.class_by-class-requires
class_by-class-requires c =
    let g = still_here c.loop-stays.invariant.staying c.loop-place.invariant.going c.loop-stays-test.true in (going_lies _ _ _ _ _ _ _ _ _ g, g.remembers)

pub returns-in_default : goal.returns-in_default
returns-in_default c =
    let g = still_here c.loop-stays.invariant.staying c.loop-place.invariant.going c.loop-stays-test.true in
    let e = going_ended _ _ _ _ _ _ _ _ _ g c.loop-place-test.true c.class_by-class.ensures.class c.entry_of.ensures c.in_default.is in
    record { answer = e.answers; x = e.wrote.xs; y = e.wrote.ys; back = e.wrote.backs }

pub act-step-requires : goal.act-step-requires
act-step-requires c = (omega (arith, entry_payload _ _ _ _ _ c.entry_of.ensures c.in-Some.is), sym c.loop-stays.invariant.reading)

pub returns-then-not-is_done : goal.returns-then-not-is_done
returns-then-not-is_done c =
    let g = still_here c.loop-stays.invariant.staying c.loop-place.invariant.going c.loop-stays-test.true in
    let s = rw c.loop-stays.invariant.table at c.act-step.ensures.step in
    let e = going_stops _ _ _ _ _ _ _ _ _ g c.loop-place-test.true c.class_by-class.ensures.class c.entry_of.ensures c.in-Some.is s (sym c.is_done.ensures ∙ c.if-not-is_done.true) in
    record { answer = e.answers; x = e.wrote.xs; y = e.wrote.ys; back = e.wrote.backs }

pub put-requires : goal.put-requires
put-requires c =
    let g = still_here c.loop-stays.invariant.staying c.loop-place.invariant.going c.loop-stays-test.true in
    let s = rw c.loop-stays.invariant.table at c.act-step.ensures.step in
    (going_small _ _ _ _ _ _ _ _ _ g c.loop-place-test.true c.class_by-class.ensures.class c.entry_of.ensures c.in-Some.is s, omega arith, omega arith, omega arith)

pub loop-stays-smaller : goal.loop-stays-smaller
loop-stays-smaller c =
    let g = still_here c.loop-stays.invariant.staying c.loop-place.invariant.going c.loop-stays-test.true in
    let s = rw c.loop-stays.invariant.table at c.act-step.ensures.step in
    rw c.loop-stays-test.true
    (going_less _ _ _ _ _ _ _ _ _ g c.loop-place-test.true c.class_by-class.ensures.class c.entry_of.ensures c.in-Some.is s (sym c.is_done.ensures ∙ c.if-not-is_done.false))

pub loop-stays-preserved : goal.loop-stays-preserved
loop-stays-preserved c =
    let s = rw c.loop-stays.invariant.table at c.act-step.ensures.step in
    record {
      staying = record {
        leads = λ x₀ y₀ back₀ g₀. going_goes _ _ _ _ _ _ _ _ _ (still_here c.loop-stays.invariant.staying g₀ c.loop-stays-test.true) c.loop-place-test.true
            c.class_by-class.ensures.class c.entry_of.ensures c.in-Some.is s (sym c.is_done.ensures ∙ c.if-not-is_done.false) c.class_by-class.ensures.memo
            (record { xs = c.put.ensures.x; ys = c.put.ensures.y; backs = c.put.ensures.back });
      };
      table = c.act-step.ensures.table ∙ c.loop-stays.invariant.table;
      reading = c.act-step.ensures.reading ∙ c.loop-stays.invariant.reading;
    }

pub loop-place-preserved : goal.loop-place-preserved
loop-place-preserved c =
    record {
      going = moved_on c.loop-stays.invariant.staying c.loop-place.invariant.going c.loop-stays-test.false;
      table = c.loop-stays.invariant.table;
      reading = c.loop-stays.invariant.reading;
    }

pub returns : goal.returns
returns c =
    let e = going_end _ _ _ _ _ _ _ _ _ c.loop-place.invariant.going c.loop-place-test.false in
    record { answer = e.answers; x = e.wrote.xs; y = e.wrote.ys; back = e.wrote.backs }
