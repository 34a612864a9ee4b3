use mathlib.Core.Path.{sym, ◌∙◌}
use Rattle.report.proofs.Calls.{refused_leaves, is_ready_lem, passed-leaves}
use Rattle.report.proofs.report.Goals as goal

pub returns-in-Err : goal.returns-in-Err
returns-in-Err c = record { answer = (refused_leaves _ _ c.refuse_report.ensures c.in-Err.is).0; sums = (refused_leaves _ _ c.refuse_report.ensures c.in-Err.is).1.0; largest = (refused_leaves _ _ c.refuse_report.ensures c.in-Err.is).1.1.0; smallest = (refused_leaves _ _ c.refuse_report.ensures c.in-Err.is).1.1.1.0; totals = (refused_leaves _ _ c.refuse_report.ensures c.in-Err.is).1.1.1.1 }

pub write_page-requires : goal.write_page-requires
write_page-requires c =
    is_ready_lem _ _ _ _ (sym c.refuse_report.ensures ∙ c.in_default.is)

pub returns : goal.returns
returns c =
    record { answer = (passed-leaves _ _ c.refuse_report.ensures c.in_default.is (c.write_page.ensures.sums, (c.write_page.ensures.largest, (c.write_page.ensures.smallest, c.write_page.ensures.totals)))).0; sums = (passed-leaves _ _ c.refuse_report.ensures c.in_default.is (c.write_page.ensures.sums, (c.write_page.ensures.largest, (c.write_page.ensures.smallest, c.write_page.ensures.totals)))).1.0; largest = (passed-leaves _ _ c.refuse_report.ensures c.in_default.is (c.write_page.ensures.sums, (c.write_page.ensures.largest, (c.write_page.ensures.smallest, c.write_page.ensures.totals)))).1.1.0; smallest = (passed-leaves _ _ c.refuse_report.ensures c.in_default.is (c.write_page.ensures.sums, (c.write_page.ensures.largest, (c.write_page.ensures.smallest, c.write_page.ensures.totals)))).1.1.1.0; totals = (passed-leaves _ _ c.refuse_report.ensures c.in_default.is (c.write_page.ensures.sums, (c.write_page.ensures.largest, (c.write_page.ensures.smallest, c.write_page.ensures.totals)))).1.1.1.1 }
