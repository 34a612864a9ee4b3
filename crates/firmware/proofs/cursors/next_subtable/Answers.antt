use Rattle.firmware.proofs.Stepping.{numbered}
use Rattle.firmware.proofs.Lists.{subtable-after, leaves}
use Rattle.firmware.specs.Cursors.{subtable_cursor, subtable_fields}
use Rattle.chains.specs.Entries.{subtable_answer}
use mathlib.Core.Path.{refl}
use Rattle.firmware.proofs.cursors.next_subtable.Goals as goal

pub returns-in-Ok : goal.returns-in-Ok
returns-in-Ok c =
    let e = subtable-after _ _ _ c.cursor_from-given.ensures c.next_subtable.ensures c.in-Ok.is in
    record { answer = numbered subtable_answer e refl; cursor = leaves subtable_cursor _ e c.put_subtable.ensures.cursor; fields = leaves subtable_fields _ e c.put_subtable.ensures.fields }

pub returns-in-Err : goal.returns-in-Err
returns-in-Err c =
    let e = subtable-after _ _ _ c.cursor_from-given.ensures c.next_subtable.ensures c.in-Err.is in
    record { answer = numbered subtable_answer e c.from.ensures; cursor = leaves subtable_cursor _ e refl; fields = leaves subtable_fields _ e refl }
