use Rattle.firmware.proofs.Stepping.{numbered}
use Rattle.firmware.proofs.Lists.{leaves}
use Rattle.firmware.specs.KernCursors.{reply_cursor, reply_fields}
use Rattle.kerning_lists.specs.Cursors.{reply_answer}
use Rattle.firmware.proofs.KernLists.{next-after}
use Rattle.kern.specs.Kern.{kern}
use Rattle.firmware.proofs.kern_cursors.aat_kern_next_subtable.Goals as goal

pub returns : goal.returns
returns c = let e = next-after kern _ _ c.cursor_from.ensures c.next_subtable.ensures in
    record { answer = numbered reply_answer e c.put_next.ensures.answer; cursor = leaves reply_cursor _ e c.put_next.ensures.cursor; fields = leaves reply_fields _ e c.put_next.ensures.fields }
