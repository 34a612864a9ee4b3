use Rattle.firmware.proofs.Stepping.{numbered}
use Rattle.firmware.proofs.Lists.{chain_after_lem, leaves}
use Rattle.firmware.specs.Cursors.{chain_cursor, chain_fields}
use Rattle.chains.specs.Entries.{chain_answer}
use mathlib.Core.Path.{refl}
use Rattle.firmware.proofs.cursors.next_chain.Goals as goal

pub returns-in-Ok : goal.returns-in-Ok
returns-in-Ok c =
    let e = chain_after_lem _ _ _ c.cursor_from-given.ensures c.next_chain.ensures c.in-Ok.is in
    record { answer = numbered chain_answer e refl; cursor = leaves chain_cursor _ e c.put_chain.ensures.cursor; fields = leaves chain_fields _ e c.put_chain.ensures.fields }

pub returns-in-Err : goal.returns-in-Err
returns-in-Err c =
    let e = chain_after_lem _ _ _ c.cursor_from-given.ensures c.next_chain.ensures c.in-Err.is in
    record { answer = numbered chain_answer e c.from.ensures; cursor = leaves chain_cursor _ e refl; fields = leaves chain_fields _ e refl }
