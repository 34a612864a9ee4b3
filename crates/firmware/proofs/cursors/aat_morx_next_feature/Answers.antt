use Rattle.firmware.proofs.Stepping.{numbered}
use Rattle.firmware.proofs.Lists.{feature_after_lem, leaves}
use Rattle.firmware.specs.Cursors.{feature_cursor, feature_fields}
use Rattle.chains.specs.Entries.{feature_answer}
use mathlib.Core.Path.{refl}
use Rattle.firmware.proofs.cursors.aat_morx_next_feature.Goals as goal

pub returns-in-Ok : goal.returns-in-Ok
returns-in-Ok c =
    let e = feature_after_lem _ _ c.cursor_from-given.ensures c.next_feature.ensures c.in-Ok.is in
    record { answer = numbered feature_answer e refl; cursor = leaves feature_cursor _ e c.put_feature.ensures.cursor; fields = leaves feature_fields _ e c.put_feature.ensures.fields }

pub returns-in-Err : goal.returns-in-Err
returns-in-Err c =
    let e = feature_after_lem _ _ c.cursor_from-given.ensures c.next_feature.ensures c.in-Err.is in
    record { answer = numbered feature_answer e c.from.ensures; cursor = leaves feature_cursor _ e refl; fields = leaves feature_fields _ e refl }
