-- The known records, by computation.
use mathlib.Core.Path.{◌≡◌, refl}
use Rattle.stored.specs.Record.{longest1, version_of, joined, record_of}
use Rattle.stored.specs.Known.{shaped, shaped_record, empty, empty_record}

pub known_records : (record_of shaped ≡ shaped_record) × (record_of empty ≡ empty_record)
unfolding record_of version_of longest1 joined
known_records = (refl, refl)
