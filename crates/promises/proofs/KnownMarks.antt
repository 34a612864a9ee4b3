-- The known answers hold, by computation.
use mathlib.Core.Path.{refl}
use Rattle.laws.specs.Signed.{signed16}
use Rattle.parse.specs.Reads.{inside, read_u8, read_u16, read_i16, read_u32}
use Rattle.tables.specs.Records.{format_of}
use Rattle.tables.specs.Lookup.{lookup_at, in_format, trimmed_at, element_at}
use Rattle.tables.specs.Units.{units_by, in_units, lookup_by}
use Rattle.state_tables.specs.States.{extended_by}
use Rattle.state_tables.specs.Classes.{class_by_lookup, class_in, class_of}
use Rattle.state_tables.specs.Entries.{number_in, entry_number, entry_at, resolved_in, resolved, entry_of}
use Rattle.machine.specs.Stall.{stalled}
use Rattle.anchors.specs.Anchors.{points_of, point_at, point_of}
use Rattle.anchor_machine.specs.Writes.{writes_at}
use Rattle.anchor_machine.specs.Machine.{opened, marked, numbers_at, numbers_of, offset, written_by, settled, settled_by, acted, next, pass_from, passed_by, passed, worked_by}
use Rattle.promises.specs.KnownMarks.{KnownMarks}

pub known-marks : KnownMarks
unfolding signed16 inside read_u8 read_u16 read_i16 read_u32 format_of lookup_at in_format trimmed_at element_at units_by in_units lookup_by extended_by class_by_lookup class_in class_of number_in entry_number entry_at resolved_in resolved entry_of stalled points_of point_at point_of writes_at opened marked numbers_at numbers_of offset written_by settled settled_by acted next pass_from passed_by passed worked_by
known-marks =
    record {
      anchored = refl;
      farther = refl;
      itself = refl;
      unmarked = refl;
      type_0 = refl;
      type_2 = refl;
      type_3 = refl;
      no_ankr = refl;
    }
