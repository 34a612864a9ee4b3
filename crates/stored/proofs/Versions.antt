-- What a box that knows version 1 alone makes of the records of both versions.
use Rattle.std.specs.Prelude.{Err}
use Prim.Native.Nat.{ℕ}
use mathlib.Core.Path.{◌≡◌, ◌∙◌}
use mathlib.Core.Bool.{true}
use mathlib.Core.List.{List}
use native.Mathlib.Omega.{arith}
use lib.ListN.{length}
use borrow.Author.Tests.{le-ltb, le-leb}
use Rattle.answers.proofs.Refusals.{refuse-here, refuse-later}
use Rattle.answers.specs.Refuse.{refuse, table_test}
use Rattle.answers.specs.declared.Refusal.TheVariants as Refusal
use Rattle.stored.specs.Reading.{version_in, Accepted, is_known, is_other}
use Rattle.stored.specs.Entries.{newest_version, record_tests, read_tests, read_by, read_call}
use Rattle.stored.proofs.Calls.{record_whole}
use Rattle.stored.proofs.Exact.{of_marked, accepted_record, accepted_short}

-- every record of version 2 is VERSION to it, and all that was lent stays
pub older_refuses : (bytes glyphs tags homes : List ℕ) → Accepted newest_version bytes → version_in bytes ≡ 2
    → read_call 1 bytes glyphs tags homes ≡ record { reply = Err Refusal.Version; glyphs = glyphs; tags = tags; homes = homes }
unfolding read_call read_by read_tests record_tests table_test is_other is_known
older_refuses bytes glyphs tags homes a v =
    let w = record_whole bytes (accepted_record newest_version bytes a) in
    let other : is_other 1 bytes ≡ true = rw (le-leb 5 (length bytes) (omega arith), of_marked bytes a.marked, v) in
    let e : refuse (read_tests 1 bytes glyphs tags homes) ≡ Err Refusal.Version =
    refuse-later _ _ (le-ltb _ _ (accepted_short newest_version bytes a)) ∙ refuse-here _ _ other in
    rw e

-- bytes of version 1 it reads as the newest box does, whatever they are
pub older_alike : (bytes glyphs tags homes : List ℕ) → version_in bytes ≡ 1 → read_call 1 bytes glyphs tags homes ≡ read_call newest_version bytes glyphs tags homes
unfolding read_call read_tests record_tests is_other is_known newest_version
older_alike bytes glyphs tags homes v = rw v
