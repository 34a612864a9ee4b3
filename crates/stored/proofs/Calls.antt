-- The entries: their tests, one after the other, and what a call leaves.
use Rattle.std.specs.Prelude.{Ok}
use Prim.Native.Nat.{ℕ, ◌+◌, ◌*◌, ◌≤◌}
use mathlib.Core.Path.{◌≡◌, ◌∙◌}
use mathlib.Core.Bool.{true, false}
use mathlib.Core.List.{List, [], ◌∷◌}
use native.Mathlib.Omega.{arith}
use lib.Dec.{eqb}
use lib.ListN.{length}
use borrow.Author.Tests.{ltb-false, eqb-true, not-false}
use Rattle.answers.proofs.Refusals.{refuse-later, refuse-none, passed_here, passed_later}
use Rattle.answers.specs.Limits.{room_limit}
use Rattle.answers.specs.Refuse.{refuse, table_test}
use Rattle.laws.proofs.Lists.{both_left}
use Rattle.line.specs.Line.{Valid, line_of}
use Rattle.line.specs.Test.{is_valid}
use Rattle.line.proofs.Exact.{valid_of}
use Rattle.line.proofs.Refusals.{passed-line}
use Rattle.stored.specs.Record.{record_of, size_of}
use Rattle.stored.specs.Reading.{length_in, characters_in, is_other, is_record}
use Rattle.stored.specs.Entries.{store_tests, room_tests, record_tests, read_tests}
use Rattle.stored.proofs.Written.{record_size}

-- storing: a valid line is small, and what has passed the tests has room for the record
module _ (glyphs tags homes : List ℕ) (used : ℕ) where
  pub store_rooms : is_valid (line_of glyphs tags homes used) ≡ true → (used ≤ room_limit) × (length homes ≤ room_limit)
  store_rooms e =
      let v : Valid (line_of glyphs tags homes used) = valid_of (line_of glyphs tags homes used) e in
      omega (arith, v.within, v.limited, v.legal.enough)

  pub store_fits : (buffer : List ℕ) → refuse (store_tests (line_of glyphs tags homes used) buffer) ≡ Ok tt
      → (size_of used (length homes) ≤ length buffer)
      × (used ≤ length glyphs)
      × (used ≤ length tags)
      × (used ≤ room_limit)
      × (length homes ≤ room_limit)
  unfolding store_tests
  store_fits buffer p =
      let v : Valid (line_of glyphs tags homes used) = passed-line (line_of glyphs tags homes used) _ p in
      let room : length (record_of (line_of glyphs tags homes used)) ≤ length buffer = ltb-false _ _ (passed_here _ _ (passed_later _ _ p)) in
      omega (arith, room, record_size glyphs tags homes used, v.within, v.paired, v.limited, v.legal.enough)

-- a record has all its bytes
pub record_whole : (bytes : List ℕ) → is_record bytes ≡ true → length bytes ≡ 9 + length_in bytes * 4 + characters_in bytes * 2
unfolding is_record size_of
record_whole bytes e = eqb-true _ _ (both_left (eqb (length bytes) (9 + length_in bytes * 4 + characters_in bytes * 2)) _ e)

pub head_there : (bytes : List ℕ) → is_record bytes ≡ true → 9 ≤ length bytes
head_there bytes e = omega (arith, record_whole bytes e)

-- what has passed the tests: a record, and room for its line
module _ (newest : ℕ) (bytes glyphs tags homes : List ℕ) (p : refuse (read_tests newest bytes glyphs tags homes) ≡ (Ok tt)) where
  pub passed-table : refuse (table_test (length bytes) ∷ []) ≡ Ok tt
  unfolding read_tests record_tests
  passed-table = refuse-later _ _ (passed_here _ _ p) ∙ refuse-none

  pub passed-known : is_other newest bytes ≡ false
  unfolding read_tests record_tests
  passed-known = passed_here _ _ (passed_later _ _ p)

  pub passed_record : is_record bytes ≡ true
  unfolding read_tests record_tests
  passed_record = not-false _ (passed_here _ _ (passed_later _ _ (passed_later _ _ p)))

  room : refuse (room_tests bytes glyphs tags homes) ≡ Ok tt
  unfolding read_tests record_tests
  room = passed_later _ _ (passed_later _ _ (passed_later _ _ p))

  pub passed-paired : length tags ≡ length glyphs
  unfolding room_tests
  passed-paired = eqb-true _ _ (not-false _ (passed_here _ _ room))

  pub passed-limited : length glyphs ≤ room_limit
  unfolding room_tests
  passed-limited = ltb-false _ _ (passed_here _ _ (passed_later _ _ room))

  pub passed-within : length_in bytes ≤ length glyphs
  unfolding room_tests
  passed-within = ltb-false _ _ (passed_here _ _ (passed_later _ _ (passed_later _ _ room)))

  pub passed-homes : characters_in bytes ≤ length homes
  unfolding room_tests
  passed-homes = ltb-false _ _ (passed_here _ _ (passed_later _ _ (passed_later _ _ (passed_later _ _ room))))

  pub read_fits : (9 ≤ length bytes)
      × (9 + length_in bytes * 4 + characters_in bytes * 2 ≤ length bytes)
      × (length_in bytes ≤ length glyphs)
      × (length_in bytes ≤ length tags)
      × (characters_in bytes ≤ length homes)
  read_fits = omega (arith, record_whole bytes passed_record, passed-paired, passed-within, passed-homes)
