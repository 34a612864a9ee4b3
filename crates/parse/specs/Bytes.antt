-- For the code alone; no entry and no promise rests on it, and nobody has to believe it. The bytes that a reader reads: the table's, from its
-- start on.
use Rattle.std.specs.Prelude.{ℕ, List, drop}
use Rattle.parse.specs.declared.bytes.Bytes.{Bytes}

abbrev pub bytes_of : Bytes → List ℕ
bytes_of reader = drop reader.start reader.table.now
