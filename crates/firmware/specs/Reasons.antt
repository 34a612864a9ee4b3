-- Why nothing was found, as numbers: 1 not covered, 2 cut short, 3 unknown format. With any other answer the number lent for it stays as it was.
use Rattle.answers.specs.declared.Refusal.{Refusal}
use Rattle.std.specs.Prelude.{ℕ, Result, Ok, Err, ℤ}
use Rattle.tables.specs.declared.lookup.Why.{Why}
use Rattle.tables.specs.declared.lookup.Why.TheVariants.{NotCovered, CutShort, UnknownFormat}

abbrev pub why_number : Why → ℕ
why_number NotCovered = 1
why_number CutShort = 2
why_number UnknownFormat = 3

abbrev pub why_of : {T : Type 0} → Result (Result T Why) Refusal → ℕ → ℕ
why_of (Ok (Ok found)) was = was
why_of (Ok (Err why)) was = why_number why
why_of (Err refusal) was = was

abbrev pub lookup_why : Result (Result ℕ Why) Refusal → ℕ → ℕ
lookup_why = why_of

abbrev pub pair_why : Result (Result ℤ Why) Refusal → ℕ → ℕ
pair_why = why_of
