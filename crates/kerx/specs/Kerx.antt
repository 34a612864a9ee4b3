-- The kerx table: what its subtables do, and the family that it is.
use Rattle.answers.specs.declared.Refusal.{Refusal}
use Rattle.tables.specs.declared.lookup.Why.{Why}
use Rattle.std.specs.Prelude.{ℕ, Bool, List, Result, Err, ℤ}
use Rattle.laws.specs.Choose.{if_eq}
use Rattle.answers.specs.declared.Answer.TheVariants as Answer'
use Rattle.answers.specs.declared.Refusal.TheVariants as Refusal'
use Rattle.tables.specs.declared.units.Reading.TheVariants.{Crate}
use Rattle.kerning.specs.Additions.{Kerned, nothing_added}
use Rattle.kerning.specs.declared.choices.Choices.{Choices}
use Rattle.kerning.specs.Heads.{barred}
use Rattle.pairs.specs.Pairs.{ordered_kerx, classes_kerx}
use Rattle.pairs.specs.Reply.{reply_of}
use Rattle.pairs.specs.Pass as Pairs'
use Rattle.kerx_machine.specs.Machine as Machine'
use Rattle.kerx_machine.specs.Machine.{is_tupled}
use Rattle.kerning_lists.specs.Family.{Family}
use Rattle.kerx.specs.Heads.{head_in, list_of}

-- the pass by the subtable that begins with these bytes, of this format: ordered pairs, the machine, or class pairs; others are left out.
-- The rule concerns pairs alone, the reading lists, lookups and tuples: a subtable with tuples is refused in the manual's reading, behind HEAD, and a run makes
-- nothing of it
unfoldable pub worked : List ℕ → (version format : ℕ) → (glyphs : List ℕ) → (used : ℕ) → Choices → Kerned
worked bytes version format glyphs used choices =
    let tupled : Bool = is_tupled bytes version choices.reading in
    if_eq format 0 (Pairs'.worked_by bytes (barred tupled (ordered_kerx bytes)) glyphs used choices.pairs)
    (if_eq format 1 (Machine'.worked bytes version glyphs used choices.reading)
    (if_eq format 2 (Pairs'.worked_by bytes (barred tupled (classes_kerx bytes choices.reading)) glyphs used choices.pairs)
    (nothing_added (Answer'.Refused Refusal'.Head))))

-- the answer for a pair of glyphs, which has the crate's reading; the machine has no pairs
unfoldable pub pair_by : List ℕ → (version format left right : ℕ) → Result (Result ℤ Why) Refusal
pair_by bytes version format left right =
    if_eq format 0 (reply_of bytes (ordered_kerx bytes) left right)
    (if_eq format 2 (reply_of bytes (classes_kerx bytes Crate) left right) (Err Refusal'.Head))

abbrev pub kerx : Family
kerx = record { list_of = list_of; head_in = head_in; worked = worked; pair_by = pair_by }
