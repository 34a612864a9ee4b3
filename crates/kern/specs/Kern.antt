-- The kern table: what its subtables do, and the family that it is.
use Rattle.answers.specs.declared.Refusal.{Refusal}
use Rattle.tables.specs.declared.lookup.Why.{Why}
use Rattle.std.specs.Prelude.{ℕ, List, Result, Err, ℤ}
use Rattle.laws.specs.Choose.{if_eq}
use Rattle.answers.specs.declared.Answer.TheVariants as Answer'
use Rattle.answers.specs.declared.Refusal.TheVariants as Refusal'
use Rattle.kerning.specs.Additions.{Kerned, nothing_added}
use Rattle.kerning.specs.declared.choices.Choices.{Choices}
use Rattle.pairs.specs.Pairs.{ordered_kern}
use Rattle.pairs.specs.Reply.{reply_of}
use Rattle.pairs.specs.Pass as Pairs'
use Rattle.kern_machine.specs.Machine as Machine'
use Rattle.kern_machine.specs.Machine.{head_size}
use Rattle.kerning_lists.specs.Family.{Family}
use Rattle.kern.specs.Heads.{head_in, list_of}

-- the pass by the subtable that begins with these bytes, of this format: ordered pairs or the machine; others are left out.
-- Choices concern pairs alone
unfoldable pub worked : List ℕ → (version format : ℕ) → (glyphs : List ℕ) → (used : ℕ) → Choices → Kerned
worked bytes version format glyphs used choices =
    if_eq format 0 (Pairs'.worked_by bytes (ordered_kern bytes (head_size version)) glyphs used choices.pairs)
    (if_eq format 1 (Machine'.worked bytes version glyphs used) (nothing_added (Answer'.Refused Refusal'.Head)))

-- the answer for a pair of glyphs; the machine has no pairs
unfoldable pub pair_by : List ℕ → (version format left right : ℕ) → Result (Result ℤ Why) Refusal
pair_by bytes version format left right =
    if_eq format 0 (reply_of bytes (ordered_kern bytes (head_size version)) left right) (Err Refusal'.Head)

-- kern goes from left to right alone
abbrev pub kern : Family
kern = record { list_of = list_of; head_in = λ rtl. head_in; worked = worked; pair_by = pair_by }
