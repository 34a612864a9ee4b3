-- What a caller chooses for a pass or a run, by the bits of a number.
use Rattle.std.specs.Prelude.{ℕ, cond}
use Rattle.laws.specs.Bits.{is_set}
use Rattle.tables.specs.declared.units.Reading.{Reading}
use Rattle.tables.specs.declared.units.Reading.TheVariants.{Crate, Manual}
use Rattle.kerning.specs.declared.choices.Choices.{Choices}
use Rattle.kerning.specs.declared.choices.PairRule.{PairRule}
use Rattle.kerning.specs.declared.choices.PairRule.TheVariants.{Neighbours, Joined}

-- bit 1 chooses joined pairs
unfoldable pub rule_of : (bits : ℕ) → PairRule
rule_of bits = cond (is_set bits 1) Joined Neighbours

-- bit 2 chooses the manual's reading of kerx
unfoldable pub reading_of : (bits : ℕ) → Reading
reading_of bits = cond (is_set bits 2) Manual Crate

-- bits without a name are not looked at
unfoldable pub choices_of : (bits : ℕ) → Choices
choices_of bits = record { pairs = rule_of bits; reading = reading_of bits }

-- no choice made: the neighbour rule, and the crate's reading
abbrev pub unchosen : Choices
unchosen = record { pairs = Neighbours; reading = Crate }
