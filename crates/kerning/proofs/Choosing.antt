-- What the bits choose: none of them nothing, and those without a name neither.
use Prim.Native.Nat.{ℕ, ◌/◌, ◌%◌}
use mathlib.Core.Path.{◌≡◌, refl, ap₂}
use mathlib.Core.Bool.{false, cond}
use native.Mathlib.Omega.{arith}
use lib.Dec.{eqb}
use Rattle.laws.specs.Bits.{is_set}
use Rattle.tables.specs.declared.units.Reading.TheVariants.{Crate, Manual}
use Rattle.kerning.specs.Choices.{rule_of, reading_of, choices_of, unchosen}
use Rattle.kerning.specs.declared.choices.Choices.{Choices}
use Rattle.kerning.specs.declared.choices.PairRule.TheVariants.{Neighbours, Joined}

pub none_chosen : choices_of 0 ≡ unchosen
unfolding choices_of rule_of reading_of
none_chosen = refl

abbrev chosen_by : (first second : ℕ) → Choices
chosen_by first second = record { pairs = cond (eqb first 1) Joined Neighbours; reading = cond (eqb second 1) Manual Crate }

pub unnamed_bits : (bits : ℕ) → choices_of bits ≡ choices_of (bits % 4)
unfolding choices_of rule_of reading_of
unnamed_bits bits =
    let first : bits / 1 % 2 ≡ bits % 4 / 1 % 2 = omega arith in
    let second : bits / 2 % 2 ≡ bits % 4 / 2 % 2 = omega arith in
    ap₂ chosen_by first second

-- without its bit the manual's reading is not chosen
pub crate_chosen : (bits : ℕ) → is_set bits 2 ≡ false → choices_of bits ≡ record { pairs = rule_of bits; reading = Crate }
unfolding choices_of reading_of
crate_chosen bits e = rw e
