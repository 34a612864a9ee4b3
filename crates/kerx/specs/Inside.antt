-- What it is that every byte read or tried for a subtable lies inside its stated size: that on its own bytes alone no read comes out short.
use Rattle.std.specs.Prelude.{ℕ, ◌≡◌, Bool, false, cond, List, Some}
use Rattle.laws.specs.Backward.{backward}
use Rattle.kerning.specs.declared.choices.Choices.{Choices}
use Rattle.pairs.specs.Inside.{PairsInside}
use Rattle.pairs.specs.Pairs.{ordered_kerx, classes_kerx}
use Rattle.kerx_machine.specs.Inside.{MachineInside}
use Rattle.kerx_machine.specs.Machine.{is_tupled}
use Rattle.kerning_lists.specs.declared.Subtable.{Subtable}
use Rattle.kerx.specs.Heads.{head_in}

-- the glyphs that a subtable works on: the line's, turned round or not
abbrev pub worked_on : (turned : Bool) → (glyphs : List ℕ) → (used : ℕ) → List ℕ
worked_on turned glyphs used = cond turned (backward used glyphs) glyphs

-- of one that a run works on, by its format: ordered pairs, the machine, or class pairs; of others nothing more is read
pub record WorkInside (bytes : List ℕ) (version format : ℕ) (glyphs : List ℕ) (used : ℕ) (choices : Choices) : Type 0 where
  pub ordered : format ≡ 0 → PairsInside bytes (ordered_kerx bytes) glyphs used choices.pairs
  pub machine : format ≡ 1 → MachineInside bytes version glyphs used choices.reading
  pub classes : format ≡ 2 → PairsInside bytes (classes_kerx bytes choices.reading) glyphs used choices.pairs

-- its head is read; and if a run works on it, so is all that this reads or tries. A run does not work on one that is vertical, cross-stream or has
-- variations, nor, in the manual's reading, on one with tuples
pub record ReadsInside (rtl : Bool) (version : ℕ) (glyphs : List ℕ) (used : ℕ) (choices : Choices) (bytes : List ℕ) : Type 0 where
  pub subtable : Subtable
  pub head : head_in rtl version 0 bytes ≡ Some subtable
  pub work : subtable.passed_over ≡ false → is_tupled bytes version choices.reading ≡ false
      → WorkInside bytes version subtable.format (worked_on subtable.turned glyphs used) used choices
