-- How large what a pass leaves can get.
use Prim.Native.Nat.{ℕ, ◌+◌, ◌≤◌, ◌^◌}
use mathlib.Core.List.{List}
use lib.IntN.{ℤ}
use Rattle.answers.specs.Limits.{room_limit}
use Rattle.tables.specs.declared.units.Reading.{Reading}
use Rattle.kerning.specs.Additions.{add_all}
use Rattle.kerning.specs.Bounds.{Within}
use Rattle.kerning_machine.proofs.Sound as Sound
use Rattle.kerx_machine.specs.Machine.{body_of, opened, worked}

-- a pass adds at most 2^39 in size to any adjustment, for any room up to 65,535
pub worked-within : (bytes : List ℕ) (version : ℕ) (glyphs : List ℕ) (used : ℕ) (reading : Reading) {b : ℕ} (along : List ℤ) → used ≤ room_limit → Within b along
    → Within (b + 2 ^ 39) (add_all (worked bytes version glyphs used reading).additions along)
unfolding worked
worked-within bytes version glyphs used reading along h w = Sound.worked-within (body_of bytes) (opened bytes version reading) glyphs used along h w
