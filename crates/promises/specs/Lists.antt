-- The lists of numbers of kern and kerx: three instances of the one statement about walks, each by where number k lies and what its end rule makes of a number.
use Rattle.std.specs.Prelude.{ℕ, ◌+◌, ◌*◌, ◌%◌, ◌<◌, ◌^◌, ◌≡◌, Bool, false, List, [], drop, Some}
use Rattle.parse.specs.Reads.{u32_at, read_u16}
use Rattle.kerning.specs.Lists.{leaves, ruled}
use Rattle.kerning.specs.Walks.{Walks}
use Rattle.kerning.specs.declared.lists.Rule.TheVariants.{Odd, Never, Marked}
use Rattle.kerning_machine.specs.Machine.{tuple_size, kern_start, kerx_start, manual_start, walked_from}
use Rattle.kerning_machine.specs.declared.Reading.TheVariants.{Kern, Kerx, Manual}

-- none of the two lookups of a subtable of format 2 is of format 10
abbrev pub NoneOfTen : List ℕ → Type 0
NoneOfTen bytes = (read_u16 (drop (u32_at bytes 16) bytes) 0 ≡ Some 10 → ⊥) × (read_u16 (drop (u32_at bytes 20) bytes) 0 ≡ Some 10 → ⊥)

-- kern: the list begins where the flags but the highest two say, 0 is none; the numbers are two bytes apart; an odd one is the last
pub record KernList (bytes : List ℕ) (crossed : Bool) (flags : ℕ) (stack : List ℕ) (depth used : ℕ) : Type 0 where
  pub none : flags % 0x4000 ≡ 0 → walked_from bytes (Kern crossed) (kern_start flags) stack depth used ≡ leaves false depth []
  pub there : 0 < flags % 0x4000
      → Walks bytes (λ k. flags % 0x4000 + k * 2) (ruled (Odd crossed)) stack depth used (walked_from bytes (Kern crossed) (kern_start flags) stack depth used)

-- kerx in the crate's reading: value table and index count tuples, and no number is the last. A place that no 64-bit number tells ends the step
pub record KerxList (bytes : List ℕ) (values tuples index : ℕ) (stack : List ℕ) (depth used : ℕ) : Type 0 where
  pub none : index ≡ 0xFFFF → walked_from bytes (Kerx values tuples) (kerx_start values tuples index) stack depth used ≡ leaves false depth []
  pub there : (index ≡ 0xFFFF → ⊥) → (values + index) * tuple_size tuples < 2 ^ 64
      → Walks bytes (λ k. (values + index) * tuple_size tuples + k * tuple_size tuples) (ruled Never) stack depth used
      (walked_from bytes (Kerx values tuples) (kerx_start values tuples index) stack depth used)

-- kerx in the manual's reading: number k lies at the value table's place plus twice the index plus 2k, and 0xFFFF stops the list
pub record ManualList (bytes : List ℕ) (values index : ℕ) (stack : List ℕ) (depth used : ℕ) : Type 0 where
  pub none : index ≡ 0xFFFF → walked_from bytes (Manual values) (manual_start values index) stack depth used ≡ leaves false depth []
  pub there : (index ≡ 0xFFFF → ⊥)
      → Walks bytes (λ k. values + index * 2 + k * 2) (ruled Marked) stack depth used (walked_from bytes (Manual values) (manual_start values index) stack depth used)
