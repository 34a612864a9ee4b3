-- kern format 1: the head of its subtable, and its pass and step.
use Rattle.state_tables.specs.declared.States.{States}
use Rattle.std.specs.Prelude.{ℕ, ◌/◌, ◌%◌, Bool, List, ℤ, length, drop, Option, Some, None, Result, Ok, Err}
use Rattle.laws.specs.Choose.{if_eq}
use Rattle.parse.specs.Reads.{read_u16}
use Rattle.parse.specs.Use.{on_u16}
use Rattle.state_tables.specs.States.{classic_at}
use Rattle.laws.specs.Bits.{is_set}
use Rattle.kerning.specs.Additions.{Kerned}
use Rattle.kerning.specs.declared.heads.Unready.{Unready}
use Rattle.kerning.specs.declared.heads.Unready.TheVariants.{Short}
use Rattle.kerning_machine.specs.Machine as Kerning'
use Rattle.kerning_machine.specs.Machine.{Stepped}
use Rattle.kerning_machine.specs.declared.Reading.TheVariants.{Kern}
use Rattle.kerning_machine.specs.declared.Kerning.{Kerning}
use Rattle.kerning_machine.specs.declared.KerningState.{KerningState}

-- version 0 of the list is the old edition, with a 6-byte head, anything else the new one, with 8 bytes
abbrev pub head_size : (version : ℕ) → ℕ
head_size version = if_eq version 0 6 8

-- coverage, 16 bits at 4, has the format in its high byte, or in its low one
unfoldable pub coverage_format : (version coverage : ℕ) → ℕ
coverage_format version coverage = if_eq version 0 (coverage / 256) (coverage % 256)

-- and says whether the subtable goes across the stream
unfoldable pub is_crossed : (version coverage : ℕ) → Bool
is_crossed version coverage = if_eq version 0 (is_set coverage 0x4) (is_set coverage 0x4000)

-- what stands behind the head: the state table
abbrev pub body_of : List ℕ → (version : ℕ) → List ℕ
body_of bytes version = drop (head_size version) bytes

abbrev pub on_made : Option States → (version coverage : ℕ) → Result Kerning Unready
on_made (Some states) version coverage = Ok (record { states = states; reading = Kern (is_crossed version coverage) })
on_made None version coverage = Err Short

-- the machine of a subtable of format 1, where its head and the state table's own can be read
unfoldable pub opened : List ℕ → (version : ℕ) → Result Kerning Unready
opened bytes version =
    on_u16 (read_u16 bytes 4) (λ coverage. if_eq (coverage_format version coverage) 1 (on_made (classic_at (body_of bytes version)) version coverage) (Err Short)) (Err Short)

-- the pass by the subtable whose bytes begin at its head
unfoldable pub worked : List ℕ → (version : ℕ) → (glyphs : List ℕ) → (used : ℕ) → Kerned
worked bytes version glyphs used = Kerning'.worked_by (body_of bytes version) (opened bytes version) glyphs used

-- a lone step by the subtable at `start`
unfoldable pub step_call : List ℕ → (start version : ℕ) → KerningState → (used index glyph : ℕ) → List ℤ → Stepped
step_call table start version s used index glyph along =
    Kerning'.step_call (length table) (body_of (drop start table) version) (opened (drop start table) version) s used index glyph along
