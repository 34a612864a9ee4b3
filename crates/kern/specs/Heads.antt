-- kern's list and the heads of its subtables, in both editions, over the bytes from the table's own start on.
use Rattle.std.specs.Prelude.{ℕ, ◌+◌, ◌/◌, ◌%◌, false, not, List, Option, Some, None}
use Rattle.laws.specs.Lists.{either}
use Rattle.laws.specs.Choose.{if_eq}
use Rattle.parse.specs.Reads.{read_u16, read_u32}
use Rattle.parse.specs.Use.{on_u16, on_u32}
use Rattle.laws.specs.Bits.{is_set}
use Rattle.kerning_lists.specs.Walk.{u16_or_zero, u32_or_zero}
use Rattle.kerning_lists.specs.declared.Subtable.{Subtable}
use Rattle.kerning_lists.specs.declared.ListHead.{ListHead}

-- old edition: a run passes over what is not horizontal (bit 0 clear) and what is cross-stream (bit 2); the high byte is the format
unfoldable pub old_subtable : (at size coverage : ℕ) → Subtable
old_subtable at size coverage =
    record {
      passed_over = either (not (is_set coverage 1)) (is_set coverage 4);
      turned = false;
      format = coverage / 256;
      body = at;
      next = at + size;
    }

-- new edition: what is vertical (0x8000) and what is cross-stream (0x4000); the low byte is the format
unfoldable pub new_subtable : (at size coverage : ℕ) → Subtable
new_subtable at size coverage =
    record {
      passed_over = either (is_set coverage 0x8000) (is_set coverage 0x4000);
      turned = false;
      format = coverage % 256;
      body = at;
      next = at + size;
    }

-- the head at a place, by the bytes from there on: its size is at 2 or at 0, its coverage at 4; the new edition's tuple index isn't looked at
unfoldable pub head_in : (version at : ℕ) → (part : List ℕ) → Option Subtable
head_in version at part =
    if_eq version 0
    (on_u16 (read_u16 part 2) (λ size. on_u16 (read_u16 part 4) (λ coverage. Some (old_subtable at size coverage)) None) None)
    (on_u32 (read_u32 part 0) (λ size. on_u16 (read_u16 part 4) (λ coverage. Some (new_subtable at size coverage)) None) None)

-- the list: its version; in the old edition a 16-bit count at 2 and the first subtable at 4, in the new one a 32-bit count at 4 and the first at 8
unfoldable pub list_of : List ℕ → ListHead
list_of bytes =
    if_eq (u16_or_zero bytes 0) 0
    (record { version = 0; count = u16_or_zero bytes 2; first = 4 })
    (record { version = u16_or_zero bytes 0; count = u32_or_zero bytes 4; first = 8 })
