-- kerx's list and the heads of its subtables, over the bytes from the table's own start on.
use Rattle.std.specs.Prelude.{ℕ, ◌+◌, ◌%◌, Bool, not, cond, List, Option, Some, None}
use Rattle.laws.specs.Lists.{either}
use Rattle.laws.specs.Choose.{if_lt}
use Rattle.parse.specs.Reads.{read_u32}
use Rattle.parse.specs.Use.{on_u32}
use Rattle.laws.specs.Bits.{is_set}
use Rattle.kerning_lists.specs.Walk.{u16_or_zero, u32_or_zero}
use Rattle.kerning_lists.specs.declared.Subtable.{Subtable}
use Rattle.kerning_lists.specs.declared.ListHead.{ListHead}

-- the crate's `should_reverse`: a subtable with 0x10000000 goes against the line's direction
abbrev pub should_reverse : (coverage : ℕ) → (rtl : Bool) → Bool
should_reverse coverage rtl = cond (is_set coverage 0x10000000) (not rtl) rtl

-- a run passes over what is vertical, cross-stream or has variations; the low byte is the format
unfoldable pub subtable_of : (rtl : Bool) → (at size coverage : ℕ) → Subtable
subtable_of rtl at size coverage =
    record {
      passed_over = either (is_set coverage 0x80000000) (either (is_set coverage 0x40000000) (is_set coverage 0x20000000));
      turned = should_reverse coverage rtl;
      format = coverage % 256;
      body = at;
      next = at + size;
    }

-- the head at a place, by the bytes from there on: size at 0, coverage at 4 and, from version 4 on, the tuple count at 8
unfoldable pub head_in : (rtl : Bool) → (version at : ℕ) → (part : List ℕ) → Option Subtable
head_in rtl version at part =
    on_u32 (read_u32 part 0)
    (λ size. on_u32 (read_u32 part 4)
    (λ coverage. if_lt version 4 (Some (subtable_of rtl at size coverage))
    (on_u32 (read_u32 part 8) (λ tuples. Some (subtable_of rtl at size coverage)) None))
    None)
    None

-- the list: version at 0, a 32-bit count at 4, the first subtable at 8
unfoldable pub list_of : List ℕ → ListHead
list_of bytes = record { version = u16_or_zero bytes 0; count = u32_or_zero bytes 4; first = 8 }

-- the same subtable, as a run in the other direction reads its head
abbrev pub turned_round : Subtable → Subtable
turned_round s =
    record { passed_over = s.passed_over; turned = not s.turned; format = s.format; body = s.body; next = s.next }
