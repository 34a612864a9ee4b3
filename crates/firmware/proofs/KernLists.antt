-- The next subtable of a list whose cursor crossed as numbers.
use Rattle.std.specs.Prelude.{Option, Result}
use Rattle.answers.specs.declared.Refusal.{Refusal}
use Prim.Native.Nat.{ℕ}
use mathlib.Core.Path.{◌≡◌, ◌∙◌, ap}
use mathlib.Core.List.{List}
use Rattle.kerning_lists.specs.Family.{Family, subtable_call}
use Rattle.kerning_lists.specs.declared.Cursor.{Cursor}
use Rattle.kerning_lists.specs.declared.NextSubtable.{NextSubtable}
use Rattle.firmware.specs.KernCursors.{cursor_from, next_after}

pub next-after : (family : Family) (table slots : List ℕ) {given : Cursor} {reply : (Result (Option NextSubtable) Refusal)} → given ≡ cursor_from slots
    → reply ≡ subtable_call family table given → reply ≡ next_after family table slots
unfolding next_after
next-after family table slots g e = e ∙ ap (subtable_call family table) g
