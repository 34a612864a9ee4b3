-- The actions, components and ligatures that the crate reads are the manual's, where all their bytes lie in the table; elsewhere there are
-- none.
use Rattle.std.specs.Prelude.{Some, None}
use Prim.Native.Nat.{ℕ, ◌+◌, ◌*◌, ◌<◌, ◌≤◌}
use mathlib.Core.Path.{◌≡◌, sym, ◌∙◌, ap}
use mathlib.Core.List.{List}
use lib.ListN.{length}
use Rattle.parse.specs.Reads.{u16_at, u32_at}
use Rattle.parse.proofs.Laws.{read_u16_got, read_u16-short, read_u32_got, read_u32-short, u16_from, u32_from}
use Rattle.ligature.specs.Actions.{read_action, read_number}
use Rattle.ligature.specs.Manual.{action_number, component_number, ligature_number}

module _ (bytes : List ℕ) (i : ℕ) where
  pub action_by_manual : 20 ≤ length bytes → u32_at bytes 16 + i * 4 + 4 ≤ length bytes → read_action bytes i ≡ Some (action_number bytes i)
  unfolding read_action action_number
  action_by_manual h k =
      rw (read_u32_got bytes 16 h, read_action) (read_u32_got bytes (u32_at bytes 16 + i * 4) k ∙ ap Some (sym (u32_from bytes (u32_at bytes 16) (i * 4))))

  pub action_past_manual : 20 ≤ length bytes → length bytes < u32_at bytes 16 + i * 4 + 4 → read_action bytes i ≡ None
  unfolding read_action
  action_past_manual h k = rw (read_u32_got bytes 16 h, read_action) (read_u32-short bytes (u32_at bytes 16 + i * 4) k)

  number-there : (head : ℕ) → head + 4 ≤ length bytes → u32_at bytes head + i * 2 + 2 ≤ length bytes
      → read_number bytes head i ≡ Some (u16_at bytes (u32_at bytes head + i * 2))
  unfolding read_number
  number-there head h k = rw (read_u32_got bytes head h, read_number) (read_u16_got bytes (u32_at bytes head + i * 2) k)

  number_past : (head : ℕ) → head + 4 ≤ length bytes → length bytes < u32_at bytes head + i * 2 + 2 → read_number bytes head i ≡ None
  unfolding read_number
  number_past head h k = rw (read_u32_got bytes head h, read_number) (read_u16-short bytes (u32_at bytes head + i * 2) k)

  pub component_by_manual : 24 ≤ length bytes → u32_at bytes 20 + i * 2 + 2 ≤ length bytes → read_number bytes 20 i ≡ Some (component_number bytes i)
  unfolding component_number
  component_by_manual h k = number-there 20 h k ∙ ap Some (sym (u16_from bytes (u32_at bytes 20) (i * 2)))

  pub component_past_manual : 24 ≤ length bytes → length bytes < u32_at bytes 20 + i * 2 + 2 → read_number bytes 20 i ≡ None
  component_past_manual = number_past 20

  pub ligature_by_manual : 28 ≤ length bytes → u32_at bytes 24 + i * 2 + 2 ≤ length bytes → read_number bytes 24 i ≡ Some (ligature_number bytes i)
  unfolding ligature_number
  ligature_by_manual h k = number-there 24 h k ∙ ap Some (sym (u16_from bytes (u32_at bytes 24) (i * 2)))

  pub ligature_past_manual : 28 ≤ length bytes → length bytes < u32_at bytes 24 + i * 2 + 2 → read_number bytes 24 i ≡ None
  ligature_past_manual = number_past 24
