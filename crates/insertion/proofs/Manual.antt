-- The list that the crate inserts is the manual's, where all of it lies in the table and it has any glyphs; one that is not wholly there can't be
-- read. Of a list of no glyphs the manual inserts nothing; the crate ends the step where it begins at or past the end.
use Prim.Native.Nat.{ℕ, zero, suc, ◌+◌, ◌*◌, ◌<◌, ◌≤◌}
use mathlib.Core.Path.{◌≡◌, refl, sym, ◌∙◌, ap}
use mathlib.Core.List.{List}
use native.Mathlib.Omega.{arith}
use lib.ListN.{length, drop}
use borrow.Author.Tests.{ne_eqb}
use Rattle.laws.specs.Lists.{tab}
use Rattle.parse.specs.Reads.{u16_at, u32_at}
use Rattle.parse.proofs.Laws.{read_u32_got, inside_yes, inside_past, inside-cut, u16_from}
use Rattle.insertion.specs.Lists.{glyph_list, glyphs_at}
use Rattle.insertion.specs.Manual.{glyph_table, glyphs_from}
use Rattle.insertion.specs.declared.Listed.TheVariants as Listed'

-- a list that begins where the crate's does has the manual's glyphs
pub glyphs_by_manual : (bytes : List ℕ) (number count : ℕ) → glyphs_at bytes (u32_at bytes 16 + number * 2) count ≡ glyphs_from bytes number count
unfolding glyphs_at glyphs_from glyph_table tab
glyphs_by_manual bytes number count = go count
  where
    same : (k : ℕ) → u16_at bytes (u32_at bytes 16 + number * 2 + k * 2) ≡ u16_at (drop (u32_at bytes 16) bytes) ((number + k) * 2)
    same k =
        let e : u32_at bytes 16 + number * 2 + k * 2 ≡ u32_at bytes 16 + (number + k) * 2 = omega arith in
        ap (u16_at bytes) e ∙ sym (u16_from bytes (u32_at bytes 16) ((number + k) * 2))

    go : (n : ℕ) → tab (λ k. u16_at bytes (u32_at bytes 16 + number * 2 + k * 2)) n ≡ tab (λ k. u16_at (drop (u32_at bytes 16) bytes) ((number + k) * 2)) n
    go zero = refl
    go (suc n) = rw (go n, same n)

module _ (bytes : List ℕ) (number count : ℕ) (n : number ≡ 0xFFFF → ⊥) (h : 20 ≤ length bytes) where
  -- a list of some glyphs is read where they lie in the table
  pub list_by_manual : 0 < count → u32_at bytes 16 + number * 2 + count * 2 ≤ length bytes
      → glyph_list bytes number count ≡ Listed'.At (u32_at bytes 16 + number * 2)
  unfolding glyph_list
  list_by_manual some k =
      rw (ne_eqb number 0xFFFF n, read_u32_got bytes 16 h, inside_yes bytes (u32_at bytes 16 + number * 2) (count * 2) (omega arith) (omega arith), glyph_list)

  -- not where they don't
  pub list_past_manual : 0 < count → length bytes < u32_at bytes 16 + number * 2 + count * 2 → glyph_list bytes number count ≡ Listed'.Short
  unfolding glyph_list
  list_past_manual some k =
      rw (ne_eqb number 0xFFFF n, read_u32_got bytes 16 h, inside-cut bytes (u32_at bytes 16 + number * 2) (count * 2) (omega arith), glyph_list)

  -- and none, not even one of no glyphs, that begins at or past the end
  pub list-at-end : length bytes ≤ u32_at bytes 16 + number * 2 → glyph_list bytes number count ≡ Listed'.Short
  unfolding glyph_list
  list-at-end k =
      rw (ne_eqb number 0xFFFF n, read_u32_got bytes 16 h, inside_past bytes (u32_at bytes 16 + number * 2) (count * 2) k, glyph_list)
