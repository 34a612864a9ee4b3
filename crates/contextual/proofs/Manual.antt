-- The substitute that the crate reads is the manual's, where the offset of its lookup can be read; elsewhere there is none.
use Rattle.std.specs.Prelude.{None, Err}
use Prim.Native.Nat.{ℕ, ◌+◌, ◌*◌, ◌<◌, ◌≤◌}
use mathlib.Core.Path.{◌≡◌, sym, ◌∙◌, ap}
use mathlib.Core.List.{List}
use lib.ListN.{length, drop}
use lib.Seq.{drop-drop}
use borrow.Author.Tests.{ne_eqb}
use Rattle.parse.specs.Reads.{u32_at}
use Rattle.parse.proofs.Laws.{read_u32_got, read_u32-short, u32_from}
use Rattle.tables.specs.Lookup.{lookup_at}
use Rattle.tables.specs.declared.lookup.Why.{Why}
use Rattle.contextual.specs.Substitutes.{substitute_by, substitute_of}
use Rattle.contextual.specs.Manual.{substitution_table, lookup_number}

module _ (bytes : List ℕ) (number glyph : ℕ) (n : number ≡ 0xFFFF → ⊥) (h : 20 ≤ length bytes) where
  pub by_manual : u32_at bytes 16 + number * 4 + 4 ≤ length bytes
      → substitute_of bytes number glyph ≡ substitute_by (lookup_at (lookup_number bytes number) glyph)
  unfolding substitute_of substitution_table lookup_number
  by_manual k =
      rw (ne_eqb number 0xFFFF n, read_u32_got bytes 16 h, read_u32_got bytes (u32_at bytes 16 + number * 4) k, substitute_of)
      (ap (λ (x : List ℕ). substitute_by (lookup_at x glyph))
      (sym (drop-drop (u32_at bytes (u32_at bytes 16 + number * 4)) (u32_at bytes 16) bytes)
      ∙ ap (λ (o : ℕ). drop o (drop (u32_at bytes 16) bytes)) (sym (u32_from bytes (u32_at bytes 16) (number * 4)))))

  pub past_manual : length bytes < u32_at bytes 16 + number * 4 + 4 → substitute_of bytes number glyph ≡ None
  unfolding substitute_of
  past_manual k =
      rw (ne_eqb number 0xFFFF n, read_u32_got bytes 16 h, read_u32-short bytes (u32_at bytes 16 + number * 4) k, substitute_of)

  -- a lookup that finds nothing leaves the glyph, whatever the reason
  pub contextual_drops : u32_at bytes 16 + number * 4 + 4 ≤ length bytes → (why : Why) → lookup_at (lookup_number bytes number) glyph ≡ Err why
      → substitute_of bytes number glyph ≡ None
  contextual_drops k why e = by_manual k ∙ ap substitute_by e
