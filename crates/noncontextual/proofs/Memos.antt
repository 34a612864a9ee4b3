-- What becomes of glyphs is remembered rightly.
use Prim.Native.Nat.{ℕ, ◌+◌, ◌*◌, ◌/◌, ◌%◌, ◌<◌}
use mathlib.Core.Path.{◌≡◌, sym, ◌∙◌, ap, subst⁻¹}
use mathlib.Core.Bool.{Bool, true, false, cond}
use mathlib.Core.List.{List}
use mathlib.Core.Logic.{◌⊎◌, inl, inr}
use native.Mathlib.Omega.{arith}
use lib.Dec.{eqb}
use lib.ListN.{get_or, set, length-set, length-replicate, get_or-replicate}
use lib.Seq.{get_or-set_same, get_or-set_other}
use Rattle.laws.proofs.Numbers.{eq-or-ne}
use Rattle.noncontextual.specs.Work.{Remembers, noted, nothing_found}

module _ {becoming : ℕ → ℕ} where
  pub nothing_remembered : Remembers becoming nothing_found
  nothing_remembered =
      record {
        long = length-replicate {A = ℕ} 64 0;
        slots = λ glyph e. absurd (omega (arith, e, get_or-replicate {A = ℕ} 64 (glyph % 64) 0 0 (omega arith)));
      }

  -- what is noted is still remembered rightly
  notes : {memo : List ℕ} → Remembers becoming memo → (glyph : ℕ) → becoming glyph < 65536 → Remembers becoming (noted becoming memo glyph)
  unfolding noted
  notes {memo} r glyph small = go (eqb (get_or memo (glyph % 64) 0 / 65536) (glyph / 64 + 1))
    where
      value : ℕ
      value = (glyph / 64 + 1) * 65536 + becoming glyph

      new : List ℕ
      new = set memo (glyph % 64) value

      held : (other : ℕ) → (other % 64 ≡ glyph % 64) ⊎ (other % 64 ≡ glyph % 64 → ⊥)
          → get_or new (other % 64) 0 / 65536 ≡ other / 64 + 1 → get_or new (other % 64) 0 % 65536 ≡ becoming other
      held other (inl s) e =
          let v : get_or new (other % 64) 0 ≡ value = ap (λ (slot : ℕ). get_or new slot 0) s ∙ get_or-set_same memo (glyph % 64) value 0 (omega (arith, r.long)) in
          let same : other ≡ glyph = omega (arith, v, e, s, small) in
          let low : get_or new (other % 64) 0 % 65536 ≡ becoming glyph = omega (arith, v, small) in
          low ∙ ap becoming (sym same)
      held other (inr d) e =
          let v : get_or new (other % 64) 0 ≡ get_or memo (other % 64) 0 = get_or-set_other memo (glyph % 64) (other % 64) value 0 d in
          ap (λ (n : ℕ). n % 65536) v ∙ r.slots other (sym (ap (λ (n : ℕ). n / 65536) v) ∙ e)

      go : (b : Bool) → Remembers becoming (cond b memo new)
      go true = r
      go false =
          record { long = length-set memo (glyph % 64) value ∙ r.long; slots = λ other e. held other (eq-or-ne (other % 64) (glyph % 64)) e }

  pub still_remembers : {memo memo' : List ℕ} {glyph became : ℕ} → Remembers becoming memo → became ≡ becoming glyph → became < 65536
      → memo' ≡ noted becoming memo glyph → Remembers becoming memo'
  still_remembers {memo} {memo'} {glyph} r b small e = subst⁻¹ (λ (m : List ℕ). Remembers becoming m) e (notes r glyph (omega (arith, b, small)))
