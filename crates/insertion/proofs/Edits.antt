-- What the code of an insertion leaves, slice by slice, is the line after it.
use Rattle.std.specs.Prelude.{Option, Some, None}
use Prim.Native.Nat.{ℕ, ◌+◌, ◌*◌, ◌/◌, ◌≤◌, min}
use mathlib.Core.Path.{◌≡◌, refl, sym, ◌∙◌, ap}
use mathlib.Core.List.{List}
use native.Mathlib.Omega.{arith}
use lib.ListN.{length, take, drop}
use Rattle.line.specs.Line.{Line, line_of}
use Rattle.line.specs.Changes.{spliced, numbers_from, apply, apply_all, glyphs_of}
use Rattle.line.proofs.Applied.{applied_insertion}
use Rattle.line.proofs.Histories.{apply_all-append}
use Rattle.insertion.specs.Lists.{count_of, glyphs_at, changes_of, both_changes}
use Rattle.insertion.specs.Work.{Left}
use Rattle.insertion.specs.declared.Insertion.{Insertion}
use Rattle.insertion.proofs.Lists.{length_part, part_glyphs, length-glyphs_at}

module _ (bytes : List ℕ) where
  homes-kept : (edit : Option Insertion) (l : Line) → (apply_all (changes_of bytes edit) l).homes ≡ l.homes
  unfolding apply_all apply
  homes-kept None l = refl
  homes-kept (Some edit) l = refl

  pub used_grows : (edit : Option Insertion) (l : Line) → (apply_all (changes_of bytes edit) l).used ≡ l.used + count_of edit
  unfolding apply_all apply
  used_grows None l = omega arith
  used_grows (Some edit) l = ap (λ (n : ℕ). l.used + n) (length-glyphs_at bytes edit.glyphs edit.count)

  -- no glyphs
  pub put_none : (l : Line) → Left (changes_of bytes None) l l.glyphs l.tags l.used
  unfolding apply_all
  put_none l = record { glyphs-left = refl; tags-left = refl; used-left = refl }

  -- the glyphs of a part of the bytes
  module _ (edit : Insertion) {part : List ℕ} (fits : edit.glyphs + edit.count * 2 ≤ length bytes)
      (d : part ≡ take (edit.count * 2) (drop edit.glyphs bytes)) where
    pub part_half : length part / 2 ≡ edit.count
    part_half = omega (arith, ap length d, length_part bytes edit.glyphs edit.count fits)

    pub put_part : (glyphs tags homes : List ℕ) (used : ℕ) {glyphs' tags' : List ℕ} {used' : ℕ}
        → glyphs' ≡ spliced (min edit.place used) used (glyphs_of part) glyphs
        → tags' ≡ spliced (min edit.place used) used (numbers_from used (length part / 2)) tags
        → used' ≡ used + length part / 2
        → Left (changes_of bytes (Some edit)) (line_of glyphs tags homes used) glyphs' tags' used'
    unfolding apply_all
    put_part glyphs tags homes used g t u =
        let same = ap glyphs_of d ∙ part_glyphs bytes edit.glyphs edit.count fits in
        let line =
        applied_insertion glyphs tags homes used edit.place edit.count (glyphs_at bytes edit.glyphs edit.count)
        (length-glyphs_at bytes edit.glyphs edit.count)
        (g ∙ ap (λ (new : List ℕ). spliced (min edit.place used) used new glyphs) same)
        (t ∙ ap (λ (n : ℕ). spliced (min edit.place used) used (numbers_from used n) tags) part_half)
        (u ∙ ap (λ (n : ℕ). used + n) part_half) in
        record {
          glyphs-left = ap (λ (l : Line). l.glyphs) line;
          tags-left = ap (λ (l : Line). l.tags) line;
          used-left = ap (λ (l : Line). l.used) line;
        }

line_is : (l : Line) {glyphs tags homes : List ℕ} {used : ℕ} → glyphs ≡ l.glyphs → tags ≡ l.tags → homes ≡ l.homes → used ≡ l.used
    → line_of glyphs tags homes used ≡ l
line_is l {glyphs} {tags} {homes} {used} g t h u =
    ap (λ (x : List ℕ). line_of x tags homes used) g
    ∙ ap (λ (x : List ℕ). line_of l.glyphs x homes used) t
    ∙ ap (λ (x : List ℕ). line_of l.glyphs l.tags x used) h
    ∙ ap (λ (x : ℕ). line_of l.glyphs l.tags l.homes x) u

module _ (bytes glyphs tags homes : List ℕ) (used : ℕ) where
  abbrev l : Line
  l = line_of glyphs tags homes used

  -- one insertion after the other
  pub put_both : (marked current : Option Insertion) {glyphs₁ tags₁ glyphs₂ tags₂ : List ℕ} {used₁ used₂ : ℕ} → Left (changes_of bytes marked) l glyphs₁ tags₁ used₁
      → Left (changes_of bytes current) (line_of glyphs₁ tags₁ homes used₁) glyphs₂ tags₂ used₂
      → Left (both_changes bytes marked current) l glyphs₂ tags₂ used₂
  put_both marked current p q =
      let first = line_is (apply_all (changes_of bytes marked) l) p.glyphs-left p.tags-left (sym (homes-kept bytes marked l)) p.used-left in
      let both = ap (apply_all (changes_of bytes current)) first ∙ sym (apply_all-append (changes_of bytes marked) (changes_of bytes current) l) in
      record {
        glyphs-left = q.glyphs-left ∙ ap (λ (x : Line). x.glyphs) both;
        tags-left = q.tags-left ∙ ap (λ (x : Line). x.tags) both;
        used-left = q.used-left ∙ ap (λ (x : Line). x.used) both;
      }

  pub both_grow : (marked current : Option Insertion) → (apply_all (both_changes bytes marked current) l).used ≡ used + count_of marked + count_of current
  both_grow marked current =
      ap (λ (x : Line). x.used) (apply_all-append (changes_of bytes marked) (changes_of bytes current) l)
      ∙ used_grows bytes current (apply_all (changes_of bytes marked) l)
      ∙ ap (λ (n : ℕ). n + count_of current) (used_grows bytes marked l)

  pub both-line : (marked current : Option Insertion) {glyphs' tags' : List ℕ} {used' : ℕ} → Left (both_changes bytes marked current) l glyphs' tags' used'
      → line_of glyphs' tags' homes used' ≡ apply_all (both_changes bytes marked current) l
  both-line marked current p =
      line_is (apply_all (both_changes bytes marked current) l) p.glyphs-left p.tags-left
      (sym
      (ap (λ (x : Line). x.homes) (apply_all-append (changes_of bytes marked) (changes_of bytes current) l)
      ∙ homes-kept bytes current (apply_all (changes_of bytes marked) l)
      ∙ homes-kept bytes marked l))
      p.used-left
