-- A pass replaces each glyph below the used length by what is found for it, and leaves the others.
use Rattle.std.specs.Prelude.{Option, Result, Ok, Err}
use Rattle.std.specs.Result.{result_unwrap_or}
use Rattle.tables.specs.declared.lookup.Why.{Why}
use Prim.Native.Nat.{ℕ, zero, suc, ◌<◌, ◌≤◌}
use mathlib.Core.Path.{◌≡◌, refl, sym, ◌∙◌, ap, subst⁻¹}
use mathlib.Core.List.{List}
use mathlib.Core.Logic.{⊎_elim}
use native.Mathlib.Omega.{arith}
use lib.ListN.{length, get_or, set, length-set}
use lib.Seq.{get_or-set_same, get_or-set_other, set-get_or, ext_get_or}
use borrow.Author.Tests.{lt-ltb}
use Rattle.laws.proofs.Numbers.{eq-or-ne, lt-or-ge}
use Rattle.tables.specs.Lookup.{lookup_at}
use Rattle.tables.specs.Opened.{opened_of, plain, found_in, LiesIn}
use Rattle.tables.specs.Whole.{becomes}
use Rattle.tables.specs.declared.opened.Array.{Array}
use Rattle.tables.proofs.Openings.{opened-same, opened-lies}
use Rattle.line.specs.Line.{Line, line_of}
use Rattle.line.specs.Changes.{written, apply, apply_all}
use Rattle.line.proofs.Histories.{apply_all-append}
use Rattle.noncontextual.specs.NonContextual.{writes_of, writes_below, passed}
use Rattle.noncontextual.specs.Work.{replaced, passed_leaves}

-- a replacement is the writes of its place
replaced-line : (place : ℕ) (found : Result ℕ Why) (glyphs tags homes : List ℕ) (used : ℕ)
    → line_of (replaced used place found glyphs) tags homes used ≡ apply_all (writes_of place found) (line_of glyphs tags homes used)
unfolding apply_all apply
replaced-line place (Ok glyph) glyphs tags homes used = refl
replaced-line place (Err why) glyphs tags homes used = refl

-- a glyph of the line that becomes itself stays
becomes-replaced : (used place : ℕ) (found : Result ℕ Why) (glyphs : List ℕ) → place < used
    → set glyphs place (becomes (get_or glyphs place 0) found) ≡ replaced used place found glyphs
unfolding written
becomes-replaced used place (Ok glyph) glyphs h = rw (lt-ltb place used h)
becomes-replaced used place (Err why) glyphs h = set-get_or glyphs place 0

module _ (lookup : ℕ → Result ℕ Why) (glyphs tags homes : List ℕ) (used : ℕ) where
  becoming : ℕ → ℕ
  becoming k = becomes (get_or glyphs k 0) (lookup (get_or glyphs k 0))

  -- the glyphs once the first n have become what they do
  after : ℕ → List ℕ
  after zero = glyphs
  after (suc n) = set (after n) n (becoming n)

  record After (n : ℕ) : Type 0 where
    long : length (after n) ≡ length glyphs
    done : (k : ℕ) → k < n → get_or (after n) k 0 ≡ becoming k
    ahead : (k : ℕ) → n ≤ k → get_or (after n) k 0 ≡ get_or glyphs k 0
    made : line_of (after n) tags homes used ≡ apply_all (writes_below lookup glyphs n) (line_of glyphs tags homes used)

  after_is : used ≤ length glyphs → (n : ℕ) → n ≤ used → After n
  unfolding after becoming writes_below apply_all
  after_is h zero p = record { long = refl; done = λ k m. absurd (omega arith); ahead = λ k m. refl; made = refl }
  after_is h (suc n) p =
      let a = after_is h n (omega arith) in
      let found = lookup (get_or glyphs n 0) in
      let r : after (suc n) ≡ replaced used n found (after n) =
      ap (λ (x : ℕ). set (after n) n (becomes x found)) (sym (a.ahead n (omega arith))) ∙ becomes-replaced used n found (after n) (omega arith) in
      record {
        long = length-set (after n) n (becoming n) ∙ a.long;
        done = λ k m.
            ⊎_elim
            (λ (e : k ≡ n). subst⁻¹ (λ (q : ℕ). get_or (after (suc n)) q 0 ≡ becoming q) e (get_or-set_same (after n) n (becoming n) 0 (omega (arith, a.long))))
            (λ (ne : k ≡ n → ⊥). get_or-set_other (after n) n k (becoming n) 0 ne ∙ a.done k (omega (arith, ne)))
            (eq-or-ne k n);
        ahead = λ k m. get_or-set_other (after n) n k (becoming n) 0 (omega arith) ∙ a.ahead k (omega arith);
        made =
            ap (λ (x : List ℕ). line_of x tags homes used) r
            ∙ replaced-line n found (after n) tags homes used
            ∙ ap (apply_all (writes_of n found)) a.made
            ∙ sym (apply_all-append (writes_below lookup glyphs n) (writes_of n found) (line_of glyphs tags homes used));
      }

  pub passed_each : {left : List ℕ} → used ≤ length glyphs → length left ≡ length glyphs
      → ((k : ℕ) → k < used → get_or left k 0 ≡ becomes (get_or glyphs k 0) (lookup (get_or glyphs k 0)))
      → ((k : ℕ) → used ≤ k → get_or left k 0 ≡ get_or glyphs k 0) → left ≡ (passed_leaves lookup (line_of glyphs tags homes used)).glyphs
  unfolding passed_leaves passed becoming
  passed_each {left} h long done ahead =
      let a = after_is h used (omega arith) in
      ext_get_or 0 left (after used) (long ∙ sym a.long)
      (λ k m.
      ⊎_elim
      (λ (p : k < used). done k p ∙ sym (a.done k p))
      (λ (p : used ≤ k). ahead k p ∙ sym (a.ahead k p))
      (lt-or-ge k used))
      ∙ ap (λ (l : Line). l.glyphs) a.made

-- what is found, or the glyph
pub found_or : (glyph : ℕ) (found : Result ℕ Why) → result_unwrap_or found glyph ≡ becomes glyph found
found_or glyph (Ok element) = refl
found_or glyph (Err why) = refl

-- a lookup that was opened lies in its bytes
pub opened_inside : (body : List ℕ) {opened : Option Array} → opened ≡ opened_of body → LiesIn body opened
opened_inside body o = subst⁻¹ (λ (x : Option Array). LiesIn body x) o (opened-lies body)

-- and gives what becomes of each glyph: why nothing is found does not matter to it
becomes-plain : (glyph : ℕ) (found : Result ℕ Why) → becomes glyph (plain found) ≡ becomes glyph found
becomes-plain glyph (Ok element) = refl
becomes-plain glyph (Err why) = refl

pub opened_becomes : (body : List ℕ) (glyph : ℕ) {opened : Option Array} → opened ≡ opened_of body
    → becomes glyph (found_in body opened glyph) ≡ becomes glyph (lookup_at body glyph)
opened_becomes body glyph o =
    ap (λ (x : Option Array). becomes glyph (found_in body x glyph)) o
    ∙ ap (becomes glyph) (opened-same body glyph)
    ∙ becomes-plain glyph (lookup_at body glyph)
