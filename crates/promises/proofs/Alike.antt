-- Where the two readings of kerx agree.
use Rattle.std.specs.Prelude.{Option, Some, None, Result, Ok, Err, ℤ}
use Rattle.tables.specs.declared.lookup.Why.{Why}
use Prim.Native.Nat.{ℕ}
use mathlib.Core.Path.{◌≡◌, refl, sym, ap, ap₂, subst}
use mathlib.Core.Bool.{Bool, true, false, cond}
use mathlib.Core.List.{List}
use lib.Dec.{eqb}
use lib.ListN.{drop}
use borrow.Author.Tests.{ne_eqb}
use Rattle.laws.specs.Lists.{both}
use Rattle.answers.specs.declared.Answer.TheVariants as Answer'
use Rattle.answers.specs.declared.Refusal.TheVariants as Refusal'
use Rattle.parse.specs.Reads.{read_u16, read_u32}
use Rattle.parse.proofs.Laws.{u32_value}
use Rattle.tables.specs.declared.units.Reading.TheVariants.{Crate, Manual}
use Rattle.tables.specs.declared.units.Units.{Units}
use Rattle.tables.proofs.Sizes.{other-units}
use Rattle.kerning.specs.Additions.{nothing_added}
use Rattle.kerning.specs.declared.choices.PairRule.{PairRule}
use Rattle.kerning.specs.Heads.{barred}
use Rattle.pairs.specs.Pairs.{ordered_kerx, classes_kerx}
use Rattle.pairs.specs.Pass.{counts, pairs_below, worked_by}
use Rattle.pairs.specs.Work.{are_words, in_words}
use Rattle.pairs.specs.declared.PairTable.TheVariants.{Classes}
use Rattle.pairs.proofs.Passes.{words-number}
use Rattle.kerx_machine.specs.Machine.{has_tuples, is_tupled}
use Rattle.kerx.specs.Kerx.{worked}
use Rattle.promises.specs.Lists.{NoneOfTen}

module _ (bytes : List ℕ) (glyphs : List ℕ) (used : ℕ) (rule : PairRule) where
  -- class pairs without format 10
  words : (rows columns : ℕ) → (read_u16 (drop rows bytes) 0 ≡ Some 10 → ⊥) → (read_u16 (drop columns bytes) 0 ≡ Some 10 → ⊥) → in_words bytes rows columns Manual ≡ true
  unfolding in_words
  words rows columns a b =
      ap₂ (λ (u v : Result Units Why). both (are_words u) (are_words v)) (other-units Manual (drop rows bytes) a) (other-units Manual (drop columns bytes) b)

  same-pairs : (rows columns array : ℕ) → (read_u16 (drop rows bytes) 0 ≡ Some 10 → ⊥) → (read_u16 (drop columns bytes) 0 ≡ Some 10 → ⊥)
      → worked_by bytes (Ok (Classes rows columns array Manual)) glyphs used rule ≡ worked_by bytes (Ok (Classes rows columns array Crate)) glyphs used rule
  unfolding worked_by
  same-pairs rows columns array a b =
      ap (λ (number : ℕ → ℕ → Result ℤ Why). record { answer = Answer'.Done; additions = pairs_below (counts rule glyphs) number glyphs used })
      (sym (words-number bytes rows columns array Manual (words rows columns a b)))

  same-classes : NoneOfTen bytes → worked_by bytes (classes_kerx bytes Manual) glyphs used rule ≡ worked_by bytes (classes_kerx bytes Crate) glyphs used rule
  unfolding classes_kerx
  same-classes none = by_rows (read_u32 bytes 16) refl
    where
      goal : Type 0
      goal = worked_by bytes (classes_kerx bytes Manual) glyphs used rule ≡ worked_by bytes (classes_kerx bytes Crate) glyphs used rule

      by_rows : (r : Option ℕ) → read_u32 bytes 16 ≡ r → goal
      by_rows None e = rw e
      by_rows (Some rows) e = by_columns (read_u32 bytes 20) refl
        where
          by_columns : (r : Option ℕ) → read_u32 bytes 20 ≡ r → goal
          by_columns None f = rw (e, f)
          by_columns (Some columns) f = by_array (read_u32 bytes 24) refl
            where
              by_array : (r : Option ℕ) → read_u32 bytes 24 ≡ r → goal
              by_array None g = rw (e, f, g)
              by_array (Some array) g =
                  rw (e, f, g)
                  (same-pairs rows columns array
                  (subst (λ (n : ℕ). read_u16 (drop n bytes) 0 ≡ Some 10 → ⊥) (sym (u32_value bytes 16 e).1) none.0)
                  (subst (λ (n : ℕ). read_u16 (drop n bytes) 0 ≡ Some 10 → ⊥) (sym (u32_value bytes 20 f).1) none.1))

pub manual_pairs : (bytes : List ℕ) (version format : ℕ) (glyphs : List ℕ) (used : ℕ) (rule : PairRule) → (format ≡ 1 → ⊥) → has_tuples bytes version ≡ false
    → NoneOfTen bytes
    → worked bytes version format glyphs used (record { pairs = rule; reading = Manual })
    ≡ worked bytes version format glyphs used (record { pairs = rule; reading = Crate })
unfolding worked is_tupled barred
manual_pairs bytes version format glyphs used rule n t none = rw (ne_eqb format 1 n, t) (go (eqb format 0) (eqb format 2))
  where
    go : (zero two : Bool)
        → cond zero (worked_by bytes (ordered_kerx bytes) glyphs used rule)
        (cond two (worked_by bytes (classes_kerx bytes Manual) glyphs used rule) (nothing_added (Answer'.Refused Refusal'.Head)))
        ≡ cond zero (worked_by bytes (ordered_kerx bytes) glyphs used rule)
        (cond two (worked_by bytes (classes_kerx bytes Crate) glyphs used rule) (nothing_added (Answer'.Refused Refusal'.Head)))
    go true two = refl
    go false true = same-classes bytes glyphs used rule none
    go false false = refl
