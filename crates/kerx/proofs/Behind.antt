-- More bytes behind a kerx subtable change nothing for its head, nor for what it adds, where no read comes out short without them.
use Rattle.std.specs.Prelude.{Option, Some, None, Result, Ok, Err}
use Prim.Native.Nat.{ℕ}
use mathlib.Core.Path.{◌≡◌, refl, sym, ◌∙◌, ap}
use mathlib.Core.Bool.{Bool, true, false, cond}
use mathlib.Core.List.{List, []}
use native.Mathlib.Omega.{arith}
use lib.Dec.{ltb, eqb}
use borrow.Author.Tests.{eqb-true}
use Rattle.parse.specs.Reads.{u32_at, read_u32}
use Rattle.parse.proofs.Laws.{u32_value}
use Rattle.parse.proofs.Behind.{Begins, Stays, choice_stays, on_u32_stays}
use Rattle.answers.specs.declared.Answer.TheVariants as Answer'
use Rattle.answers.specs.declared.Refusal.TheVariants as Refusal'
use Rattle.kerning.specs.Additions.{Kerned, nothing_added}
use Rattle.kerning.specs.declared.choices.Choices.{Choices}
use Rattle.kerning.specs.Heads.{barred}
use Rattle.pairs.specs.Pairs.{ordered_kerx, classes_kerx}
use Rattle.pairs.specs.Pass as Pairs'
use Rattle.kerning.specs.declared.heads.Unready.{Unready}
use Rattle.pairs.specs.declared.PairTable.{PairTable}
use Rattle.pairs.proofs.Behind as PairsBehind
use Rattle.kerx_machine.specs.Machine as Machine'
use Rattle.kerx_machine.specs.Machine.{is_tupled, tuples_of}
use Rattle.kerx_machine.proofs.Behind.{tupled_stays, machine_stays, tupled_adds_nothing}
use Rattle.kerning_lists.specs.declared.Subtable.{Subtable}
use Rattle.kerx.specs.Heads.{subtable_of, head_in}
use Rattle.kerx.specs.Kerx.{worked}
use Rattle.kerx.specs.Inside.{WorkInside}

-- what a head that was read has read
pub record HeadRead (rtl : Bool) (version : ℕ) (own : List ℕ) (s : Subtable) : Type 0 where
  pub coverage : ℕ
  pub is : s ≡ subtable_of rtl 0 (u32_at own 0) coverage
  pub tuples : tuples_of own version ≡ None → ⊥
  pub elsewhere : (at : ℕ) → head_in rtl version at own ≡ Some (subtable_of rtl at (u32_at own 0) coverage)

pub head_read : (rtl : Bool) (version : ℕ) (own : List ℕ) {s : Subtable} → head_in rtl version 0 own ≡ Some s → HeadRead rtl version own s
unfolding head_in tuples_of
head_read rtl version own {s} e = by_size (read_u32 own 0) refl
  where
    by_size : (r : Option ℕ) → read_u32 own 0 ≡ r → HeadRead rtl version own s
    by_size None p = absurd (let z : ◌≡◌ {A = ℕ} 0 1 = cc in omega arith)
    by_size (Some size) p = by_coverage (read_u32 own 4) refl
      where
        by_coverage : (r : Option ℕ) → read_u32 own 4 ≡ r → HeadRead rtl version own s
        by_coverage None q = absurd (let f = rw (p, q) at e in let z : ◌≡◌ {A = ℕ} 0 1 = cc in omega arith)
        by_coverage (Some coverage) q = by_tuples (ltb version 4) (read_u32 own 8) refl refl
          where
            by_tuples : (old : Bool) (r : Option ℕ) → ltb version 4 ≡ old → read_u32 own 8 ≡ r → HeadRead rtl version own s
            by_tuples true r o t =
                let f = rw (p, q, o) at e in
                let n = (u32_value own 0 p).1 in
                record {
                  coverage = coverage;
                  is = cc;
                  tuples = λ short. let g = rw o at short in let z : ◌≡◌ {A = ℕ} 0 1 = cc in omega arith;
                  elsewhere = λ at. rw (p, q, o, n);
                }
            by_tuples false None o t = absurd (let f = rw (p, q, o, t) at e in let z : ◌≡◌ {A = ℕ} 0 1 = cc in omega arith)
            by_tuples false (Some tuples) o t =
                let f = rw (p, q, o, t) at e in
                let n = (u32_value own 0 p).1 in
                record {
                  coverage = coverage;
                  is = cc;
                  tuples = λ short. let g = rw o at short in let z : ◌≡◌ {A = ℕ} 0 1 = cc in omega arith;
                  elsewhere = λ at. rw (p, q, o, t, n);
                }

pub head_stays : {own whole : List ℕ} → Begins own whole → (rtl : Bool) (version at : ℕ) → Stays None (head_in rtl version at own) (head_in rtl version at whole)
unfolding head_in
head_stays b rtl version at =
    on_u32_stays b 0 _ _
    (λ size. on_u32_stays b 4 _ _
    (λ coverage. choice_stays (ltb version 4) (λ not. refl) (on_u32_stays b 8 _ _ (λ tuples not. refl))))

-- pairs whose tuples are refused add nothing
barred-adds-nothing : (bytes : List ℕ) (opened : Result PairTable Unready) (glyphs : List ℕ) (used : ℕ) (choices : Choices) → (Pairs'.worked_by bytes (barred true opened) glyphs used choices.pairs).additions ≡ []
unfolding barred Pairs'.worked_by
barred-adds-nothing bytes (Ok pairs) glyphs used choices = refl
barred-adds-nothing bytes (Err why) glyphs used choices = refl

module _ (version : ℕ) (glyphs : List ℕ) (used : ℕ) (choices : Choices) where
  -- the work by whether it is of format 0, 1 or 2, and whether tuples are refused
  by_format : List ℕ → (tupled nought one two : Bool) → Kerned
  by_format bytes tupled nought one two =
      cond nought (Pairs'.worked_by bytes (barred tupled (ordered_kerx bytes)) glyphs used choices.pairs)
      (cond one (Machine'.worked bytes version glyphs used choices.reading)
      (cond two (Pairs'.worked_by bytes (barred tupled (classes_kerx bytes choices.reading)) glyphs used choices.pairs)
      (nothing_added (Answer'.Refused Refusal'.Head))))

  by_format_lem : (bytes : List ℕ) (format : ℕ) → worked bytes version format glyphs used choices ≡ by_format bytes (is_tupled bytes version choices.reading) (eqb format 0) (eqb format 1) (eqb format 2)
  unfolding worked by_format
  by_format_lem bytes format = refl

  tupled_nothing : (bytes : List ℕ) → is_tupled bytes version choices.reading ≡ true → (nought one two : Bool) → (by_format bytes true nought one two).additions ≡ []
  unfolding by_format
  tupled_nothing bytes t true one two = barred-adds-nothing bytes (ordered_kerx bytes) glyphs used choices
  tupled_nothing bytes t false true two = tupled_adds_nothing bytes version glyphs used choices.reading t
  tupled_nothing bytes t false false true = barred-adds-nothing bytes (classes_kerx bytes choices.reading) glyphs used choices
  tupled_nothing bytes t false false false = refl

  module _ {own whole : List ℕ} (b : Begins own whole) (format : ℕ) (not : tuples_of own version ≡ None → ⊥) where
    abbrev tupled : Bool
    tupled = is_tupled own version choices.reading

    plain_stays : tupled ≡ false → WorkInside own version format glyphs used choices → (nought one two : Bool) → eqb format 0 ≡ nought → eqb format 1 ≡ one → eqb format 2 ≡ two
        → by_format whole false nought one two ≡ by_format own false nought one two
    unfolding by_format barred
    plain_stays t inside true one two e f g =
        PairsBehind.pass_stays b (ordered_kerx own) (ordered_kerx whole) (PairsBehind.ordered-opens b) glyphs used choices.pairs (inside.ordered (eqb-true format 0 e))
    plain_stays t inside false true two e f g = machine_stays b version glyphs used choices.reading not t (inside.machine (eqb-true format 1 f))
    plain_stays t inside false false true e f g =
        PairsBehind.pass_stays b (classes_kerx own choices.reading) (classes_kerx whole choices.reading) (PairsBehind.classes_open b choices.reading) glyphs used choices.pairs
        (inside.classes (eqb-true format 2 g))
    plain_stays t inside false false false e f g = refl

    -- what a subtable adds with more bytes behind it is what it adds by its own
    pub work_stays : (tupled ≡ false → WorkInside own version format glyphs used choices)
        → (worked whole version format glyphs used choices).additions ≡ (worked own version format glyphs used choices).additions
    work_stays inside = go (is_tupled own version choices.reading) refl
      where
        same_tuples : is_tupled whole version choices.reading ≡ is_tupled own version choices.reading
        same_tuples = tupled_stays b version choices.reading not

        go : (t : Bool) → is_tupled own version choices.reading ≡ t
            → (worked whole version format glyphs used choices).additions ≡ (worked own version format glyphs used choices).additions
        go true t =
            ap (λ (k : Kerned). k.additions) (by_format_lem whole format)
            ∙ ap (λ (x : Bool). (by_format whole x (eqb format 0) (eqb format 1) (eqb format 2)).additions) (same_tuples ∙ t)
            ∙ tupled_nothing whole (same_tuples ∙ t) (eqb format 0) (eqb format 1) (eqb format 2)
            ∙ sym (tupled_nothing own t (eqb format 0) (eqb format 1) (eqb format 2))
            ∙ ap (λ (x : Bool). (by_format own x (eqb format 0) (eqb format 1) (eqb format 2)).additions) (sym t)
            ∙ ap (λ (k : Kerned). k.additions) (sym (by_format_lem own format))
        go false t =
            ap (λ (k : Kerned). k.additions)
            (by_format_lem whole format
            ∙ ap (λ (x : Bool). by_format whole x (eqb format 0) (eqb format 1) (eqb format 2)) (same_tuples ∙ t)
            ∙ plain_stays t (inside t) (eqb format 0) (eqb format 1) (eqb format 2) refl refl refl
            ∙ ap (λ (x : Bool). by_format own x (eqb format 0) (eqb format 1) (eqb format 2)) (sym t)
            ∙ sym (by_format_lem own format))
