-- kerx's subtables begin where the manual says, and the answer for a pair is the manual's.
use Rattle.std.specs.Prelude.{Option, Some, None, Result, Ok, ℤ}
use Rattle.answers.specs.declared.Refusal.{Refusal}
use Rattle.tables.specs.declared.lookup.Why.{Why}
use Prim.Native.Nat.{ℕ, ◌+◌, ◌<◌, ◌≤◌, ◌%◌}
use mathlib.Core.Path.{◌≡◌, refl, sym, ◌∙◌, ap, subst}
use mathlib.Core.Bool.{Bool, true, false}
use mathlib.Core.List.{List, []}
use mathlib.Core.Logic.{⊎_elim}
use native.Mathlib.Omega.{arith}
use native.Mathlib.Nat.{add-zero}
use lib.Dec.{ltb}
use lib.ListN.{length, drop, length-drop}
use borrow.Author.Tests.{eq-eqb}
use Rattle.laws.specs.Choose.{if_lt}
use Rattle.laws.proofs.Numbers.{lt-or-ge}
use Rattle.parse.specs.Reads.{u32_at, read_u32}
use Rattle.parse.proofs.Laws.{read_u16_got, read_u32_got, read_u32-short, u32_from}
use Rattle.tables.specs.ManualLookup.{Layout}
use Rattle.tables.specs.declared.units.Reading.TheVariants.{Crate}
use Rattle.pairs.specs.Pairs.{ordered_kerx, classes_kerx}
use Rattle.pairs.specs.Reply.{reply_of}
use Rattle.pairs.specs.Manual.{Rising, OrderedValue, ClassValue, Legible, Covered}
use Rattle.pairs.specs.Manual as Pairs'
use Rattle.tables.specs.declared.lookup.Why.TheVariants.{NotCovered, CutShort}
use Rattle.pairs.specs.declared.PairTable.TheVariants.{Ordered, Classes}
use Rattle.pairs.proofs.Manual.{ordered_as_manual, class_as_manual}
use Rattle.kerning_lists.specs.Walk.{heads_from}
use Rattle.kerning_lists.specs.Manual.{told, NoneInPart, AsManual}
use Rattle.kerning_lists.specs.declared.Subtable.{Subtable}
use Rattle.kerning_lists.proofs.Manual.{no_head, walk_read, walk_as_manual}
use Rattle.kerning_lists.specs.Family.{head_at, walk_of, pair_in}
use Rattle.kerx.specs.Heads.{subtable_of, head_in, list_of}
use Rattle.kerx.specs.Kerx.{pair_by, kerx}
use Rattle.kerx.specs.Manual.{version_of, count_of, length_at, head_bytes, subtable_at, HasPairs, HasClasses, tuple_count, pair_count, rows_of, columns_of, array_of}

-- how many bytes of a head are read
abbrev few_of : (version : ℕ) → ℕ
few_of version = if_lt version 4 8 12

abbrev read_at : (rtl : Bool) → List ℕ → (at : ℕ) → Subtable
read_at rtl bytes at = subtable_of rtl at (length_at bytes at) (u32_at bytes (at + 4))

-- a head of which these lie in the table, and no other, is read
module _ (rtl : Bool) (bytes : List ℕ) (version at : ℕ) where
  u32_there : (i : ℕ) → at + i + 4 ≤ length bytes → read_u32 (drop at bytes) i ≡ Some (u32_at bytes (at + i))
  u32_there i h = read_u32_got (drop at bytes) i (omega (arith, h, length-drop at bytes)) ∙ ap Some (u32_from bytes at i)

  size-there : at + 4 ≤ length bytes → read_u32 (drop at bytes) 0 ≡ Some (u32_at bytes at)
  size-there h = u32_there 0 (omega (arith, h)) ∙ ap (λ (p : ℕ). Some (u32_at bytes p)) (add-zero at)

  u32_cut : (i : ℕ) → length bytes < at + i + 4 → read_u32 (drop at bytes) i ≡ None
  u32_cut i h = read_u32-short (drop at bytes) i (omega (arith, h, length-drop at bytes))

  head_reads : at + few_of version ≤ length bytes → head_at kerx rtl bytes version at ≡ Some (read_at rtl bytes at)
  unfolding head_in
  head_reads h = go (ltb version 4) refl
    where
      go : (t : Bool) → ltb version 4 ≡ t → head_at kerx rtl bytes version at ≡ Some (read_at rtl bytes at)
      go true p =
          let k : at + 8 ≤ length bytes = rw p at h in
          rw (size-there (omega (arith, k)), u32_there 4 (omega (arith, k)), p, head_in)
      go false p =
          let k : at + 12 ≤ length bytes = rw p at h in
          rw (size-there (omega (arith, k)), u32_there 4 (omega (arith, k)), p, u32_there 8 (omega (arith, k)), head_in)

  head-cut : length bytes < at + few_of version → head_at kerx rtl bytes version at ≡ None
  unfolding head_in
  head-cut h = go (ltb version 4) (read_u32 (drop at bytes) 0) (read_u32 (drop at bytes) 4) refl refl refl
    where
      go : (t : Bool) (a b : Option ℕ) → ltb version 4 ≡ t → read_u32 (drop at bytes) 0 ≡ a → read_u32 (drop at bytes) 4 ≡ b
          → head_at kerx rtl bytes version at ≡ None
      go t None b p e f = rw (e, head_in)
      go t (Some size) None p e f = rw (e, f, head_in)
      go true (Some size) (Some coverage) p e f =
          let k : length bytes < at + 8 = rw p at h in
          rw (e, u32_cut 4 (omega (arith, k)), head_in)
      go false (Some size) (Some coverage) p e f =
          let k : length bytes < at + 12 = rw p at h in
          rw (e, f, p, u32_cut 8 (omega (arith, k)), head_in)

  head-only : (s : Subtable) → head_at kerx rtl bytes version at ≡ Some s → at + few_of version ≤ length bytes
  head-only s e =
      ⊎_elim (λ (h : length bytes < at + few_of version). no_head e (head-cut h)) (λ (h : at + few_of version ≤ length bytes). h)
      (lt-or-ge (length bytes) (at + few_of version))

  behind : (read_at rtl bytes at).next ≡ at + length_at bytes at
  unfolding subtable_of
  behind = refl

  told_same : told (read_at rtl bytes at) ≡ subtable_at bytes at
  unfolding subtable_of
  told_same = refl

  few-enough : few_of version ≤ head_bytes
  few-enough = go (ltb version 4) refl
    where
      go : (t : Bool) → ltb version 4 ≡ t → few_of version ≤ head_bytes
      go true p = rw p (omega arith)
      go false p = rw p (omega arith)

-- where the list's own head lies in the table; else there is no subtable
pub kerx_as_manual : (rtl : Bool) (bytes : List ℕ) → 8 ≤ length bytes
    → NoneInPart bytes (if_lt (version_of bytes) 4 8 12) head_bytes (length_at bytes) 8 (count_of bytes)
    → AsManual bytes head_bytes (subtable_at bytes) (length_at bytes) 8 (count_of bytes) (walk_of kerx rtl bytes)
unfolding walk_of list_of
kerx_as_manual rtl bytes h whole =
    subst (AsManual bytes head_bytes (subtable_at bytes) (length_at bytes) 8 (count_of bytes))
    (let e : heads_from (head_at kerx rtl bytes (version_of bytes)) (count_of bytes) 8 ≡ walk_of kerx rtl bytes =
    rw (read_u16_got bytes 0 (omega (arith, h)), read_u32_got bytes 4 (omega (arith, h))) in e)
    (walk_as_manual bytes (few_of (version_of bytes)) head_bytes (subtable_at bytes) (few-enough rtl bytes (version_of bytes) 0)
    (λ at. told_same rtl bytes (version_of bytes) at) whole
    (walk_read (head_at kerx rtl bytes (version_of bytes)) (λ at. at + few_of (version_of bytes) ≤ length bytes) (read_at rtl bytes) (length_at bytes)
    (behind rtl bytes (version_of bytes)) (head_reads rtl bytes (version_of bytes)) (head-only rtl bytes (version_of bytes)) 8 (count_of bytes)))

pub kerx_without_list : (rtl : Bool) (bytes : List ℕ) → length bytes < 8 → walk_of kerx rtl bytes ≡ []
unfolding walk_of list_of heads_from
kerx_without_list rtl bytes h = rw (read_u32-short bytes 4 (omega (arith, h)), heads_from)

-- the answer for a pair
module _ (bytes : List ℕ) (version left right : ℕ) where
  pub head_is : 12 ≤ length bytes → head_in false version 0 bytes ≡ Some (read_at false bytes 0)
  head_is h = head_reads false bytes version 0 (go (ltb version 4) refl)
    where
      go : (t : Bool) → ltb version 4 ≡ t → 0 + few_of version ≤ length bytes
      go true p = rw p (omega (arith, h))
      go false p = rw p (omega (arith, h))

  pairs_are : HasPairs bytes → pair_in kerx bytes version left right ≡ reply_of bytes (Ok (Ordered 28 (pair_count bytes))) left right
  unfolding pair_in pair_by ordered_kerx subtable_of
  pairs_are has =
      let h = has.head in
      rw (head_is (omega (arith, h)), eq-eqb (u32_at bytes 4 % 256) 0 has.told, read_u32_got bytes 12 (omega (arith, h)))

  classes_are : HasClasses bytes
      → pair_in kerx bytes version left right ≡ reply_of bytes (Ok (Classes (rows_of bytes) (columns_of bytes) (array_of bytes) Crate)) left right
  unfolding pair_in pair_by classes_kerx subtable_of
  classes_are has =
      let h = has.head in
      rw (head_is (omega (arith, h)), has.told, read_u32_got bytes 16 (omega (arith, h)), read_u32_got bytes 20 (omega (arith, h)), read_u32_got bytes 24 (omega (arith, h)))

  pub kerx_pair_as_manual : HasPairs bytes → tuple_count bytes version ≡ 0 → Rising bytes 28 (pair_count bytes)
      → Pairs'.AsManual (pair_in kerx bytes version left right) (OrderedValue bytes (tuple_count bytes version) 28 (pair_count bytes) left right)
      NotCovered
  kerx_pair_as_manual has none rising =
      subst (λ (r : Result (Result ℤ Why) Refusal). Pairs'.AsManual r (OrderedValue bytes (tuple_count bytes version) 28 (pair_count bytes) left right) NotCovered)
      (sym (pairs_are has))
      (ordered_as_manual bytes (tuple_count bytes version) 28 (pair_count bytes) left right none rising)

  -- of glyphs that both tables cover
  pub kerx-class_as_manual : HasClasses bytes → tuple_count bytes version ≡ 0 → (glyphs : ℕ) (left_layout right_layout : Layout)
      → Legible (drop (rows_of bytes) bytes) glyphs left left_layout → Legible (drop (columns_of bytes) bytes) glyphs right right_layout
      → Covered (drop (rows_of bytes) bytes) glyphs left left_layout → Covered (drop (columns_of bytes) bytes) glyphs right right_layout
      → Pairs'.AsManual (pair_in kerx bytes version left right)
      (ClassValue bytes glyphs (rows_of bytes) (columns_of bytes) (array_of bytes) left right left_layout right_layout) CutShort
  kerx-class_as_manual has none glyphs left_layout right_layout l r left_there right_there =
      subst
      (λ (x : Result (Result ℤ Why) Refusal). Pairs'.AsManual x (ClassValue bytes glyphs (rows_of bytes) (columns_of bytes) (array_of bytes) left right left_layout right_layout) CutShort)
      (sym (classes_are has))
      (class_as_manual bytes glyphs (rows_of bytes) (columns_of bytes) (array_of bytes) left right left_layout right_layout l r left_there right_there)
