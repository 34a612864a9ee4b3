-- kern's subtables begin where the manual says, and the answer for a pair is the manual's.
use Rattle.std.specs.Prelude.{Option, Some, None, Result, ℤ}
use Rattle.answers.specs.declared.Refusal.{Refusal}
use Rattle.tables.specs.declared.lookup.Why.{Why}
use Prim.Native.Nat.{ℕ, ◌+◌, ◌<◌, ◌≤◌, ◌/◌, ◌%◌}
use mathlib.Core.Path.{◌≡◌, refl, sym, ◌∙◌, ap, subst}
use mathlib.Core.Bool.{false}
use mathlib.Core.List.{List, []}
use mathlib.Core.Logic.{⊎_elim}
use native.Mathlib.Omega.{arith}
use native.Mathlib.Nat.{add-zero}
use lib.ListN.{length, drop, length-drop}
use borrow.Author.Tests.{eq-eqb}
use Rattle.laws.proofs.Numbers.{lt-or-ge}
use Rattle.parse.specs.Reads.{u16_at, u32_at, read_u16, read_u32}
use Rattle.parse.proofs.Laws.{read_u16_got, read_u16-short, read_u32_got, read_u32-short, u16_from, u32_from}
use Rattle.pairs.specs.Pairs.{ordered_kern}
use Rattle.pairs.specs.Reply.{reply_of}
use Rattle.pairs.specs.Manual.{Rising, OrderedValue}
use Rattle.pairs.specs.Manual as Pairs'
use Rattle.tables.specs.declared.lookup.Why.TheVariants.{NotCovered}
use Rattle.pairs.specs.declared.PairTable.TheVariants.{Ordered}
use Rattle.std.specs.Prelude.{Ok}
use Rattle.pairs.proofs.Manual.{ordered_as_manual}
use Rattle.kerning_lists.specs.Walk.{heads_from}
use Rattle.kerning_lists.specs.Manual.{told, NoneInPart, AsManual}
use Rattle.kerning_lists.specs.declared.Subtable.{Subtable}
use Rattle.kerning_lists.proofs.Manual.{no_head, walk_read, walk_as_manual}
use Rattle.kerning_lists.specs.Family.{head_at, walk_of, pair_in}
use Rattle.kern.specs.Heads.{old_subtable, new_subtable, head_in, list_of}
use Rattle.kern.specs.Kern.{pair_by, kern}
use Rattle.kern.specs.Manual.{Edition, old, new, version_number, HasVersion, count_of, first_of, head_bytes, length_at, subtable_at, HasPairs, pair_count, first_pair}

-- a head's length and coverage, in each edition
read_at : Edition → List ℕ → (at : ℕ) → Subtable
read_at old bytes at = old_subtable at (u16_at bytes (at + 2)) (u16_at bytes (at + 4))
read_at new bytes at = new_subtable at (u32_at bytes at) (u16_at bytes (at + 4))

-- are read where they lie in the table, and only there
module _ (bytes : List ℕ) (at : ℕ) where
  u16_there : (i : ℕ) → at + i + 2 ≤ length bytes → read_u16 (drop at bytes) i ≡ Some (u16_at bytes (at + i))
  u16_there i h = read_u16_got (drop at bytes) i (omega (arith, h, length-drop at bytes)) ∙ ap Some (u16_from bytes at i)

  u32_there : at + 4 ≤ length bytes → read_u32 (drop at bytes) 0 ≡ Some (u32_at bytes at)
  u32_there h =
      read_u32_got (drop at bytes) 0 (omega (arith, h, length-drop at bytes)) ∙ ap Some (u32_from bytes at 0 ∙ ap (u32_at bytes) (add-zero at))

  head_reads : (edition : Edition) → at + 6 ≤ length bytes → head_at kern false bytes (version_number edition) at ≡ Some (read_at edition bytes at)
  unfolding head_in read_at
  head_reads old h = rw (u16_there 2 (omega (arith, h)), u16_there 4 (omega (arith, h)))
  head_reads new h = rw (u32_there (omega (arith, h)), u16_there 4 (omega (arith, h)))

  head-cut : (edition : Edition) → length bytes < at + 6 → head_at kern false bytes (version_number edition) at ≡ None
  unfolding head_in
  head-cut edition h = go edition (read_u16 (drop at bytes) 2) (read_u32 (drop at bytes) 0) refl refl
    where
      short : read_u16 (drop at bytes) 4 ≡ None
      short = read_u16-short (drop at bytes) 4 (omega (arith, h, length-drop at bytes))

      go : (edition : Edition) (a : Option ℕ) (b : Option ℕ) → read_u16 (drop at bytes) 2 ≡ a → read_u32 (drop at bytes) 0 ≡ b
          → head_at kern false bytes (version_number edition) at ≡ None
      go old (Some size) b e f = rw (head_in, e, short)
      go old None b e f = rw (head_in, e)
      go new a (Some size) e f = rw (head_in, f, short)
      go new a None e f = rw (head_in, f)

  head-only : (edition : Edition) (s : Subtable) → head_at kern false bytes (version_number edition) at ≡ Some s → at + 6 ≤ length bytes
  head-only edition s e =
      ⊎_elim (λ (h : length bytes < at + 6). no_head e (head-cut edition h)) (λ (h : at + 6 ≤ length bytes). h) (lt-or-ge (length bytes) (at + 6))

  behind : (edition : Edition) → (read_at edition bytes at).next ≡ at + length_at edition bytes at
  unfolding read_at old_subtable new_subtable
  behind old = refl
  behind new = refl

  told_same : (edition : Edition) → told (read_at edition bytes at) ≡ subtable_at edition bytes at
  unfolding read_at old_subtable new_subtable
  told_same old = refl
  told_same new = refl

-- the list's own head
module _ (bytes : List ℕ) where
  list_is : (edition : Edition) → HasVersion edition bytes → first_of edition ≤ length bytes
      → list_of bytes ≡ record { version = version_number edition; count = count_of edition bytes; first = first_of edition }
  unfolding list_of
  list_is old v h = rw (read_u16_got bytes 0 (omega (arith, h)), v, read_u16_got bytes 2 (omega (arith, h)))
  list_is new v h = rw (read_u16_got bytes 0 (omega (arith, h)), v, read_u32_got bytes 4 (omega (arith, h)))

pub kern_as_manual : (edition : Edition) (bytes : List ℕ) → HasVersion edition bytes → first_of edition ≤ length bytes
    → NoneInPart bytes 6 (head_bytes edition) (length_at edition bytes) (first_of edition) (count_of edition bytes)
    → AsManual bytes (head_bytes edition) (subtable_at edition bytes) (length_at edition bytes) (first_of edition) (count_of edition bytes) (walk_of kern false bytes)
unfolding walk_of
kern_as_manual edition bytes v h whole =
    subst (AsManual bytes (head_bytes edition) (subtable_at edition bytes) (length_at edition bytes) (first_of edition) (count_of edition bytes))
    (let e : heads_from (head_at kern false bytes (version_number edition)) (count_of edition bytes) (first_of edition) ≡ walk_of kern false bytes = rw (list_is bytes edition v h, walk_of) in e)
    (walk_as_manual bytes 6 (head_bytes edition) (subtable_at edition bytes) (six_or_more edition) (λ at. told_same bytes at edition) whole
    (walk_read (head_at kern false bytes (version_number edition)) (λ at. at + 6 ≤ length bytes) (read_at edition bytes) (length_at edition bytes)
    (λ at. behind bytes at edition) (λ at. head_reads bytes at edition) (λ at. head-only bytes at edition) (first_of edition) (count_of edition bytes)))
  where
    six_or_more : (edition : Edition) → 6 ≤ head_bytes edition
    six_or_more old = omega arith
    six_or_more new = omega arith

-- where the list's own head does not lie in the table there is no subtable
nothing-counted : (edition : Edition) (bytes : List ℕ) → HasVersion edition bytes → 2 ≤ length bytes → length bytes < first_of edition
    → (list_of bytes).count ≡ 0
unfolding list_of
nothing-counted old bytes v k h = rw (read_u16_got bytes 0 (omega (arith, k)), v, read_u16-short bytes 2 (omega (arith, h)))
nothing-counted new bytes v k h = rw (read_u16_got bytes 0 (omega (arith, k)), v, read_u32-short bytes 4 (omega (arith, h)))

pub kern_without_list : (edition : Edition) (bytes : List ℕ) → HasVersion edition bytes → 2 ≤ length bytes → length bytes < first_of edition
    → walk_of kern false bytes ≡ []
unfolding walk_of heads_from
kern_without_list edition bytes v k h = rw (nothing-counted edition bytes v k h, heads_from)

-- the answer for a pair
module _ (bytes : List ℕ) (left right : ℕ) where
  pair_is : (edition : Edition) → HasPairs edition bytes
      → pair_in kern bytes (version_number edition) left right ≡ reply_of bytes (Ok (Ordered (first_pair edition) (pair_count edition bytes))) left right
  unfolding pair_in pair_by ordered_kern read_at old_subtable new_subtable
  pair_is old has =
      let h = has.head in
      rw (head_reads bytes 0 old (omega (arith, h)), eq-eqb (u16_at bytes 4 / 256) 0 has.format, read_u16_got bytes 6 (omega (arith, h)))
  pair_is new has =
      let h = has.head in
      rw (head_reads bytes 0 new (omega (arith, h)), eq-eqb (u16_at bytes 4 % 256) 0 has.format, read_u16_got bytes 8 (omega (arith, h)))

pub kern_pair_as_manual : (edition : Edition) (bytes : List ℕ) (left right : ℕ) → HasPairs edition bytes
    → Rising bytes (first_pair edition) (pair_count edition bytes)
    → Pairs'.AsManual (pair_in kern bytes (version_number edition) left right)
    (OrderedValue bytes 0 (first_pair edition) (pair_count edition bytes) left right) NotCovered
kern_pair_as_manual edition bytes left right has rising =
    subst (λ (r : Result (Result ℤ Why) Refusal). Pairs'.AsManual r (OrderedValue bytes 0 (first_pair edition) (pair_count edition bytes) left right) NotCovered)
    (sym (pair_is bytes left right edition has))
    (ordered_as_manual bytes 0 (first_pair edition) (pair_count edition bytes) left right refl rising)
