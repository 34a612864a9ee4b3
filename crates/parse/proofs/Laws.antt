-- When a read succeeds, what it then gives, and that reading from some start on is reading further behind.
use Rattle.std.specs.Prelude.{Option, Some, None}
use Prim.Native.Nat.{ℕ, ◌+◌, ◌-◌, ◌*◌, ◌<◌, ◌≤◌}
use mathlib.Core.Path.{◌≡◌, refl, sym, ◌∙◌, ap, ap₂}
use mathlib.Core.Bool.{Bool, true, false, cond}
use mathlib.Core.List.{List}
use native.Mathlib.Nat.{add_assoc}
use native.Mathlib.Omega.{arith}
use lib.Dec.{ltb, leb}
use lib.ListN.{length, get_or, drop}
use lib.Seq.{get_or-drop}
use lib.IntN.{ℤ}
use mir.Syntax.{w16}
use mir.Val.{to_z, of_z}
use Rattle.laws.specs.Signed.{signed16}
use Rattle.laws.proofs.Signed.{signed16_round}
use borrow.Author.Tests.{lt-ltb, le-ltb, le-leb, lt-leb, leb-true}
use Rattle.laws.specs.Lists.{both}
use Rattle.laws.proofs.Lists.{both_right}
use Rattle.parse.specs.Reads.{inside, u8_at, u16_at, u32_at, read_u8, read_u16, read_i16, read_u32}
use Rattle.parse.specs.Parts.{read_part}

module _ (table : List ℕ) (at size : ℕ) where
  pub inside_past : length table ≤ at → inside table at size ≡ false
  unfolding inside
  inside_past h = rw (le-ltb _ _ h)

  pub inside-over : length table < at + size → inside table at size ≡ false
  unfolding inside
  inside-over h = rw (lt-leb (at + size) (length table) h) (go (ltb at (length table)))
    where
      go : (t : Bool) → both t false ≡ false
      go true = refl
      go false = refl

  pub inside-cut : length table - at < size → inside table at size ≡ false
  inside-cut h = inside-over (omega arith)

  pub inside-small : length table < size → inside table at size ≡ false
  inside-small h = inside-over (omega arith)

  pub inside-behind : size ≤ length table → length table - size < at → inside table at size ≡ false
  inside-behind k h = inside-over (omega arith)

  pub inside_yes : at < length table → size ≤ length table - at → inside table at size ≡ true
  unfolding inside
  inside_yes h k = rw (lt-ltb at (length table) h, le-leb (at + size) (length table) (omega arith))

  pub inside-fits : inside table at size ≡ true → at + size ≤ length table
  unfolding inside
  inside-fits e = leb-true _ _ (both_right (ltb at (length table)) (leb (at + size) (length table)) e)

-- from some start on
module _ (table : List ℕ) (start at : ℕ) where
  pub u8_from : u8_at (drop start table) at ≡ u8_at table (start + at)
  u8_from = get_or-drop start table at 0

pub u16_from : (table : List ℕ) (start at : ℕ) → u16_at (drop start table) at ≡ u16_at table (start + at)
u16_from table start at =
    ap₂ (λ a b. a * 256 + b) (u8_from table start at) (u8_from table start (at + 1) ∙ ap (u8_at table) (sym (add_assoc start at 1)))

pub u32_from : (table : List ℕ) (start at : ℕ) → u32_at (drop start table) at ≡ u32_at table (start + at)
u32_from table start at =
    ap₂ (λ a b. a * 65536 + b) (u16_from table start at) (u16_from table start (at + 2) ∙ ap (u16_at table) (sym (add_assoc start at 2)))

-- a read gives a value exactly when all its bytes are inside, and then the value there
module _ (table : List ℕ) (at : ℕ) where
  pub read_u16_got : at + 2 ≤ length table → read_u16 table at ≡ Some (u16_at table at)
  unfolding read_u16
  read_u16_got h = rw (inside_yes table at 2 (omega arith) (omega arith))

  pub read_u16-short : length table < at + 2 → read_u16 table at ≡ None
  unfolding read_u16
  read_u16-short h = rw (inside-cut table at 2 (omega arith))

  pub read_u32_got : at + 4 ≤ length table → read_u32 table at ≡ Some (u32_at table at)
  unfolding read_u32
  read_u32_got h = rw (inside_yes table at 4 (omega arith) (omega arith))

  pub read_u32-short : length table < at + 4 → read_u32 table at ≡ None
  unfolding read_u32
  read_u32-short h = rw (inside-cut table at 4 (omega arith))

-- what the code has read, byte by byte, is the definition's number
module _ (table : List ℕ) (at : ℕ) where
  pub u8_read : at < length table → Some (get_or table at 0) ≡ read_u8 table at
  unfolding read_u8
  u8_read h = rw (inside_yes table at 1 h (omega arith))

  pub u16_read : {n : ℕ} → 2 ≤ length table → at ≤ length table - 2 → n ≡ u16_at table at → Some n ≡ read_u16 table at
  unfolding read_u16
  u16_read h k e = rw (inside_yes table at 2 (omega arith) (omega arith), e)

  pub u32_read : {a b c d : ℕ} → 4 ≤ length table → at ≤ length table - 4 → a ≡ get_or table at 0 → b ≡ get_or table (at + 1) 0
      → c ≡ get_or table (at + 2) 0 → d ≡ get_or table (at + 3) 0 → Some ((a * 256 + b) * 65536 + (c * 256 + d)) ≡ read_u32 table at
  unfolding read_u32
  u32_read h k p q r s = rw (inside_yes table at 4 (omega arith) (omega arith)) (cc (add_assoc at 2 1))

  pub part_read : {size : ℕ} → size ≤ length table → at ≤ length table - size → at < length table → Some (at + size) ≡ read_part table at size
  unfolding read_part
  part_read {size} h k l = rw (inside_yes table at size l (omega arith))

  pub i16_read : {u : (Option ℕ)} {n : ℕ} {z : ℤ} → u ≡ read_u16 table at → u ≡ Some n → z ≡ signed16 n
      → Some (to_z w16 (of_z w16 z)) ≡ read_i16 table at
  unfolding read_u16 read_i16
  i16_read {u} {n} {z} e f g = go (inside table at 2) refl
    where
      go : (t : Bool) → inside table at 2 ≡ t → Some (to_z w16 (of_z w16 z)) ≡ cond (inside table at 2) (Some (signed16 (u16_at table at))) None
      go true p = cc (signed16_round n g)
      go false p = cc

  pub i16_short : {u : (Option ℕ)} → u ≡ read_u16 table at → u ≡ None → None ≡ read_i16 table at
  unfolding read_u16 read_i16
  i16_short e f = go (inside table at 2) refl
    where
      go : (t : Bool) → inside table at 2 ≡ t → None ≡ cond (inside table at 2) (Some (signed16 (u16_at table at))) None
      go true p = cc
      go false p = cc

-- what was read lies in the table
module _ (table : List ℕ) (at : ℕ) where
  pub u16_inside : {u : (Option ℕ)} {n : ℕ} → u ≡ read_u16 table at → u ≡ Some n → at + 2 ≤ length table
  unfolding read_u16
  u16_inside {u} {n} e f = go (inside table at 2) refl
    where
      go : (t : Bool) → inside table at 2 ≡ t → at + 2 ≤ length table
      go true p = inside-fits table at 2 p
      go false p = let z : ◌≡◌ {A = ℕ} 0 1 = cc in omega arith

-- a list's bytes lie inside exactly when it was read
module _ (table : List ℕ) (at size : ℕ) where
  pub part_short : {p : (Option ℕ)} → p ≡ read_part table at size → p ≡ None → inside table at size ≡ false
  unfolding read_part
  part_short {p} e f = go (inside table at size) refl
    where
      go : (t : Bool) → inside table at size ≡ t → t ≡ false
      go true i = cc
      go false i = refl

  pub part_inside : {p : (Option ℕ)} {end : ℕ} → p ≡ read_part table at size → p ≡ Some end → inside table at size ≡ true
  unfolding read_part
  part_inside {p} e f = go (inside table at size) refl
    where
      go : (t : Bool) → inside table at size ≡ t → t ≡ true
      go true i = refl
      go false i = cc

-- a read that gave a value: all its bytes lie in the table, and it is the value there
module _ (table : List ℕ) (at : ℕ) where
  pub u16_value : {n : ℕ} → read_u16 table at ≡ Some n → (at + 2 ≤ length table) × (n ≡ u16_at table at)
  u16_value {n} e = let h = u16_inside table at (sym e) refl in let f = read_u16_got table at h in (h, cc)

  pub u32_value : {n : ℕ} → read_u32 table at ≡ Some n → (at + 4 ≤ length table) × (n ≡ u32_at table at)
  unfolding read_u32
  u32_value {n} e = go (inside table at 4) refl
    where
      go : (t : Bool) → inside table at 4 ≡ t → (at + 4 ≤ length table) × (n ≡ u32_at table at)
      go true p = (inside-fits table at 4 p, cc)
      go false p = let z : ◌≡◌ {A = ℕ} 0 1 = cc in absurd (omega arith)

  pub u8_value : {n : ℕ} → read_u8 table at ≡ Some n → (at < length table) × (n ≡ u8_at table at)
  unfolding read_u8
  u8_value {n} e = go (inside table at 1) refl
    where
      go : (t : Bool) → inside table at 1 ≡ t → (at < length table) × (n ≡ u8_at table at)
      go true p = (omega (arith, inside-fits table at 1 p), cc)
      go false p = let z : ◌≡◌ {A = ℕ} 0 1 = cc in absurd (omega arith)
