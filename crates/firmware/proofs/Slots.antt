-- The loops over the 32 slots of a stack that crosses as numbers.
use Prim.Native.Nat.{ℕ, ◌+◌, ◌<◌, ◌≤◌}
use mathlib.Core.Path.{◌≡◌, refl, sym, ◌∙◌, ap}
use mathlib.Core.Bool.{Bool, true, false}
use mathlib.Core.List.{List}
use native.Mathlib.Nat.{zero-add}
use native.Mathlib.Numerals.{add-one}
use native.Mathlib.Omega.{arith}
use borrow.Author.Tests.{lt-ltb, le-ltb, ltb-true}
use lib.Dec.{ltb}
use lib.ListN.{length, get_or, set}
use lib.Seq.{paste}
use Rattle.laws.specs.Lists.{every}
use Rattle.laws.proofs.Lists.{every-at, every-none, every_more, every_fails, length-tab, get_d_tab}
use Rattle.line.proofs.Loops.{Pasting, pasting_next, pasting_done, paste_over}
use Rattle.firmware.specs.Steps.{slots_from, are_glyphs}

module _ (slots : List ℕ) (from : ℕ) where
  abbrev fits : ℕ → Bool
  fits slot = ltb (get_or slots (from + slot) 0) 0x10000

  -- the slots before this one are no wider than a glyph
  pub record Fitting (slot : ℕ) : Type 0 where
    pub within : slot ≤ 32
    pub all : every fits slot ≡ true

  pub fitting_start : Fitting 0
  fitting_start = record { within = omega arith; all = every-none fits }

  pub fitting_more : {slot : ℕ} → Fitting slot → slot < 32 → get_or slots (from + slot) 0 ≤ 0xFFFF → Fitting (slot + 1)
  fitting_more {slot} f h k =
      record { within = omega arith; all = ap (every fits) (add-one slot) ∙ every_more fits slot f.all (lt-ltb (get_or slots (from + slot) 0) 0x10000 (omega arith)) }

  pub fitting_fails : (slot : ℕ) → slot < 32 → 0xFFFF < get_or slots (from + slot) 0 → false ≡ are_glyphs slots from
  unfolding are_glyphs
  fitting_fails slot h k = sym (every_fails fits 32 slot (le-ltb (get_or slots (from + slot) 0) 0x10000 (omega arith)) h)

  pub fitting_done : {slot : ℕ} → Fitting slot → 32 ≤ slot → true ≡ are_glyphs slots from
  unfolding are_glyphs
  fitting_done {slot} f h = let e : slot ≡ 32 = omega (arith, f.within) in sym (ap (every fits) (sym e) ∙ f.all)

  pub glyph-fits : (slot : ℕ) → are_glyphs slots from ≡ true → slot < 32 → get_or slots (from + slot) 0 ≤ 0xFFFF
  unfolding are_glyphs
  glyph-fits slot e h = let k : get_or slots (from + slot) 0 < 0x10000 = ltb-true _ _ (every-at fits 32 slot e h) in omega arith

  -- numbers copied into an array of 32
  length-slots : length (slots_from slots from) ≡ 32
  unfolding slots_from
  length-slots = length-tab _ 32

  pub copied_more : {before after : List ℕ} {slot : ℕ} → length before ≡ 32 → Pasting before 0 (slots_from slots from) 32 after slot → slot < 32
      → Pasting before 0 (slots_from slots from) 32 (set after slot (get_or slots (from + slot) 0)) (slot + 1)
  unfolding slots_from
  copied_more {before} {after} {slot} n p h =
      pasting_next before 0 (slots_from slots from) 32 length-slots (omega arith) p h (sym (zero-add slot)) (sym (get_d_tab _ 32 slot 0 h))

  pub copied : {before after : List ℕ} {slot : ℕ} → length before ≡ 32 → Pasting before 0 (slots_from slots from) 32 after slot → 32 ≤ slot
      → after ≡ slots_from slots from
  copied {before} {after} n p h =
      pasting_done before 0 (slots_from slots from) 32 p h
      ∙ ap (paste before 0 (slots_from slots from)) (sym n)
      ∙ paste_over before (slots_from slots from) (length-slots ∙ sym n)

-- an array of 32 copied into the slots
module _ (before new : List ℕ) (from : ℕ) where
  pub put_more : {after : List ℕ} {slot number : ℕ} → from + 32 ≤ length before → length new ≡ 32 → Pasting before from new 32 after slot → slot < 32
      → number ≡ get_or new slot 0 → Pasting before from new 32 (set after (from + slot) number) (slot + 1)
  put_more f n p h e = pasting_next before from new 32 n f p h refl e

  pub put_done : {after : List ℕ} {slot : ℕ} → Pasting before from new 32 after slot → 32 ≤ slot → after ≡ paste before from new 32
  put_done p h = pasting_done before from new 32 p h
