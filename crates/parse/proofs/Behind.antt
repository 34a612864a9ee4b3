-- More bytes behind a table change nothing for what was read without them.
use Rattle.std.specs.Prelude.{Option, Some, None}
use Prim.Native.Nat.{ℕ, ◌+◌, ◌*◌, ◌<◌, ◌≤◌}
use mathlib.Core.Path.{◌≡◌, refl, sym, ◌∙◌, ap, ap₂}
use mathlib.Core.Bool.{Bool, true, false, cond}
use mathlib.Core.List.{List, ◌++◌}
use native.Mathlib.Omega.{arith}
use lib.ListN.{length, get_or, drop, length-append, length-drop, get_or-append}
use lib.Seq.{get_or-drop}
use Rattle.laws.specs.Signed.{signed16}
use Rattle.parse.specs.Reads.{inside, u8_at, u16_at, u32_at, read_u8, read_u16, read_i16, read_u32}
use Rattle.parse.specs.Use.{on_u16, on_u32}
use Rattle.parse.proofs.Laws.{inside_yes, inside-fits}

-- a table begins with these bytes
pub record Begins (own whole : List ℕ) : Type 0 where
  pub fits : length own ≤ length whole
  pub same : (k : ℕ) → k < length own → get_or whole k 0 ≡ get_or own k 0

pub begins-joined : (own behind : List ℕ) → Begins own (own ++ behind)
begins-joined own behind =
    record { fits = omega (arith, length-append own behind); same = λ k h. get_or-append own behind 0 k h }

pub begins_from : {own whole : List ℕ} (start : ℕ) → Begins own whole → Begins (drop start own) (drop start whole)
begins_from {own} {whole} start b =
    record {
      fits = omega (arith, length-drop start own, length-drop start whole, b.fits);
      same = λ k h.
          get_or-drop start whole k 0 ∙ b.same (start + k) (omega (arith, length-drop start own)) ∙ sym (get_or-drop start own k 0);
    }

-- what was made of the own bytes is made of the whole too, unless it is what a failed read gives
abbrev pub Stays : {A : Type 0} → (failed own whole : A) → Type 0
Stays failed own whole = (own ≡ failed → ⊥) → whole ≡ own

-- of either choice, and so of the chosen one
pub choice_stays : {A : Type 0} {failed x x' y y' : A} (t : Bool) → Stays failed x x' → Stays failed y y' → Stays failed (cond t x y) (cond t x' y')
choice_stays true p q = p
choice_stays false p q = q

-- of a number that was read, what is made of it
pub u16_used : {A : Type 0} {failed : A} (r r' : Option ℕ) → Stays None r r' → (f g : ℕ → A) → ((n : ℕ) → Stays failed (f n) (g n))
    → Stays failed (on_u16 r f failed) (on_u16 r' g failed)
u16_used (Some n) r' e f g same not = rw (e (λ p. let z : ◌≡◌ {A = ℕ} 0 1 = cc in omega arith)) (same n not)
u16_used None r' e f g same not = absurd (not refl)

pub u32_used : {A : Type 0} {failed : A} (r r' : Option ℕ) → Stays None r r' → (f g : ℕ → A) → ((n : ℕ) → Stays failed (f n) (g n))
    → Stays failed (on_u32 r f failed) (on_u32 r' g failed)
u32_used (Some n) r' e f g same not = rw (e (λ p. let z : ◌≡◌ {A = ℕ} 0 1 = cc in omega arith)) (same n not)
u32_used None r' e f g same not = absurd (not refl)

module _ {own whole : List ℕ} (b : Begins own whole) where
  pub inside_stays : (at size : ℕ) → inside own at size ≡ true → 0 < size → inside whole at size ≡ true
  inside_stays at size e h =
      inside_yes whole at size (omega (arith, inside-fits own at size e, b.fits)) (omega (arith, inside-fits own at size e, b.fits))

  pub u16_stays : (at : ℕ) → at + 2 ≤ length own → u16_at whole at ≡ u16_at own at
  u16_stays at h = ap₂ (λ x y. x * 256 + y) (b.same at (omega arith)) (b.same (at + 1) (omega arith))

  pub u32_stays : (at : ℕ) → at + 4 ≤ length own → u32_at whole at ≡ u32_at own at
  u32_stays at h = ap₂ (λ x y. x * 65536 + y) (u16_stays at (omega arith)) (u16_stays (at + 2) (omega arith))

  -- reads that do not fail
  pub read_u8_stays : (at : ℕ) → Stays None (read_u8 own at) (read_u8 whole at)
  unfolding read_u8
  read_u8_stays at = go (inside own at 1) refl
    where
      go : (t : Bool) → inside own at 1 ≡ t → Stays None (cond t (Some (u8_at own at)) None) (cond (inside whole at 1) (Some (u8_at whole at)) None)
      go true e not = rw (inside_stays at 1 e (omega arith), b.same at (omega (arith, inside-fits own at 1 e)))
      go false e not = absurd (not refl)

  pub read_u16_stays : (at : ℕ) → Stays None (read_u16 own at) (read_u16 whole at)
  unfolding read_u16
  read_u16_stays at = go (inside own at 2) refl
    where
      go : (t : Bool) → inside own at 2 ≡ t → Stays None (cond t (Some (u16_at own at)) None) (cond (inside whole at 2) (Some (u16_at whole at)) None)
      go true e not = rw (inside_stays at 2 e (omega arith)) (ap Some (u16_stays at (inside-fits own at 2 e)))
      go false e not = absurd (not refl)

  pub read_i16_stays : (at : ℕ) → Stays None (read_i16 own at) (read_i16 whole at)
  unfolding read_i16
  read_i16_stays at = go (inside own at 2) refl
    where
      go : (t : Bool) → inside own at 2 ≡ t
          → Stays None (cond t (Some (signed16 (u16_at own at))) None) (cond (inside whole at 2) (Some (signed16 (u16_at whole at))) None)
      go true e not = rw (inside_stays at 2 e (omega arith)) (ap (λ n. Some (signed16 n)) (u16_stays at (inside-fits own at 2 e)))
      go false e not = absurd (not refl)

  pub read_u32_stays : (at : ℕ) → Stays None (read_u32 own at) (read_u32 whole at)
  unfolding read_u32
  read_u32_stays at = go (inside own at 4) refl
    where
      go : (t : Bool) → inside own at 4 ≡ t → Stays None (cond t (Some (u32_at own at)) None) (cond (inside whole at 4) (Some (u32_at whole at)) None)
      go true e not = rw (inside_stays at 4 e (omega arith)) (ap Some (u32_stays at (inside-fits own at 4 e)))
      go false e not = absurd (not refl)

  -- and what is made of them
  module _ {A : Type 0} {failed : A} (at : ℕ) (f g : ℕ → A) (same : (n : ℕ) → Stays failed (f n) (g n)) where
    pub on_u16_stays : Stays failed (on_u16 (read_u16 own at) f failed) (on_u16 (read_u16 whole at) g failed)
    on_u16_stays = u16_used (read_u16 own at) (read_u16 whole at) (read_u16_stays at) f g same

    pub on_u32_stays : Stays failed (on_u32 (read_u32 own at) f failed) (on_u32 (read_u32 whole at) g failed)
    on_u32_stays = u32_used (read_u32 own at) (read_u32 whole at) (read_u32_stays at) f g same
