-- The line of a record, taken from its bytes into the room that is lent.
use Prim.Native.Nat.{ℕ, ◌+◌, ◌*◌, ◌<◌, ◌≤◌}
use mathlib.Core.Path.{◌≡◌, ◌∙◌, sym}
use mathlib.Core.List.{List, ◌++◌}
use native.Mathlib.Nat.{zero-add}
use native.Mathlib.Omega.{arith}
use lib.ListN.{length, get_or, drop, set}
use lib.Seq.{take_all}
use Rattle.laws.proofs.Lists.{length-tab, get_d_tab}
use Rattle.parse.specs.Reads.{u16_at}
use Rattle.line.proofs.Loops.{Pasting, pasting_next, pasting_done}
use Rattle.stored.specs.Reading.{glyphs_in, tags_in, homes_in}
use Rattle.stored.proofs.Tests.{length_homes_in, get_d_homes_in, get_d_tags_in}

pub length-glyphs_in : (bytes : List ℕ) (used : ℕ) → length (glyphs_in bytes used) ≡ used
unfolding glyphs_in
length-glyphs_in bytes used = length-tab _ used

pub get_d_glyphs_in : (bytes : List ℕ) (used p : ℕ) → p < used → get_or (glyphs_in bytes used) p 0 ≡ u16_at bytes (9 + p * 4)
unfolding glyphs_in
get_d_glyphs_in bytes used p h = get_d_tab _ used p 0 h

pub length-tags_in : (bytes : List ℕ) (used : ℕ) → length (tags_in bytes used) ≡ used
unfolding tags_in
length-tags_in bytes used = length-tab _ used

-- a list that is written from the start on, and what is left behind it
module _ (before new : List ℕ) (count : ℕ) (long : length new ≡ count) where
  next : {after : List ℕ} {k x : ℕ} → count ≤ length before → Pasting before 0 new count after k → k < count → x ≡ get_or new k 0
      → Pasting before 0 new count (set after k x) (k + 1)
  next {k = k} fits g h e = pasting_next before 0 new count long (omega arith) g h (sym (zero-add k)) e

  done : {after : List ℕ} {k : ℕ} → Pasting before 0 new count after k → count ≤ k → after ≡ new ++ drop count before
  done g h = pasting_done before 0 new count g h ∙ rw (zero-add count, take_all count new (omega arith))

module _ (bytes before : List ℕ) (used : ℕ) where
  pub glyph_next : {after : List ℕ} {p glyph : ℕ} → used ≤ length before → Pasting before 0 (glyphs_in bytes used) used after p → p < used
      → glyph ≡ u16_at bytes (9 + p * 4) → Pasting before 0 (glyphs_in bytes used) used (set after p glyph) (p + 1)
  glyph_next {p = p} fits g h e = next before (glyphs_in bytes used) used (length-glyphs_in bytes used) fits g h (e ∙ sym (get_d_glyphs_in bytes used p h))

  pub glyphs_done : {after : List ℕ} {p : ℕ} → Pasting before 0 (glyphs_in bytes used) used after p → used ≤ p
      → after ≡ glyphs_in bytes used ++ drop used before
  glyphs_done g h = done before (glyphs_in bytes used) used (length-glyphs_in bytes used) g h

  pub tag_next : {after : List ℕ} {p tag : ℕ} → used ≤ length before → Pasting before 0 (tags_in bytes used) used after p → p < used
      → tag ≡ u16_at bytes (11 + p * 4) → Pasting before 0 (tags_in bytes used) used (set after p tag) (p + 1)
  tag_next {p = p} fits g h e = next before (tags_in bytes used) used (length-tags_in bytes used) fits g h (e ∙ sym (get_d_tags_in bytes used p h))

  pub tags_done : {after : List ℕ} {p : ℕ} → Pasting before 0 (tags_in bytes used) used after p → used ≤ p → after ≡ tags_in bytes used ++ drop used before
  tags_done g h = done before (tags_in bytes used) used (length-tags_in bytes used) g h

  module _ (characters : ℕ) where
    pub home_next : {after : List ℕ} {c home : ℕ} → characters ≤ length before → Pasting before 0 (homes_in bytes used characters) characters after c
        → c < characters → home ≡ u16_at bytes (9 + used * 4 + c * 2)
        → Pasting before 0 (homes_in bytes used characters) characters (set after c home) (c + 1)
    home_next {c = c} fits g h e =
        next before (homes_in bytes used characters) characters (length_homes_in bytes used characters) fits g h
        (e ∙ sym (get_d_homes_in bytes used characters c h))

    pub homes_done : {after : List ℕ} {c : ℕ} → Pasting before 0 (homes_in bytes used characters) characters after c → characters ≤ c
        → after ≡ homes_in bytes used characters ++ drop characters before
    homes_done g h = done before (homes_in bytes used characters) characters (length_homes_in bytes used characters) g h
