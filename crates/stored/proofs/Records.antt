-- A record gives its line back, and a line that was read gives its record back.
use Prim.Native.Nat.{ℕ, zero, suc, ◌+◌, ◌*◌, ◌/◌, ◌%◌, ◌<◌, ◌≤◌}
use mathlib.Core.Path.{◌≡◌, refl, ◌∙◌, sym, ap, ap₂}
use mathlib.Core.List.{List, ◌∷◌, ◌++◌}
use mathlib.Core.Logic.{⊎_elim}
use native.Mathlib.Nat.{add_assoc, not-suc-le-zero}
use native.Mathlib.Numerals.{add-one}
use native.Mathlib.Omega.{arith}
use lib.ListN.{length, get_or, take, drop, length-append}
use lib.Seq.{take_all, take-add, drop-cons, drop-drop, get_or-take, get_or-append-add, length-take-le, ext_get_or}
use Rattle.laws.proofs.Lists.{get_d_first}
use Rattle.laws.proofs.Choices.{if_lt_yes, if_lt_no}
use Rattle.laws.proofs.Numbers.{lt-or-ge, eq-or-ne}
use Rattle.parse.specs.Reads.{u8_at, u16_at}
use Rattle.line.specs.Line.{Line, Valid, line_of}
use Rattle.stored.specs.Record.{mark, version_of, longest1, word, joined, place_bytes, home_bytes, record_of, size_of}
use Rattle.stored.specs.Reading.{version_in, length_in, characters_in, glyphs_in, tags_in, homes_in, AreBytes, read_line, Known, Accepted}
use Rattle.stored.specs.Entries.{newest_version}
use Rattle.stored.proofs.Written.{length-places, length-homes, record_size}
use Rattle.stored.proofs.Tests.{length_homes_in, get_d_homes_in, get_d_tags_in}
use Rattle.stored.proofs.Got.{length-glyphs_in, get_d_glyphs_in, length-tags_in}
use Rattle.stored.proofs.Exact.{same_once}

-- a number's two bytes say the number
word_back : (n : ℕ) → n / 256 * 256 + n % 256 ≡ n
word_back n = omega arith

-- numbers in joined lists
module _ (xs ys : List ℕ) where
  u16_first : (at : ℕ) → at + 1 < length xs → u16_at (xs ++ ys) at ≡ u16_at xs at
  u16_first at h = ap₂ (λ a b. a * 256 + b) (get_d_first xs ys 0 at (omega arith)) (get_d_first xs ys 0 (at + 1) h)

  u16_behind : (at : ℕ) → u16_at (xs ++ ys) (length xs + at) ≡ u16_at ys at
  u16_behind at =
      ap₂ (λ a b. a * 256 + b) (get_or-append-add xs ys at 0)
      (ap (u8_at (xs ++ ys)) (add_assoc (length xs) at 1) ∙ get_or-append-add xs ys (at + 1) 0)

module _ (f : ℕ → List ℕ) where
  joined-ends : (n k : ℕ) → k < n → length (joined f k) + length (f k) ≤ length (joined f n)
  unfolding joined
  joined-ends zero k h = absurd (not-suc-le-zero h)
  joined-ends (suc n) k h =
      ⊎_elim
      (λ (e : k ≡ n). rw (length-append (joined f n) (f n), e) (omega arith))
      (λ (ne : k ≡ n → ⊥).
      let i = joined-ends n k (omega (arith, ne)) in
      rw (length-append (joined f n) (f n)) (omega arith))
      (eq-or-ne k n)

  u16_joined : (n k at : ℕ) → k < n → at + 1 < length (f k) → u16_at (joined f n) (length (joined f k) + at) ≡ u16_at (f k) at
  unfolding joined
  u16_joined zero k at h i = absurd (not-suc-le-zero h)
  u16_joined (suc n) k at h i =
      ⊎_elim
      (λ (e : k ≡ n). rw e (u16_behind (joined f n) (f n) at))
      (λ (ne : k ≡ n → ⊥).
      let ends = joined-ends n k (omega (arith, ne)) in
      u16_first (joined f n) (f n) (length (joined f k) + at) (omega arith) ∙ u16_joined n k at (omega (arith, ne)) i)
      (eq-or-ne k n)

-- the record of a line, read
module _ (glyphs tags homes : List ℕ) (used : ℕ) where
  abbrev head : List ℕ
  head = mark ++ word (version_of used) ++ word used ++ word (length homes)

  abbrev places : List ℕ
  places = joined (place_bytes glyphs tags) used

  abbrev last : List ℕ
  last = joined (home_bytes homes) (length homes)

  abbrev whole : List ℕ
  whole = record_of (line_of glyphs tags homes used)

  version_back : version_in whole ≡ version_of used
  unfolding record_of
  version_back = word_back (version_of used)

  length_back : length_in whole ≡ used
  unfolding record_of
  length_back = word_back used

  characters-back : characters_in whole ≡ length homes
  unfolding record_of
  characters-back = word_back (length homes)

  behind-head : (at : ℕ) → u16_at whole (9 + at) ≡ u16_at (places ++ last) at
  unfolding record_of
  behind-head at = u16_behind head (places ++ last) at

  place-back : (p at : ℕ) → p < used → at + 1 < 4 → u16_at (places ++ last) (p * 4 + at) ≡ u16_at (place_bytes glyphs tags p) at
  place-back p at h i =
      let start = length-places glyphs tags p in
      u16_first places last (p * 4 + at) (omega (arith, length-places glyphs tags used))
      ∙ (rw start at (u16_joined (place_bytes glyphs tags) used p at h i))

  glyph-back : (p : ℕ) → p < used → u16_at whole (9 + p * 4) ≡ get_or glyphs p 0
  glyph-back p h =
      let e : p * 4 + 0 ≡ p * 4 = omega arith in
      behind-head (p * 4) ∙ (rw e at (place-back p 0 h (omega arith))) ∙ word_back (get_or glyphs p 0)

  tag_back : (p : ℕ) → p < used → u16_at whole (11 + p * 4) ≡ get_or tags p 0
  tag_back p h =
      let e : 11 + p * 4 ≡ 9 + (p * 4 + 2) = omega arith in
      ap (u16_at whole) e ∙ behind-head (p * 4 + 2) ∙ place-back p 2 h (omega arith) ∙ word_back (get_or tags p 0)

  home-back : (c : ℕ) → c < length homes → u16_at whole (9 + used * 4 + c * 2) ≡ get_or homes c 0
  home-back c h =
      let e : 9 + used * 4 + c * 2 ≡ 9 + (used * 4 + c * 2) = omega arith in
      let start = length-homes homes c in
      let i : c * 2 + 0 ≡ c * 2 = omega arith in
      ap (u16_at whole) e
      ∙ behind-head (used * 4 + c * 2)
      ∙ (rw (length-places glyphs tags used) at (u16_behind places last (c * 2)))
      ∙ (rw (start, i) at (u16_joined (home_bytes homes) (length homes) c 0 h (omega arith)))
      ∙ word_back (get_or homes c 0)

  -- its lists, read: the used part of the line's
  glyphs-back : used ≤ length glyphs → glyphs_in whole used ≡ take used glyphs
  glyphs-back h =
      ext_get_or 0 (glyphs_in whole used) (take used glyphs) (length-glyphs_in whole used ∙ sym (length-take-le used glyphs h))
      (λ p i.
      let k : p < used = rw (length-glyphs_in whole used) at i in
      get_d_glyphs_in whole used p k ∙ glyph-back p k ∙ sym (get_or-take used glyphs p 0 k))

  tags-back : used ≤ length tags → tags_in whole used ≡ take used tags
  tags-back h =
      ext_get_or 0 (tags_in whole used) (take used tags) (length-tags_in whole used ∙ sym (length-take-le used tags h))
      (λ p i.
      let k : p < used = rw (length-tags_in whole used) at i in
      get_d_tags_in whole used p k ∙ tag_back p k ∙ sym (get_or-take used tags p 0 k))

  homes-back : homes_in whole used (length homes) ≡ homes
  homes-back =
      ext_get_or 0 (homes_in whole used (length homes)) homes (length_homes_in whole used (length homes))
      (λ c i.
      let k : c < length homes = rw (length_homes_in whole used (length homes)) at i in
      get_d_homes_in whole used (length homes) c k ∙ home-back c k)

  mark-back : take 3 whole ≡ mark
  unfolding record_of
  mark-back = refl

  known-back : Known newest_version (version_of used)
  unfolding version_of newest_version
  known-back =
      ⊎_elim
      (λ (h : longest1 < used). rw (if_lt_yes {A = ℕ} 2 1 h) (record { first = omega arith; last = omega arith }))
      (λ (h : used ≤ longest1). rw (if_lt_no {A = ℕ} 2 1 h) (record { first = omega arith; last = omega arith }))
      (lt-or-ge longest1 used)

  own_back : version_in whole ≡ version_of (length_in whole)
  own_back = rw length_back version_back

  accepted_back : Valid (line_of glyphs tags homes used) → Accepted newest_version whole
  accepted_back v =
      let legal = v.legal in
      record {
        marked = mark-back;
        known = rw version_back known-back;
        own = own_back;
        within = rw length_back (omega (arith, v.within, v.limited));
        whole = rw (length_back, characters-back) (record_size glyphs tags homes used);
        legal =
            rw (length_back, characters-back, homes-back)
            (record {
              once = same_once used tags (tags_in whole used) (λ p h. get_d_tags_in whole used p h ∙ tag_back p h) legal.once;
              housed = legal.housed;
              enough = legal.enough;
            });
      }

-- the record of a legal line is accepted, and gives that line back in any room
pub read_record : (l : Line) → Valid l → (glyphs tags : List ℕ)
    → Accepted newest_version (record_of l)
    × (read_line (record_of l) glyphs tags
    ≡ line_of (take l.used l.glyphs ++ drop l.used glyphs) (take l.used l.tags ++ drop l.used tags) l.homes l.used)
unfolding read_line
read_record l v glyphs tags =
    let gs = l.glyphs in
    let ts = l.tags in
    let hs = l.homes in
    let n = l.used in (
      accepted_back gs ts hs n v,
      rw (
        length_back gs ts hs n,
        characters-back gs ts hs n,
        glyphs-back gs ts hs n v.within,
        tags-back gs ts hs n (omega (arith, v.within, v.paired)),
        homes-back gs ts hs n,
      ),
    )

-- bytes taken apart
module _ (bytes : List ℕ) (small : AreBytes bytes) where
  two : (at : ℕ) → at + 2 ≤ length bytes → word (u16_at bytes at) ≡ take 2 (drop at bytes)
  two at h =
      let a : ℕ = u8_at bytes at in
      let b : ℕ = u8_at bytes (at + 1) in
      let high : (a * 256 + b) / 256 ≡ a = omega (arith, small (at + 1)) in
      let low : (a * 256 + b) % 256 ≡ b = omega (arith, small (at + 1)) in
      let e : drop at bytes ≡ a ∷ b ∷ drop (suc (at + 1)) bytes =
      drop-cons bytes at 0 (omega arith) ∙ ap (λ (r : List ℕ). a ∷ r) (rw (← add-one at) (drop-cons bytes (at + 1) 0 (omega arith))) in
      rw (e, high, low)

  -- one part behind another
  behind : (a b : ℕ) {front new : List ℕ} → front ≡ take a bytes → new ≡ take b (drop a bytes) → front ++ new ≡ take (a + b) bytes
  behind a b f g = rw (f, g) (sym (take-add a b bytes))

  -- parts of one size
  parts4 : (f : ℕ → List ℕ) (at n : ℕ) → ((k : ℕ) → k < n → f k ≡ take 4 (drop (at + k * 4) bytes)) → joined f n ≡ take (n * 4) (drop at bytes)
  unfolding joined
  parts4 f at zero is = refl
  parts4 f at (suc n) is =
      let e : suc n * 4 ≡ n * 4 + 4 = omega arith in
      rw (parts4 f at n (λ k h. is k (omega arith)), is n (omega arith), e, take-add (n * 4) 4 (drop at bytes), drop-drop (n * 4) at bytes)

  parts2 : (f : ℕ → List ℕ) (at n : ℕ) → ((k : ℕ) → k < n → f k ≡ take 2 (drop (at + k * 2) bytes)) → joined f n ≡ take (n * 2) (drop at bytes)
  unfolding joined
  parts2 f at zero is = refl
  parts2 f at (suc n) is =
      let e : suc n * 2 ≡ n * 2 + 2 = omega arith in
      rw (parts2 f at n (λ k h. is k (omega arith)), is n (omega arith), e, take-add (n * 2) 2 (drop at bytes), drop-drop (n * 2) at bytes)

  four : (at : ℕ) → at + 4 ≤ length bytes → word (u16_at bytes at) ++ word (u16_at bytes (at + 2)) ≡ take 4 (drop at bytes)
  four at h =
      ap₂ (λ (a b : List ℕ). a ++ b) (two at (omega arith)) (two (at + 2) (omega arith) ∙ ap (λ (r : List ℕ). take 2 r) (sym (drop-drop 2 at bytes)))
      ∙ sym (take-add 2 2 (drop at bytes))

  module _ {newest : ℕ} (ok : Accepted newest bytes) (glyphs tags : List ℕ) where
    abbrev n : ℕ
    n = length_in bytes

    abbrev c : ℕ
    c = characters_in bytes

    all : length bytes ≡ 9 + n * 4 + c * 2
    unfolding size_of
    all = ok.whole

    head-same : mark ++ word (version_of n) ++ word n ++ word c ≡ take 9 bytes
    head-same =
        rw (← ok.own)
        (behind 7 2 (behind 5 2 (behind 3 2 (sym ok.marked) (two 3 (omega (arith, all)))) (two 5 (omega (arith, all)))) (two 7 (omega (arith, all))))

    place_same : (p : ℕ) → p < n
        → place_bytes (glyphs_in bytes n ++ drop n glyphs) (tags_in bytes n ++ drop n tags) p ≡ take 4 (drop (9 + p * 4) bytes)
    place_same p h =
        let e : 11 + p * 4 ≡ 9 + p * 4 + 2 = omega arith in
        rw (
          get_d_first (glyphs_in bytes n) (drop n glyphs) 0 p (rw (length-glyphs_in bytes n) h),
          get_d_first (tags_in bytes n) (drop n tags) 0 p (rw (length-tags_in bytes n) h),
          get_d_glyphs_in bytes n p h,
          get_d_tags_in bytes n p h,
          e,
        )
        (four (9 + p * 4) (omega (arith, all)))

    home_same : (k : ℕ) → k < c → home_bytes (homes_in bytes n c) k ≡ take 2 (drop (9 + n * 4 + k * 2) bytes)
    home_same k h = rw (get_d_homes_in bytes n c k h) (two (9 + n * 4 + k * 2) (omega (arith, all)))

    -- bytes that are accepted are the record of the line that they give, in any room
    pub record_read : record_of (read_line bytes glyphs tags) ≡ bytes
    unfolding record_of read_line
    record_read =
        rw (length_homes_in bytes n c)
        (behind (9 + n * 4) (c * 2)
        (behind 9 (n * 4) head-same (parts4 (place_bytes (glyphs_in bytes n ++ drop n glyphs) (tags_in bytes n ++ drop n tags)) 9 n place_same))
        (parts2 (home_bytes (homes_in bytes n c)) (9 + n * 4) c home_same)
        ∙ take_all (9 + n * 4 + c * 2) bytes (omega (arith, all)))
