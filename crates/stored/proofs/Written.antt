-- Bytes written one behind the other, up to a whole record.
use Prim.Native.Nat.{ℕ, zero, suc, ◌+◌, ◌*◌, ◌<◌, ◌≤◌}
use mathlib.Core.Path.{◌≡◌, refl, ◌∙◌, sym, ap}
use mathlib.Core.List.{List, [], ◌++◌, append_assoc}
use native.Mathlib.Nat.{zero-add}
use native.Mathlib.Numerals.{add-one}
use native.Mathlib.Omega.{arith}
use lib.ListN.{length, take, drop, length-append, length-drop}
use lib.Seq.{length-take-le, take_at, drop_at, drop-drop, sets-eq}
use Rattle.line.specs.Line.{line_of}
use Rattle.stored.specs.Record.{mark, version_of, word, joined, place_bytes, home_bytes, record_of, size_of}
use Rattle.stored.specs.Steps.{put_at}

module _ (xs new : List ℕ) (at : ℕ) (fits : at + length new ≤ length xs) where
  front : length (take at xs ++ new) ≡ at + length new
  front = length-append (take at xs) new ∙ ap (λ (n : ℕ). n + length new) (length-take-le at xs (omega arith))

  pub length-put_at : length (put_at at new xs) ≡ length xs
  unfolding put_at
  length-put_at = length-append (take at xs ++ new) (drop (at + length new) xs) ∙ rw (front, length-drop (at + length new) xs) (omega arith)

  -- more, right behind
  pub put_at-more : (more : List ℕ) → put_at (at + length new) more (put_at at new xs) ≡ put_at at (new ++ more) xs
  unfolding put_at
  put_at-more more =
      let whole : List ℕ = take at xs ++ new ++ drop (at + length new) xs in
      let both : at + length new + length more ≡ at + length (new ++ more) = rw (length-append new more) (omega arith) in
      let behind : drop (at + length new + length more) whole ≡ drop (at + length (new ++ more)) xs =
      sym (drop-drop (length more) (at + length new) whole)
      ∙ ap (λ (z : List ℕ). drop (length more) z) (drop_at (take at xs ++ new) (drop (at + length new) xs) (at + length new) front)
      ∙ drop-drop (length more) (at + length new) xs
      ∙ ap (λ (n : ℕ). drop n xs) both in
      rw (
        take_at (take at xs ++ new) (drop (at + length new) xs) (at + length new) front,
        append_assoc (take at xs) new more,
        behind,
      )

-- at the start
at-start : (new xs : List ℕ) → put_at 0 new xs ≡ new ++ drop (length new) xs
unfolding put_at
at-start new xs = rw (zero-add (length new))

-- the lists of a loop, all of one length
module _ (f : ℕ → List ℕ) where
  pub length-joined : (size : ℕ) → ((k : ℕ) → length (f k) ≡ size) → (n : ℕ) → length (joined f n) ≡ n * size
  unfolding joined
  length-joined size wide zero = omega arith
  length-joined size wide (suc n) = length-append (joined f n) (f n) ∙ rw (length-joined size wide n, wide n) (omega arith)

-- Writing them one behind the other from a place on.
pub record Filling (before : List ℕ) (at : ℕ) (f : ℕ → List ℕ) (count : ℕ) (after : List ℕ) (k : ℕ) : Type 0 where
  pub within : k ≤ count
  pub long : length after ≡ length before
  pub same : after ≡ put_at at (joined f k) before

module _ (before : List ℕ) (at : ℕ) (f : ℕ → List ℕ) (count : ℕ) where
  pub filling_start : at ≤ length before → Filling before at f count before 0
  unfolding put_at joined
  filling_start h = record { within = omega arith; long = refl; same = sets-eq [] before at (omega arith) }

  pub filling_next : {after after' : List ℕ} {k i : ℕ} → Filling before at f count after k → k < count → i ≡ at + length (joined f k)
      → i + length (f k) ≤ length before → after' ≡ put_at i (f k) after → Filling before at f count after' (k + 1)
  unfolding joined
  filling_next {after} {after'} {k} {i} g h e fits w =
      let room : at + length (joined f k) ≤ length before = omega arith in
      let now : after' ≡ put_at at (joined f (suc k)) before =
      w ∙ rw (e, g.same) (put_at-more before (joined f k) at room (f k)) in
      record {
        within = omega arith;
        long = rw w (length-put_at after (f k) i (omega (arith, g.long)) ∙ g.long);
        same = rw (add-one k) now;
      }

  pub filling_done : {after : List ℕ} {k : ℕ} → Filling before at f count after k → count ≤ k → after ≡ put_at at (joined f count) before
  filling_done {after} {k} g h = let e : k ≡ count = omega (arith, g.within) in rw e at g.same

pub length-places : (glyphs tags : List ℕ) (used : ℕ) → length (joined (place_bytes glyphs tags) used) ≡ used * 4
length-places glyphs tags used = length-joined (place_bytes glyphs tags) 4 (λ k. refl) used

pub length-homes : (homes : List ℕ) (count : ℕ) → length (joined (home_bytes homes) count) ≡ count * 2
length-homes homes count = length-joined (home_bytes homes) 2 (λ k. refl) count

-- the two loops
pub place_next : (before glyphs tags : List ℕ) (used : ℕ) {after after' : List ℕ} {p : ℕ} → 9 + used * 4 ≤ length before
    → Filling before 9 (place_bytes glyphs tags) used after p → p < used → after' ≡ put_at (9 + p * 4) (place_bytes glyphs tags p) after
    → Filling before 9 (place_bytes glyphs tags) used after' (p + 1)
place_next before glyphs tags used {p = p} fits g h w =
    filling_next before 9 (place_bytes glyphs tags) used g h (rw (length-places glyphs tags p)) (omega arith) w

pub home_next : (before : List ℕ) (at : ℕ) (homes : List ℕ) {after after' : List ℕ} {c : ℕ} → at + length homes * 2 ≤ length before
    → Filling before at (home_bytes homes) (length homes) after c → c < length homes → after' ≡ put_at (at + c * 2) (home_bytes homes c) after
    → Filling before at (home_bytes homes) (length homes) after' (c + 1)
home_next before at homes {c = c} fits g h w =
    filling_next before at (home_bytes homes) (length homes) g h (rw (length-homes homes c)) (omega arith) w

-- glyph and tag of a place
pub place_put : (xs : List ℕ) (at glyph tag : ℕ) {one two : List ℕ} → at + 4 ≤ length xs → one ≡ put_at at (word glyph) xs
    → two ≡ put_at (at + 2) (word tag) one → two ≡ put_at at (word glyph ++ word tag) xs
place_put xs at glyph tag h e i = i ∙ rw e (put_at-more xs (word glyph) at (omega arith) (word tag))

-- mark, version, length and characters
pub head_put : (xs : List ℕ) (version used characters : ℕ) {one two three four : List ℕ} → 9 ≤ length xs → version ≡ version_of used
    → one ≡ put_at 0 mark xs → two ≡ put_at 3 (word version) one → three ≡ put_at 5 (word used) two → four ≡ put_at 7 (word characters) three
    → four ≡ put_at 0 (mark ++ word (version_of used) ++ word used ++ word characters) xs
head_put xs version used characters h v a b c d =
    rw (← v)
    (d
    ∙ rw (c, b, a, put_at-more xs mark 0 (omega arith) (word version), put_at-more xs (mark ++ word version) 0 (omega arith) (word used))
    (put_at-more xs (mark ++ word version ++ word used) 0 (omega arith) (word characters)))

-- how long a record is
module _ (glyphs tags homes : List ℕ) (used : ℕ) where
  abbrev head : List ℕ
  head = mark ++ word (version_of used) ++ word used ++ word (length homes)

  length_front : length (head ++ joined (place_bytes glyphs tags) used) ≡ 9 + used * 4
  length_front = length-append head (joined (place_bytes glyphs tags) used) ∙ rw (length-places glyphs tags used)

  pub record_size : length (record_of (line_of glyphs tags homes used)) ≡ size_of used (length homes)
  unfolding record_of size_of
  record_size =
      length-append (head ++ joined (place_bytes glyphs tags) used) (joined (home_bytes homes) (length homes))
      ∙ rw (length_front, length-homes homes (length homes))

  -- a record in its parts
  parts_put : (xs : List ℕ) {one two three : List ℕ} → 9 + used * 4 ≤ length xs → one ≡ put_at 0 head xs
      → two ≡ put_at 9 (joined (place_bytes glyphs tags) used) one
      → three ≡ put_at (9 + used * 4) (joined (home_bytes homes) (length homes)) two
      → three ≡ put_at 0 (head ++ joined (place_bytes glyphs tags) used ++ joined (home_bytes homes) (length homes)) xs
  parts_put xs h a b c =
      let places : List ℕ = joined (place_bytes glyphs tags) used in
      let rest : List ℕ = joined (home_bytes homes) (length homes) in
      c
      ∙ rw (b, a, put_at-more xs head 0 (omega arith) places, ← length_front)
      (rw (zero-add (length (head ++ places))) at (put_at-more xs (head ++ places) 0 (omega (arith, length_front)) rest))

  pub record_put : (xs : List ℕ) {one two three : List ℕ} → size_of used (length homes) ≤ length xs → one ≡ put_at 0 head xs
      → two ≡ put_at 9 (joined (place_bytes glyphs tags) used) one
      → three ≡ put_at (9 + used * 4) (joined (home_bytes homes) (length homes)) two
      → three ≡ record_of (line_of glyphs tags homes used) ++ drop (length (record_of (line_of glyphs tags homes used))) xs
  unfolding record_of size_of
  record_put xs h a b c =
      parts_put xs (omega arith) a b c
      ∙ at-start (head ++ joined (place_bytes glyphs tags) used ++ joined (home_bytes homes) (length homes)) xs
