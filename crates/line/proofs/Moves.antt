-- One change: the line stays valid in its room, and every character goes where the history says.
use Prim.Native.Nat.{ℕ, suc, ◌+◌, ◌-◌, ◌<◌, ◌≤◌, min}
use mathlib.Core.Path.{◌≡◌, refl, ◌∙◌, sym}
use mathlib.Core.List.{List, [], ◌∷◌}
use mathlib.Core.Logic.{⊎_elim}
use native.Mathlib.Nat.{add-zero}
use native.Mathlib.Omega.{arith}
use lib.ListN.{length, get_or}
use Rattle.laws.specs.Backward.{backward}
use Rattle.laws.proofs.Backward.{length-backward, backward-inside}
use Rattle.laws.proofs.Numbers.{lt-or-ge}
use Rattle.verbs.specs.Verbs.{place_of, from_of}
use Rattle.verbs.proofs.Laws.{place_of-below, from_of-below, place_of_outside, from_of_outside, from_place, place_from_lem}
use Rattle.line.specs.Line.{Line, line_of, Valid, Belongs}
use Rattle.line.specs.Edits.{Edit, width_of, carry, carry_all, added, inserted}
use Rattle.line.specs.Changes.{Change, edits_of, apply, windowed, spliced, numbers_from, joined_glyphs, joined_homes, written}
use Rattle.line.proofs.Slices.{beyond, beyond_before, beyond_from, beyond_back, length-windowed, get_d_windowed, length-spliced}
use Rattle.line.proofs.Once.{Shuffle, shuffled_there, shuffled_once, spliced-there, spliced-below, spliced-once, length-numbers_from}
use Rattle.line.proofs.Joins.{length-written, length-joined_glyphs, length-joined_homes, joined-there, joined-below}

-- the line l' is valid, in the room of l, with its characters, so many places more, and each of them where `to` takes its place
pub record Moved (l : Line) (to : ℕ → ℕ) (more : ℕ) (l' : Line) : Type 0 where
  pub valid : Valid l'
  pub same : length l'.glyphs ≡ length l.glyphs
  pub all : length l'.homes ≡ length l.homes
  pub long : l'.used ≡ l.used + more
  pub goes : (c p : ℕ) → Belongs l c p → Belongs l' c (to p)

-- places shuffled
module _ (l : Line) (v : Valid l) (to from : ℕ → ℕ) (s : Shuffle l.used to from) (glyphs tags : List ℕ)
    (as_many : length glyphs ≡ length l.glyphs) (as-many' : length tags ≡ length l.tags)
    (is : (p : ℕ) → p < l.used → get_or tags p 0 ≡ get_or l.tags (from p) 0) where
  shuffled_moved : Moved l to 0 (line_of glyphs tags l.homes l.used)
  shuffled_moved =
      record {
        valid =
            record {
              paired = as-many' ∙ v.paired ∙ sym as_many;
              limited = rw as_many v.limited;
              within = rw as_many v.within;
              legal =
                  record {
                    once = shuffled_once s l.tags tags is v.legal.once;
                    housed = v.legal.housed;
                    enough = v.legal.enough;
                  };
            };
        same = as_many;
        all = refl;
        long = omega arith;
        goes = λ c p b.
            record {
              character = b.character;
              inside = s.to_below p b.inside;
              home = shuffled_there s l.tags tags is p b.inside ∙ b.home;
            };
      }

-- a window's verb is such a shuffle
module _ (first last verb n : ℕ) where
  abbrev width : ℕ
  width = width_of first last n

  within-line : 0 < width → first + width ≤ n
  unfolding width_of
  within-line h = omega arith

  beyond_below : (f : ℕ → ℕ) → ((k : ℕ) → k < width → f k < width) → ((k : ℕ) → width ≤ k → f k ≡ k) → (p : ℕ) → p < n → beyond first f p < n
  beyond_below f below outside p h =
      ⊎_elim
      (λ (k : p < first). rw (beyond_before first f p k) h)
      (λ (k : first ≤ p).
      rw (beyond_from first f p k)
      (⊎_elim
      (λ (i : p - first < width). omega (arith, below (p - first) i, within-line (omega arith)))
      (λ (i : width ≤ p - first). rw (outside (p - first) i) (omega arith))
      (lt-or-ge (p - first) width)))
      (lt-or-ge p first)

  window_shuffle : Shuffle n (beyond first (place_of verb width)) (beyond first (from_of verb width))
  window_shuffle =
      record {
        to_below = beyond_below (place_of verb width) (place_of-below verb width) (place_of_outside verb width);
        from_below = beyond_below (from_of verb width) (from_of-below verb width) (from_of_outside verb width);
        from_to = λ p h. beyond_back first (place_of verb width) (from_of verb width) p (from_place verb width);
        to_from = λ p h. beyond_back first (from_of verb width) (place_of verb width) p (place_from_lem verb width);
      }

-- and so is a reversal
back_shuffle : (n : ℕ) → Shuffle n (λ p. n - suc p) (λ p. n - suc p)
back_shuffle n =
    record {
      to_below = λ p h. omega arith;
      from_below = λ p h. omega arith;
      from_to = λ p h. omega arith;
      to_from = λ p h. omega arith;
    }

module _ (l : Line) (v : Valid l) where
  tags-long : l.used ≤ length l.tags
  tags-long = rw v.paired v.within

  window-moved : (first last verb : ℕ) → Moved l (carry_all (Edit.window first last verb ∷ []) l.used) 0 (apply (Change.window first last verb) l)
  unfolding apply carry carry_all
  window-moved first last verb =
      shuffled_moved l v
      (beyond first (place_of verb (width_of first last l.used)))
      (beyond first (from_of verb (width_of first last l.used)))
      (window_shuffle first last verb l.used)
      (windowed first (width_of first last l.used) verb l.glyphs)
      (windowed first (width_of first last l.used) verb l.tags)
      (length-windowed first (width_of first last l.used) verb l.glyphs)
      (length-windowed first (width_of first last l.used) verb l.tags)
      (λ p h. get_d_windowed first (width_of first last l.used) verb l.tags p (omega (arith, tags-long)))

  reversal-moved : Moved l (carry_all (Edit.reversal ∷ []) l.used) 0 (apply Change.reversal l)
  unfolding apply carry carry_all
  reversal-moved =
      shuffled_moved l v (λ p. l.used - suc p) (λ p. l.used - suc p) (back_shuffle l.used)
      (backward l.used l.glyphs)
      (backward l.used l.tags)
      (length-backward 0 l.used l.glyphs v.within)
      (length-backward 0 l.used l.tags tags-long)
      (λ p h. backward-inside 0 l.used l.tags tags-long p h)

  insertion-moved : (at : ℕ) (new : List ℕ) → l.used + length new ≤ length l.glyphs
      → Moved l (carry_all (Edit.insertion at (length new) ∷ []) l.used) (length new) (apply (Change.insertion at new) l)
  unfolding apply carry carry_all
  insertion-moved at new fits =
      let n = l.used in
      let place = min at n in
      let fits' : n + length new ≤ length l.tags = rw v.paired fits in
      let tags = numbers_from n (length new) in
      let long : length (spliced place n new l.glyphs) ≡ length l.glyphs =
      length-spliced place n new l.glyphs (omega arith) fits in
      record {
        valid =
            record {
              paired =
                  length-spliced place n tags l.tags (omega arith) (rw (length-numbers_from n (length new)) fits') ∙ v.paired ∙ sym long;
              limited = rw long v.limited;
              within = rw long fits;
              legal =
                  record {
                    once = spliced-once place n (length new) l.tags (omega arith) fits' v.legal.once;
                    housed = λ c h. omega (arith, v.legal.housed c h);
                    enough = omega (arith, v.legal.enough);
                  };
            };
        same = long;
        all = refl;
        long = refl;
        goes = λ c p b.
            record {
              character = b.character;
              inside = spliced-below place n (length new) l.tags (omega arith) fits' p b.inside;
              home = spliced-there place n (length new) l.tags (omega arith) fits' p b.inside ∙ b.home;
            };
      }

  ligature-moved : (at glyph : ℕ) (parts : List ℕ)
      → Moved l (carry_all (Edit.ligature at parts ∷ []) l.used) 0 (apply (Change.ligature at glyph parts) l)
  unfolding apply carry_all
  ligature-moved at glyph parts =
      let n = l.used in
      let o = v.legal.once in
      let long : length (joined_glyphs n at glyph parts l.glyphs) ≡ length l.glyphs =
      length-joined_glyphs n at glyph parts l.glyphs in
      let all : length (joined_homes n at parts l.tags l.homes) ≡ length l.homes =
      length-joined_homes n at parts l.tags l.homes in
      let there : (c p : ℕ) → c < length l.homes → p < n → get_or l.homes c 0 ≡ get_or l.tags p 0
      → get_or (joined_homes n at parts l.tags l.homes) c 0 ≡ get_or l.tags (carry (Edit.ligature at parts) n p) 0 =
      λ c p. joined-there n at parts l.tags l.homes o c p in
      record {
        valid =
            record {
              paired = v.paired ∙ sym long;
              limited = rw long v.limited;
              within = rw long v.within;
              legal =
                  record {
                    once = o;
                    housed = λ c h.
                        let hc : c < length l.homes = rw all at h in
                        let home = v.legal.housed c hc in
                        let p = o.place (get_or l.homes c 0) in
                        rw (there c p hc (o.inside _ home) (sym (o.there _ home)))
                        (o.below (carry (Edit.ligature at parts) n p) (joined-below n at parts p (o.inside _ home)));
                    enough = rw all v.legal.enough;
                  };
            };
        same = long;
        all = all;
        long = omega arith;
        goes = λ c p b.
            record {
              character = rw all b.character;
              inside = joined-below n at parts p b.inside;
              home = sym (there c p b.character b.inside (sym b.home));
            };
      }

  write-moved : (at glyph : ℕ) → Moved l (carry_all [] l.used) 0 (apply (Change.write at glyph) l)
  unfolding apply carry_all
  write-moved at glyph =
      let long : length (written l.used at glyph l.glyphs) ≡ length l.glyphs = length-written l.used at glyph l.glyphs in
      record {
        valid = record { paired = v.paired ∙ sym long; limited = rw long v.limited; within = rw long v.within; legal = v.legal };
        same = long;
        all = refl;
        long = omega arith;
        goes = λ c p b. record { character = b.character; inside = b.inside; home = b.home };
      }

-- any change that fits the room
pub change-moved : (change : Change) (l : Line) → Valid l → l.used + inserted (edits_of change) ≤ length l.glyphs
    → Moved l (carry_all (edits_of change) l.used) (inserted (edits_of change)) (apply change l)
unfolding edits_of inserted added
change-moved (Change.window first last verb) l v fits = window-moved l v first last verb
change-moved Change.reversal l v fits = reversal-moved l v
change-moved (Change.insertion at new) l v fits = rw (add-zero (length new)) (insertion-moved l v at new (rw (add-zero (length new)) at fits))
change-moved (Change.ligature at glyph parts) l v fits = ligature-moved l v at glyph parts
change-moved (Change.write at glyph) l v fits = write-moved l v at glyph
