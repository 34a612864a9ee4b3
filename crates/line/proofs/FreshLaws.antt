-- The fresh line: its ways out, and that a line that is not refused is valid, each character at its own place.
use Rattle.std.specs.Prelude.{Ok}
use Prim.Native.Nat.{ℕ, ◌<◌, ◌≤◌}
use mathlib.Core.Path.{◌≡◌, ◌∙◌, sym, ap}
use mathlib.Core.Bool.{not}
use mathlib.Core.List.{List, ◌++◌}
use native.Mathlib.Nat.{zero-add}
use native.Mathlib.Omega.{arith}
use lib.ListN.{length, get_or, take, drop, length-append, length-drop}
use lib.Seq.{take-length, paste}
use borrow.Author.Tests.{le-ltb, eq-eqb, ltb-false, eqb-true, not-false}
use Rattle.answers.proofs.Refusals.{refuse-later, refuse-none, passed_here, passed_later}
use Rattle.answers.specs.Limits.{room_limit}
use Rattle.answers.specs.Refuse.{refuse}
use Rattle.laws.proofs.Lists.{get_d_first}
use Rattle.line.specs.Line.{Valid, Belongs}
use Rattle.line.specs.Changes.{numbers_from}
use Rattle.line.specs.Entries.{fresh_of, fresh_tests}
use Rattle.line.proofs.Once.{length-numbers_from, get_d_numbers_from}
use Rattle.line.proofs.Loops.{paste_over}
use Rattle.line.proofs.Room.{room_small}

-- the tests pass where each of them does
pub fresh-passed : (glyphs tags homes : List ℕ) → length tags ≡ length glyphs → length glyphs ≤ room_limit → length homes ≤ length glyphs
    → Ok tt ≡ refuse (fresh_tests glyphs tags homes)
unfolding fresh_tests
fresh-passed glyphs tags homes paired h k =
    sym
    (refuse-later _ _ (ap not (eq-eqb _ _ paired)) ∙ refuse-later _ _ (le-ltb _ _ h) ∙ refuse-later _ _ (le-ltb _ _ k) ∙ refuse-none)

-- tags and homes, numbered
pub numbered_from : (tags : List ℕ) (count : ℕ) → paste tags 0 (numbers_from 0 count) count ≡ numbers_from 0 count ++ drop count tags
numbered_from tags count =
    let n : length (numbers_from 0 count) ≡ count = length-numbers_from 0 count in
    let whole : take count (numbers_from 0 count) ≡ numbers_from 0 count =
    ap (λ (m : ℕ). take m (numbers_from 0 count)) (sym n) ∙ take-length (numbers_from 0 count) in
    rw (zero-add count, whole)

pub numbered_over : (homes : List ℕ) → paste homes 0 (numbers_from 0 (length homes)) (length homes) ≡ numbers_from 0 (length homes)
numbered_over homes = paste_over homes (numbers_from 0 (length homes)) (length-numbers_from 0 (length homes))

numbered : (n k : ℕ) → k < n → get_or (numbers_from 0 n) k 0 ≡ k
numbered n k h = get_d_numbers_from 0 n k h ∙ zero-add k

module _ (glyphs tags homes : List ℕ) (taken : refuse (fresh_tests glyphs tags homes) ≡ (Ok tt)) where
  lengths : length tags ≡ length glyphs
  unfolding fresh_tests
  lengths = eqb-true _ _ (not-false _ (passed_here _ _ taken))

  limited : length glyphs ≤ room_limit
  unfolding fresh_tests
  limited = ltb-false _ _ (passed_here _ _ (passed_later _ _ taken))

  roomy : length homes ≤ length glyphs
  unfolding fresh_tests
  roomy = ltb-false _ _ (passed_here _ _ (passed_later _ _ (passed_later _ _ taken)))

  tag_there : (p : ℕ) → p < length homes → get_or (numbers_from 0 (length homes) ++ drop (length homes) tags) p 0 ≡ p
  tag_there p h =
      get_d_first (numbers_from 0 (length homes)) (drop (length homes) tags) 0 p (rw (length-numbers_from 0 (length homes)) h)
      ∙ numbered (length homes) p h

  pub fresh-valid : Valid (fresh_of glyphs tags homes)
  unfolding fresh_of
  fresh-valid =
      let n = length homes in
      record {
        paired =
            length-append (numbers_from 0 n) (drop n tags) ∙ rw (length-numbers_from 0 n, length-drop n tags) (omega (arith, lengths, roomy));
        limited = limited;
        within = roomy;
        legal =
            record {
              once =
                  record {
                    place = λ t. t;
                    below = λ p h. rw (tag_there p h) h;
                    back = tag_there;
                    inside = λ t h. h;
                    there = tag_there;
                  };
              housed = λ c h. let k : c < n = rw (length-numbers_from 0 n) at h in rw (numbered n c k) k;
              enough = omega (arith, length-numbers_from 0 n);
            };
      }

  pub fresh-characters : length (fresh_of glyphs tags homes).homes ≡ length homes
  unfolding fresh_of
  fresh-characters = length-numbers_from 0 (length homes)

  pub fresh_starts : (c : ℕ) → c < length (fresh_of glyphs tags homes).homes → Belongs (fresh_of glyphs tags homes) c c
  unfolding fresh_of
  fresh_starts c h =
      let k : c < length homes = rw (length-numbers_from 0 (length homes)) at h in
      record { character = h; inside = k; home = tag_there c k ∙ sym (numbered (length homes) c k) }

-- so that there is room for the numbers, and each is one of 16 bits
pub fresh_fits : (glyphs tags homes : List ℕ) → refuse (fresh_tests glyphs tags homes) ≡ Ok tt → (length homes ≤ length tags) × (length homes ≤ 65535)
fresh_fits glyphs tags homes taken =
    omega (arith, room_small, lengths glyphs tags homes taken, roomy glyphs tags homes taken, limited glyphs tags homes taken)
