-- The tests of bytes that may be a record, in the order of the code.
use Prim.Native.Nat.{ℕ, ◌+◌, ◌*◌, ◌<◌, ◌≤◌}
use mathlib.Core.Path.{◌≡◌, ◌∙◌, sym}
use mathlib.Core.Bool.{true, false}
use mathlib.Core.List.{List}
use native.Mathlib.Numerals.{add-one}
use native.Mathlib.Omega.{arith}
use lib.Dec.{ltb, eqb}
use lib.ListN.{length, get_or}
use borrow.Author.Tests.{lt-ltb, le-ltb, leb-true}
use Rattle.answers.specs.Limits.{room_limit}
use Rattle.laws.specs.Lists.{every}
use Rattle.laws.proofs.Lists.{both_right, length-tab, get_d_tab, every-none, every_more, every_fails}
use Rattle.parse.specs.Reads.{u16_at}
use Rattle.line.specs.Test.{are_housed}
use Rattle.stored.specs.Record.{version_of}
use Rattle.stored.specs.Reading.{tags_in, homes_in, is_own}

pub length_homes_in : (bytes : List ℕ) (used characters : ℕ) → length (homes_in bytes used characters) ≡ characters
unfolding homes_in
length_homes_in bytes used characters = length-tab _ characters

pub get_d_homes_in : (bytes : List ℕ) (used characters c : ℕ) → c < characters → get_or (homes_in bytes used characters) c 0 ≡ u16_at bytes (9 + used * 4 + c * 2)
unfolding homes_in
get_d_homes_in bytes used characters c h = get_d_tab _ characters c 0 h

pub get_d_tags_in : (bytes : List ℕ) (used p : ℕ) → p < used → get_or (tags_in bytes used) p 0 ≡ u16_at bytes (11 + p * 4)
unfolding tags_in
get_d_tags_in bytes used p h = get_d_tab _ used p 0 h

pub tag_read : (bytes : List ℕ) (used p : ℕ) {tag : ℕ} → p < used → tag ≡ u16_at bytes (11 + p * 4) → tag ≡ get_or (tags_in bytes used) p 0
tag_read bytes used p h e = e ∙ sym (get_d_tags_in bytes used p h)

-- The loop over the homes: each of the first c is below the used length.
pub record Housing (bytes : List ℕ) (used characters c : ℕ) : Type 0 where
  pub within : c ≤ characters
  pub so_far : every (λ k. ltb (get_or (homes_in bytes used characters) k 0) used) c ≡ true

module _ (bytes : List ℕ) (used characters : ℕ) where
  pub housing_start : Housing bytes used characters 0
  housing_start = record { within = omega arith; so_far = every-none _ }

  module _ {c home : ℕ} (g : Housing bytes used characters c) (more : c < characters) (e : home ≡ u16_at bytes (9 + used * 4 + c * 2)) where
    same_home : get_or (homes_in bytes used characters) c 0 ≡ home
    same_home = get_d_homes_in bytes used characters c more ∙ sym e

    pub housing_out : used ≤ home → false ≡ are_housed (homes_in bytes used characters) used
    unfolding are_housed
    housing_out h =
        sym (every_fails _ (length (homes_in bytes used characters)) c (rw same_home (le-ltb home used h)) (rw (length_homes_in bytes used characters) more))

    pub housing_next : home < used → Housing bytes used characters (c + 1)
    housing_next h =
        record {
          within = omega arith;
          so_far = rw (add-one c) (every_more _ c g.so_far (rw same_home (lt-ltb home used h)));
        }

  pub housing_done : {c : ℕ} → Housing bytes used characters c → characters ≤ c → true ≡ are_housed (homes_in bytes used characters) used
  unfolding are_housed
  housing_done {c} g h =
      let e : c ≡ length (homes_in bytes used characters) = omega (arith, g.within, length_homes_in bytes used characters) in
      sym (rw e at g.so_far)

-- a length that a version has is within any room
pub own_fits : (version used : ℕ) → is_own version used ≡ true → used ≤ room_limit
unfolding is_own
own_fits version used e = leb-true _ _ (both_right (eqb version (version_of used)) _ e)
