-- Bytes are accepted exactly when they are a record, and the line that is then read is valid.
use Rattle.std.specs.Prelude.{Ok}
use Prim.Native.Nat.{ℕ, ◌<◌, ◌≤◌}
use mathlib.Core.Path.{◌≡◌, refl, ◌∙◌, sym, ap}
use mathlib.Core.Bool.{true, false, not}
use mathlib.Core.List.{List, [], ◌∷◌, ◌++◌}
use native.Mathlib.Omega.{arith}
use lib.Dec.{eqb, leb}
use lib.ListN.{length, get_or, take, drop, length-append, length-drop}
use borrow.Author.Tests.{le-ltb, le-leb, leb-true, eqb-true, eq-eqb, not-false}
use Rattle.answers.proofs.Refusals.{refuse-later, refuse-none, passed_here, passed_later}
use Rattle.answers.specs.Limits.{table_limit, room_limit}
use Rattle.answers.specs.Refuse.{refuse, table_test}
use Rattle.laws.specs.Lists.{both}
use Rattle.laws.proofs.Lists.{both_left, both_right, get_d_first}
use Rattle.line.specs.Line.{Valid, OnceEach}
use Rattle.line.proofs.Exact.{legal_of, of_legal}
use Rattle.line.proofs.Once.{shuffled_once}
use Rattle.stored.specs.Record.{mark, version_of, size_of}
use Rattle.stored.specs.Reading.{version_in, length_in, characters_in, glyphs_in, tags_in, homes_in, read_line, Known, Accepted, is_marked, is_known, is_other, is_own, is_record}
use Rattle.stored.specs.Entries.{record_tests, read_tests}
use Rattle.stored.proofs.Tests.{length_homes_in}
use Rattle.stored.proofs.Got.{length-glyphs_in, length-tags_in}
use Rattle.stored.proofs.Calls.{record_whole, passed_record, passed-paired, passed-limited, passed-within}

no : false ≡ true → ⊥
no e = let z : ◌≡◌ {A = ℕ} 0 1 = cc in omega arith

-- the mark
marked_of : (bytes : List ℕ) → is_marked bytes ≡ true → take 3 bytes ≡ mark
unfolding is_marked
marked_of [] e = absurd (no e)
marked_of (a ∷ []) e = absurd (no (both_right (eqb a 0x53) _ e))
marked_of (a ∷ b ∷ []) e = absurd (no (both_right (eqb b 0x4C) _ (both_right (eqb a 0x53) _ e)))
marked_of (a ∷ b ∷ c ∷ rest) e =
    let f = both_right (eqb a 0x53) _ e in
    rw (
      eqb-true a 0x53 (both_left (eqb a 0x53) _ e),
      eqb-true b 0x4C (both_left (eqb b 0x4C) _ f),
      eqb-true c 0x4E (both_right (eqb b 0x4C) _ f),
    )

pub of_marked : (bytes : List ℕ) → take 3 bytes ≡ mark → is_marked bytes ≡ true
unfolding is_marked
of_marked [] e = let z : ◌≡◌ {A = ℕ} 0 3 = ap length e in absurd (omega arith)
of_marked (a ∷ []) e = let z : ◌≡◌ {A = ℕ} 1 3 = ap length e in absurd (omega arith)
of_marked (a ∷ b ∷ []) e = let z : ◌≡◌ {A = ℕ} 2 3 = ap length e in absurd (omega arith)
of_marked (a ∷ b ∷ c ∷ rest) e =
    let x : a ≡ 0x53 = cc in
    let y : b ≡ 0x4C = cc in
    let z : c ≡ 0x4E = cc in
    rw (eq-eqb a 0x53 x, eq-eqb b 0x4C y, eq-eqb c 0x4E z)

known_of : (newest version : ℕ) → is_known newest version ≡ true → Known newest version
unfolding is_known
known_of newest version e =
    record { first = leb-true _ _ (both_left (leb 1 version) _ e); last = leb-true _ _ (both_right (leb 1 version) _ e) }

of_known : (newest version : ℕ) → Known newest version → is_known newest version ≡ true
unfolding is_known
of_known newest version k = rw (le-leb 1 version k.first, le-leb version newest k.last)

module _ (newest : ℕ) (bytes : List ℕ) where
  -- what is a record, and not of another version, is of one that is known
  is_known_lem : is_record bytes ≡ true → is_marked bytes ≡ true → is_other newest bytes ≡ false → is_known newest (version_in bytes) ≡ true
  unfolding is_other
  is_known_lem r m o =
      let w = record_whole bytes r in
      let e : is_other newest bytes ≡ not (is_known newest (version_in bytes)) = rw (le-leb 5 (length bytes) (omega arith), m) in
      not-false _ (sym e ∙ o)

  pub accepted_of : is_other newest bytes ≡ false → is_record bytes ≡ true → Accepted newest bytes
  unfolding is_record is_own
  accepted_of o r =
      let a = both_right (eqb (length bytes) (size_of (length_in bytes) (characters_in bytes))) _ r in
      let m = both_left (is_marked bytes) _ a in
      let b = both_right (is_marked bytes) _ a in
      let own = both_left (both (eqb (version_in bytes) (version_of (length_in bytes))) (leb (length_in bytes) room_limit)) _ b in
      record {
        marked = marked_of bytes m;
        known = known_of newest (version_in bytes) (is_known_lem r m o);
        own = eqb-true _ _ (both_left (eqb (version_in bytes) (version_of (length_in bytes))) _ own);
        within = leb-true _ _ (both_right (eqb (version_in bytes) (version_of (length_in bytes))) _ own);
        whole = eqb-true _ _ (both_left (eqb (length bytes) (size_of (length_in bytes) (characters_in bytes))) _ r);
        legal =
            legal_of (tags_in bytes (length_in bytes)) (homes_in bytes (length_in bytes) (characters_in bytes)) (length_in bytes)
            (both_right (both (eqb (version_in bytes) (version_of (length_in bytes))) (leb (length_in bytes) room_limit)) _ b);
      }

  module _ (a : Accepted newest bytes) where
    pub accepted_record : is_record bytes ≡ true
    unfolding is_record is_own
    accepted_record =
        rw (
          eq-eqb _ _ a.whole,
          of_marked bytes a.marked,
          eq-eqb _ _ a.own,
          le-leb _ _ a.within,
          of_legal (tags_in bytes (length_in bytes)) (homes_in bytes (length_in bytes) (characters_in bytes)) (length_in bytes) a.legal,
        )

    pub accepted_known : is_other newest bytes ≡ false
    unfolding is_other
    accepted_known =
        let w = record_whole bytes accepted_record in
        rw (le-leb 5 (length bytes) (omega arith), of_marked bytes a.marked, of_known newest (version_in bytes) a.known)

    pub accepted_short : length bytes ≤ table_limit
    unfolding room_limit table_limit
    accepted_short =
        let w = record_whole bytes accepted_record in
        let few = a.legal.enough in
        omega (arith, w, a.within, few, length_homes_in bytes (length_in bytes) (characters_in bytes))

-- none of TABLE, VERSION and RECORD is given exactly when the bytes are a record
pub accepted_exact : (newest : ℕ) (bytes : List ℕ)
    → (refuse (record_tests newest bytes []) ≡ Ok tt → Accepted newest bytes) × (Accepted newest bytes → refuse (record_tests newest bytes []) ≡ (Ok tt))
unfolding record_tests table_test
accepted_exact newest bytes = (
  λ p.
      accepted_of newest bytes (passed_here _ _ (passed_later _ _ p)) (not-false _ (passed_here _ _ (passed_later _ _ (passed_later _ _ p)))),
  λ a.
      refuse-later _ _ (le-ltb _ _ (accepted_short newest bytes a))
      ∙ refuse-later _ _ (accepted_known newest bytes a)
      ∙ refuse-later _ _ (ap not (accepted_record newest bytes a))
      ∙ refuse-none,
)

-- tags that are the same up to a length are once each alike
pub same_once : (n : ℕ) (before after : List ℕ) → ((p : ℕ) → p < n → get_or after p 0 ≡ get_or before p 0) → OnceEach before n → OnceEach after n
same_once n before after is =
    shuffled_once
    (record { to_below = λ p h. h; from_below = λ p h. h; from_to = λ p h. refl; to_from = λ p h. refl })
    before
    after
    is

-- a line that is read is valid, in any room that is not refused
pub read_valid : (newest : ℕ) (bytes glyphs tags homes : List ℕ) → refuse (read_tests newest bytes glyphs tags homes) ≡ Ok tt → Valid (read_line bytes glyphs tags)
unfolding read_line is_record
read_valid newest bytes glyphs tags homes p =
    let n : ℕ = length_in bytes in
    let within = passed-within newest bytes glyphs tags homes p in
    let paired = passed-paired newest bytes glyphs tags homes p in
    let long : length (glyphs_in bytes n ++ drop n glyphs) ≡ length glyphs =
    length-append (glyphs_in bytes n) (drop n glyphs) ∙ rw (length-glyphs_in bytes n, length-drop n glyphs) (omega arith) in
    let wide : length (tags_in bytes n ++ drop n tags) ≡ length tags =
    length-append (tags_in bytes n) (drop n tags) ∙ rw (length-tags_in bytes n, length-drop n tags) (omega arith) in
    let rest = both_right (eqb (length bytes) (size_of n (characters_in bytes))) _ (passed_record newest bytes glyphs tags homes p) in
    let legal = legal_of (tags_in bytes n) (homes_in bytes n (characters_in bytes)) n (both_right (is_own (version_in bytes) n) _ (both_right (is_marked bytes) _ rest)) in
    record {
      paired = wide ∙ paired ∙ sym long;
      limited = rw long (passed-limited newest bytes glyphs tags homes p);
      within = rw long within;
      legal =
          record {
            once =
                same_once n (tags_in bytes n) (tags_in bytes n ++ drop n tags)
                (λ q h. get_d_first (tags_in bytes n) (drop n tags) 0 q (rw (length-tags_in bytes n) h))
                legal.once;
            housed = legal.housed;
            enough = legal.enough;
          };
    }
