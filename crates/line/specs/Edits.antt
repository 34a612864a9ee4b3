-- The history: document 01's four kinds of edit, and where each takes a place. It speaks of places and lengths alone.
use Rattle.std.specs.Prelude.{ℕ, suc, ◌+◌, ◌-◌, min, Bool, true, false, cond, List, [], ◌∷◌, eqb}
use Rattle.laws.specs.Choose.{if_lt}
use Rattle.verbs.specs.Verbs.{place_of}

-- a window with its verb, a reversal, an insertion's place and count, a ligature's place with its components
pub data Edit : Type 0 where
  window : (first last verb : ℕ) → Edit
  reversal : Edit
  insertion : (at count : ℕ) → Edit
  ligature : (at : ℕ) → (parts : List ℕ) → Edit

-- how many places a window has in a line of n places, to which its end is cut
unfoldable pub width_of : (first last n : ℕ) → ℕ
width_of first last n = min (suc last) n - first

-- the place is one of the components
unfoldable pub among : ℕ → List ℕ → Bool
among p [] = false
among p (part ∷ parts) = cond (eqb p part) true (among p parts)

-- where an edit of a line of n places takes the place p
unfoldable pub carry : Edit → (n p : ℕ) → ℕ
carry (window first last verb) n p = if_lt p first p (first + place_of verb (width_of first last n) (p - first))
carry reversal n p = n - suc p
carry (insertion at count) n p = if_lt p (min at n) p (p + count)
carry (ligature at parts) n p = if_lt at n (cond (among p parts) at p) p

-- how many places an edit adds
unfoldable pub added : Edit → ℕ
added (window first last verb) = 0
added reversal = 0
added (insertion at count) = count
added (ligature at parts) = 0

-- how many glyphs a history inserts
unfoldable pub inserted : List Edit → ℕ
inserted [] = 0
inserted (e ∷ es) = added e + inserted es

-- where a history that begins at n places takes the place p
unfoldable pub carry_all : List Edit → (n p : ℕ) → ℕ
carry_all [] n p = p
carry_all (e ∷ es) n p = carry_all es (n + added e) (carry e n p)
