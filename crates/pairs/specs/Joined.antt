-- Joined pairs as a property of places, and what it is that some additions are those of some pairs.
use Rattle.tables.specs.declared.lookup.Why.{Why}
use Rattle.std.specs.Prelude.{ℕ, ◌<◌, ◌≡◌, List, [], ◌∷◌, get_or, Result, ℤ}
use Rattle.laws.specs.Choose.{if_eq}
use Rattle.kerning.specs.Additions.{Addition}
use Rattle.pairs.specs.Pass.{addition_of}

-- p and q are a joined pair among the first `used` glyphs: both are below 0xFFFF, and all between them are 0xFFFF
pub record JoinedPair (glyphs : List ℕ) (used p q : ℕ) : Type 0 where
  pub before : p < q
  pub within : q < used
  pub first : get_or glyphs p 0 < 0xFFFF
  pub second : get_or glyphs q 0 < 0xFFFF
  pub between : (k : ℕ) → p < k → k < q → get_or glyphs k 0 ≡ 0xFFFF

-- those of some additions that go to a place
unfoldable pub to_place : ℕ → List Addition → List Addition
to_place p [] = []
to_place p (a ∷ more) = if_eq a.place p (a ∷ to_place p more) (to_place p more)

-- to the first place of each pair goes what the pair adds, once, and to any other place nothing
pub record AddedBy (Pair : (p q : ℕ) → Type 0) (number : (left right : ℕ) → Result ℤ Why) (glyphs : List ℕ) (additions : List Addition) : Type 0 where
  pub to_first : (p q : ℕ) → Pair p q → to_place p additions ≡ addition_of p (number (get_or glyphs p 0) (get_or glyphs q 0))
  pub to_others : (p : ℕ) → ((q : ℕ) → Pair p q → ⊥) → to_place p additions ≡ []
