-- Document 01's table of verbs as it is drawn, and the statement that the verbs do so.
use Rattle.std.specs.Prelude.{ℕ, ◌<◌, ◌≡◌, List, [], ◌∷◌, ◌++◌, length, get_or}
use Rattle.verbs.specs.Verbs.{rearranged}

-- a window before and after each verb
abbrev pub drawn : (A B x C D : List ℕ) → List (List ℕ × List ℕ)
drawn A B x C D =
    (x, x)
    ∷ (A ++ x, x ++ A)
    ∷ (x ++ D, D ++ x)
    ∷ (A ++ x ++ D, D ++ x ++ A)
    ∷ (A ++ B ++ x, x ++ A ++ B)
    ∷ (A ++ B ++ x, x ++ B ++ A)
    ∷ (x ++ C ++ D, C ++ D ++ x)
    ∷ (x ++ C ++ D, D ++ C ++ x)
    ∷ (A ++ x ++ C ++ D, C ++ D ++ x ++ A)
    ∷ (A ++ x ++ C ++ D, D ++ C ++ x ++ A)
    ∷ (A ++ B ++ x ++ D, D ++ x ++ A ++ B)
    ∷ (A ++ B ++ x ++ D, D ++ x ++ B ++ A)
    ∷ (A ++ B ++ x ++ C ++ D, C ++ D ++ x ++ A ++ B)
    ∷ (A ++ B ++ x ++ C ++ D, C ++ D ++ x ++ B ++ A)
    ∷ (A ++ B ++ x ++ C ++ D, D ++ C ++ x ++ A ++ B)
    ∷ (A ++ B ++ x ++ C ++ D, D ++ C ++ x ++ B ++ A)
    ∷ []

-- any four glyphs, and any list between them
module _ (a b : ℕ) (x : List ℕ) (c d : ℕ) where
  abbrev pub before : ℕ → List ℕ
  before verb = (get_or (drawn (a ∷ []) (b ∷ []) x (c ∷ []) (d ∷ [])) verb ([], [])).0

  abbrev pub after : ℕ → List ℕ
  after verb = (get_or (drawn (a ∷ []) (b ∷ []) x (c ∷ []) (d ∷ [])) verb ([], [])).1

  -- every verb makes of its window what is drawn, whatever stands behind it
  abbrev pub AsDrawn : Type 0
  AsDrawn = (verb : ℕ) (rest : List ℕ) → verb < 16 → rearranged verb (length (before verb)) (before verb ++ rest) ≡ after verb ++ rest
