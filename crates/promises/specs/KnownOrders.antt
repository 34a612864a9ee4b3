-- Kerx lists of two subtables (document 02, W-214): with every condition met their order does not matter, and where a subtable breaks one it does.
use Rattle.std.specs.Prelude.{ℕ, ◌≡◌, false, List, [], ◌∷◌, ◌++◌, map, ℤ, pos}
use Rattle.kerning.specs.Choices.{unchosen}
use Rattle.kerning_lists.specs.Run.{zeros}
use Rattle.kerning_lists.specs.Family.{ran}
use Rattle.kerx.specs.Kerx.{kerx}

-- a subtable of ordered pairs, of 34 bytes, that states so many: the pair 5 6 has this number
abbrev pub one_pair : (size number : ℕ) → List ℕ
one_pair size number =
    0 ∷ 0 ∷ 0 ∷ size ∷ 0 ∷ 0 ∷ 0 ∷ 0 ∷ 0 ∷ 0 ∷ 0 ∷ 0 ∷ 0 ∷ 0 ∷ 0 ∷ 1 ∷ 0 ∷ 0 ∷ 0 ∷ 0 ∷ 0 ∷ 0 ∷ 0 ∷ 0 ∷ 0 ∷ 0 ∷ 0 ∷ 0 ∷ 0 ∷ 5 ∷ 0 ∷ 6 ∷ 0 ∷ number ∷ []

-- a machine of 62 bytes, with so many more behind them: glyph 5 pushes its place and names a list, which begins at twice this place from the state table on
abbrev pub one_list : (size values : ℕ) → (behind : List ℕ) → List ℕ
one_list size values behind =
    0 ∷ 0 ∷ 0 ∷ size ∷ 0 ∷ 0 ∷ 0 ∷ 1 ∷ 0 ∷ 0 ∷ 0 ∷ 0 ∷ 0 ∷ 0 ∷ 0 ∷ 5 ∷ 0 ∷ 0 ∷ 0 ∷ 20 ∷ 0 ∷ 0 ∷ 0 ∷ 28 ∷ 0 ∷ 0 ∷ 0 ∷ 38 ∷ 0 ∷ 0 ∷ 0 ∷ values
    ∷ 0 ∷ 8 ∷ 0 ∷ 5 ∷ 0 ∷ 1 ∷ 0 ∷ 4 ∷ 0 ∷ 0 ∷ 0 ∷ 0 ∷ 0 ∷ 0 ∷ 0 ∷ 0 ∷ 0 ∷ 1 ∷ 0 ∷ 0 ∷ 0 ∷ 0 ∷ 255 ∷ 255 ∷ 0 ∷ 0 ∷ 128 ∷ 0 ∷ 0 ∷ 0 ∷ behind

-- the one whose list lies in it, and holds 7
abbrev pub good_list : List ℕ
good_list = one_list 64 25 (0 ∷ 7 ∷ [])

abbrev pub line : List ℕ
line = 5 ∷ 6 ∷ []

-- what a run over a list of version 2 with two subtables leaves, on the line 5 6
unfoldable pub left_by : (first second : List ℕ) → List ℤ
left_by first second = (ran kerx (0 ∷ 2 ∷ 0 ∷ 0 ∷ 0 ∷ 0 ∷ 0 ∷ 2 ∷ [] ++ first ++ second) false line 2 (zeros 2) unchosen).along

-- each condition but one holds, and the two orders differ: a size one byte short, a size of 0, a list that reads into the next subtable. (The head limit's is
-- in docs/PROMISES.md)
pub record NeedsEach : Type 0 where
  pub held : left_by (one_pair 34 10) (one_pair 34 100) ≡ map pos (110 ∷ 0 ∷ [])
  pub held-turned : left_by (one_pair 34 100) (one_pair 34 10) ≡ map pos (110 ∷ 0 ∷ [])
  pub one-short : left_by (one_pair 33 10) (one_pair 34 100) ≡ map pos (10 ∷ 0 ∷ [])
  pub one-short-turned : left_by (one_pair 34 100) (one_pair 33 10) ≡ map pos (110 ∷ 0 ∷ [])
  pub size-zero : left_by (one_pair 0 10) (one_pair 34 100) ≡ map pos (20 ∷ 0 ∷ [])
  pub size_zero_turned : left_by (one_pair 34 100) (one_pair 0 10) ≡ map pos (110 ∷ 0 ∷ [])
  pub reads_on : left_by (one_list 62 26 []) (one_pair 34 100) ≡ map pos (134 ∷ 0 ∷ [])
  pub reads_on-turned : left_by (one_pair 34 100) (one_list 62 26 []) ≡ map pos (100 ∷ 0 ∷ [])
