-- The report: what is lent for it, its tests, and what it leaves.
use Rattle.answers.specs.declared.Refusal.{Refusal}
use Rattle.std.specs.Prelude.{ℕ, zero, suc, Bool, false, not, List, [], ◌∷◌, leb, eqb, ℤ, pos, ◌+ℤ◌, length, get_or, Result, Ok, Err}
use Rattle.laws.specs.Lists.{tab, both, every}
use Rattle.answers.specs.Refuse.{Test, refuse}
use Rattle.answers.specs.declared.Answer.{Answer}
use Rattle.answers.specs.declared.Answer.TheVariants as Answer'
use Rattle.answers.specs.declared.Refusal.TheVariants as Refusal'
use Rattle.line.specs.Line.{Line, line_of}
use Rattle.kerning.specs.Line.{is_taken}
use Rattle.reel.specs.Parts.{adds_up, part_of}
use Rattle.report.specs.Numbers.{larger, smaller, sum_of, largest_of, smallest_of, has_some, chosen_beside}

-- what is lent to be read: for each line its room, how many characters it has and its used length; then glyphs, tags, homes and along numbers of all
-- lines, one line's behind the other's
pub record Lines : Type 0 where
  pub rooms : List ℕ
  pub characters : List ℕ
  pub used : List ℕ
  pub glyphs : List ℕ
  pub tags : List ℕ
  pub homes : List ℕ
  pub along : List ℤ

-- and to be written: for each line the sum, the largest and the smallest of its used along numbers, and the same of all
pub record Page : Type 0 where
  pub sums : List ℤ
  pub largest : List ℤ
  pub smallest : List ℤ
  pub totals : List ℤ

abbrev pub lines_of : (rooms characters used glyphs tags homes : List ℕ) → (along : List ℤ) → Lines
lines_of rooms characters used glyphs tags homes along =
    record { rooms = rooms; characters = characters; used = used; glyphs = glyphs; tags = tags; homes = homes; along = along }

abbrev pub page_of : (sums largest smallest totals : List ℤ) → Page
page_of sums largest smallest totals = record { sums = sums; largest = largest; smallest = smallest; totals = totals }

-- how many lines there are
abbrev pub count_of : Lines → ℕ
count_of r = length r.rooms

-- the most lines
unfoldable pub line_limit : ℕ
line_limit = 255

-- the used length of line k
abbrev pub used_at : Lines → (k : ℕ) → ℕ
used_at r k = get_or r.used k 0

-- line k
unfoldable pub line_at : Lines → (k : ℕ) → Line
line_at r k = line_of (part_of r.rooms k r.glyphs) (part_of r.rooms k r.tags) (part_of r.characters k r.homes) (used_at r k)

-- its along numbers, of which those of the used places count
unfoldable pub along_at : Lines → (k : ℕ) → List ℤ
along_at r k = part_of r.rooms k r.along

-- what REEL does not refuse: the most lines, a number of each kind for each line, rooms that add up to the glyphs, the tags and the along numbers,
-- characters that add up to the homes
unfoldable pub is_lent : Lines → (sums largest smallest : List ℤ) → Bool
is_lent r sums largest smallest =
    both (leb (count_of r) line_limit)
    (both (eqb (length r.characters) (count_of r))
    (both (eqb (length r.used) (count_of r))
    (both (eqb (length sums) (count_of r))
    (both (eqb (length largest) (count_of r))
    (both (eqb (length smallest) (count_of r))
    (both (adds_up r.rooms (length r.glyphs))
    (both (adds_up r.rooms (length r.tags))
    (both (adds_up r.rooms (length r.along))
    (adds_up r.characters (length r.homes))))))))))

-- LINE as for a pass, of every line
unfoldable pub are_taken : Lines → Bool
are_taken r = every (λ k. is_taken (line_at r k) (along_at r k)) (count_of r)

-- REEL, LINE
unfoldable pub report_tests : Lines → (sums largest smallest : List ℤ) → List Test
report_tests r sums largest smallest =
    record { holds = not (is_lent r sums largest smallest); refusal = Refusal'.Reel }
    ∷ record { holds = not (are_taken r); refusal = Refusal'.Line }
    ∷ []

-- what is said of the lines of these rooms
module _ (rooms used : List ℕ) (along : List ℤ) where
  -- of line k: the sum, the largest and the smallest of its used along numbers
  abbrev pub sum_at : (k : ℕ) → ℤ
  sum_at k = sum_of (part_of rooms k along) (get_or used k 0)

  abbrev pub largest_at : (k : ℕ) → ℤ
  largest_at k = largest_of (part_of rooms k along) (get_or used k 0)

  abbrev pub smallest_at : (k : ℕ) → ℤ
  smallest_at k = smallest_of (part_of rooms k along) (get_or used k 0)

  -- of the first n lines together: whether they have a used place, the sum of their sums, the largest and the smallest of all their used places
  unfoldable pub some_of : (n : ℕ) → Bool
  some_of zero = false
  some_of (suc n) = has_some (some_of n) (get_or used n 0)

  unfoldable pub sum_of_all : (n : ℕ) → ℤ
  sum_of_all zero = pos 0
  sum_of_all (suc n) = sum_of_all n +ℤ sum_at n

  unfoldable pub largest_of_all : (n : ℕ) → ℤ
  largest_of_all zero = pos 0
  largest_of_all (suc n) = chosen_beside larger (some_of n) (largest_of_all n) (get_or used n 0) (largest_at n)

  unfoldable pub smallest_of_all : (n : ℕ) → ℤ
  smallest_of_all zero = pos 0
  smallest_of_all (suc n) = chosen_beside smaller (some_of n) (smallest_of_all n) (get_or used n 0) (smallest_at n)

  -- the page that is written
  unfoldable pub written : Page
  written =
      page_of
      (tab sum_at (length rooms))
      (tab largest_at (length rooms))
      (tab smallest_at (length rooms))
      (sum_of_all (length rooms) ∷ largest_of_all (length rooms) ∷ smallest_of_all (length rooms) ∷ [])

-- the report's answer, and what is left: a refused one writes nothing
abbrev pub answer_by : Result Unit Refusal → Answer
answer_by (Ok tt) = Answer'.Done
answer_by (Err why) = Answer'.Refused why

abbrev pub page_by : Result Unit Refusal → (page new : Page) → Page
page_by (Ok tt) page new = new
page_by (Err why) page new = page

unfoldable pub report_answer : Lines → Page → Answer
report_answer r page = answer_by (refuse (report_tests r page.sums page.largest page.smallest))

unfoldable pub report_leaves : Lines → Page → Page
report_leaves r page = page_by (refuse (report_tests r page.sums page.largest page.smallest)) page (written r.rooms r.used r.along)
