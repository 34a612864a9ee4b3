-- What a report that is DONE says: of each line and of all lines, the sum, and the largest and the smallest of the used numbers.
use Rattle.std.specs.Prelude.{ℕ, ◌<◌, ◌≡◌, Bool, false, List, ℤ, pos, get_or}
use Rattle.std.specs.Int.Signed.{lt_z}
use Rattle.report.specs.Numbers.{sum_of}
use Rattle.report.specs.Report.{Lines, Page, count_of, along_at, used_at, sum_of_all}

-- one number is above another, or below it
abbrev pub above : ℤ → ℤ → Bool
above x z = lt_z z x

abbrev pub below : ℤ → ℤ → Bool
below x z = lt_z x z

-- z is one of the first n numbers, and none of them is beyond it
pub record Extreme (beyond : ℤ → ℤ → Bool) (xs : List ℤ) (n : ℕ) (z : ℤ) : Type 0 where
  pub place : ℕ
  pub inside : place < n
  pub there : get_or xs place (pos 0) ≡ z
  pub none : (p : ℕ) → p < n → beyond (get_or xs p (pos 0)) z ≡ false

-- z is one of the used numbers of these lines, and none of them is beyond it
pub record ExtremeOfAll (beyond : ℤ → ℤ → Bool) (numbers : ℕ → List ℤ) (used : ℕ → ℕ) (lines : ℕ) (z : ℤ) : Type 0 where
  pub line : ℕ
  pub place : ℕ
  pub among : line < lines
  pub inside : place < used line
  pub there : get_or (numbers line) place (pos 0) ≡ z
  pub none : (k p : ℕ) → k < lines → p < used k → beyond (get_or (numbers k) p (pos 0)) z ≡ false

pub record Reported (r : Lines) (page : Page) : Type 0 where
  pub sum : (k : ℕ) → k < count_of r → get_or page.sums k (pos 0) ≡ sum_of (along_at r k) (used_at r k)
  pub largest : (k : ℕ) → k < count_of r → 0 < used_at r k → Extreme above (along_at r k) (used_at r k) (get_or page.largest k (pos 0))
  pub smallest : (k : ℕ) → k < count_of r → 0 < used_at r k → Extreme below (along_at r k) (used_at r k) (get_or page.smallest k (pos 0))
  -- an empty line has 0 for both
  pub no_largest : (k : ℕ) → k < count_of r → used_at r k ≡ 0 → get_or page.largest k (pos 0) ≡ pos 0
  pub no_smallest : (k : ℕ) → k < count_of r → used_at r k ≡ 0 → get_or page.smallest k (pos 0) ≡ pos 0
  -- all lines: where one has a used place, the largest and the smallest are of them all; where none has, both are 0
  pub sum_of-all : get_or page.totals 0 (pos 0) ≡ sum_of_all r.rooms r.used r.along (count_of r)
  pub largest_of-all : (k : ℕ) → k < count_of r → 0 < used_at r k → ExtremeOfAll above (along_at r) (used_at r) (count_of r) (get_or page.totals 1 (pos 0))
  pub smallest_of-all : (k : ℕ) → k < count_of r → 0 < used_at r k → ExtremeOfAll below (along_at r) (used_at r) (count_of r) (get_or page.totals 2 (pos 0))
  pub none_of_all : ((k : ℕ) → k < count_of r → used_at r k ≡ 0) → (get_or page.totals 1 (pos 0) ≡ pos 0) × (get_or page.totals 2 (pos 0) ≡ pos 0)
