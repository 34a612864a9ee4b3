-- The reel by one table, over its run.
use Prim.Native.Nat.{ℕ, ◌<◌}
use mathlib.Core.Path.{◌≡◌}
use mathlib.Core.Bool.{false}
use mathlib.Core.List.{List}
use lib.ListN.{get_or}
use Rattle.line.specs.Line.{OnceEach}
use Rattle.morx.specs.declared.Choices.{Choices}
use Rattle.reel.specs.Reel.{Reel, Lent, is_lent, lines_of, parts_of, ran_part, reel_leaves}
use Rattle.reel.specs.Runs.{run_lines}
use Rattle.reel.specs.Morx.{run_by, table_leaves}
use Rattle.reel.proofs.Kept.{run_keeps}
use Rattle.reel.proofs.Orders.{reel_is_runs, reel_lines}

module _ (table : List ℕ) (start : ℕ) (choices : Choices) (requests : List ℕ) (r : Reel) where
  pub table_refused : is_lent r ≡ false → table_leaves table start choices requests r ≡ r
  unfolding table_leaves reel_leaves
  table_refused e = rw e

  module _ (v : Lent r) where
    pub table_is_runs : (order : List ℕ) → OnceEach order (lines_of r)
        → run_lines (run_by table start choices requests) (λ j. get_or order j 0) (lines_of r) r ≡ table_leaves table start choices requests r
    unfolding table_leaves
    table_is_runs order once = reel_is_runs (run_by table start choices requests) (run_keeps table start choices requests) r v order once

    pub table_lines : (k : ℕ) → k < lines_of r → parts_of (table_leaves table start choices requests r) k ≡ ran_part (run_by table start choices requests) (parts_of r k)
    unfolding table_leaves
    table_lines k h = reel_lines (run_by table start choices requests) (run_keeps table start choices requests) r v k h
