-- The theorems on reels, from the crate below.
use Rattle.std.specs.Prelude.{Ok}
use Prim.Native.Nat.{ℕ, ◌<◌}
use mathlib.Core.Path.{◌≡◌, sym, subst}
use mathlib.Core.List.{List}
use Rattle.answers.specs.Refuse.{refuse}
use Rattle.line.specs.Line.{Line, Valid}
use Rattle.line.specs.History.{FromLine, history_by}
use Rattle.stored.specs.Reading.{read_line}
use Rattle.stored.specs.Entries.{newest_version, read_tests}
use Rattle.stored.proofs.Exact.{read_valid}
use Rattle.morx.specs.Sequence.{leaves, makes}
use Rattle.reel.specs.Reel.{Reel, Lent, lines_of, parts_of}
use Rattle.reel.specs.Morx.{run_by}
use Rattle.reel.specs.Through.{Step, steps_leave, calls_of}
use Rattle.reel.proofs.Exact.{lent_exact}
use Rattle.reel.proofs.Kept.{run_keeps}
use Rattle.reel.proofs.Tables.{table_refused, table_is_runs, table_lines}
use Rattle.reel.proofs.Orders.{run_others}
use Rattle.reel.proofs.Through.{line_through, reel-demand3, reel-fresh-demand3}
use Rattle.promises.specs.Demand3.{Reels}

read_through : (r : Reel) (k : ℕ) → k < lines_of r → Lent r → (steps : List (Step r k)) → (bytes glyphs tags homes : List ℕ)
    → refuse (read_tests newest_version bytes glyphs tags homes) ≡ Ok tt → (parts_of r k).line ≡ read_line bytes glyphs tags
    → FromLine (read_line bytes glyphs tags)
    (history_by leaves makes (calls_of r k steps) (read_line bytes glyphs tags)) (parts_of (steps_leave r k steps r) k).line
read_through r k h v steps bytes glyphs tags homes taken e =
    subst (λ (l : Line). FromLine l (history_by leaves makes (calls_of r k steps) l) (parts_of (steps_leave r k steps r) k).line) e
    (reel-demand3 r k h v steps (subst Valid (sym e) (read_valid newest_version bytes glyphs tags homes taken)))

pub reels : Reels
reels =
    record {
      lent_exact = lent_exact;
      reel_refused = table_refused;
      reel_is_runs = table_is_runs;
      reel-leaves_others = table_lines;
      neighbours_stay = λ table start choices requests r v k h j ne.
          run_others (run_by table start choices requests) (run_keeps table start choices requests) r v k h j ne;
      line_through = line_through;
      reel-demand3 = reel-demand3;
      reel-fresh-demand3 = reel-fresh-demand3;
      reel_read_demand3 = read_through;
    }
