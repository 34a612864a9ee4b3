use Rattle.reel.specs.Reel.{reel_of}
use Rattle.reel.specs.Morx.{run_by}
use Rattle.reel.proofs.Going.{Going}
use Rattle.reel.proofs.run.Given as goal

abbrev pub invariant-loop-i : goal.invariant-loop-i
invariant-loop-i l =
    Going (run_by l.table l.start l.choices l.requests) (reel_of l.rooms l.characters l.initial.used l.initial.answers l.initial.heads l.initial.glyphs l.initial.tags l.initial.homes)
    (reel_of l.rooms l.characters l.used l.answers l.heads l.glyphs l.tags l.homes) l.at l.from l.i
