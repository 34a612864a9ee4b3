use mathlib.Core.Path.{◌≡◌}
use Rattle.anchor_machine.specs.Machine.{rest}
use Rattle.anchor_machine.proofs.Passes.{place_after, Going, Staying}
use Rattle.anchor_machine.proofs.pass.pass_line.Given as goal

abbrev pub invariant-loop-stays : goal.invariant-loop-stays
invariant-loop-stays l =
    record {
      staying :
          Staying l.index l.ankr l.bytes l.anchoring l.glyphs l.used l.opened l.place l.initial.memo l.initial.x l.initial.y l.initial.back l.initial.state l.memo l.x l.y l.back l.state l.stays;
      table : l.points.ankr.now ≡ l.ankr;
      reading : l.points.reading ≡ l.anchoring.reading;
    }

abbrev pub decreases-loop-stays : goal.decreases-loop-stays
decreases-loop-stays l = rest l.used l.state (place_after l.stays l.place)

abbrev pub invariant-loop-place : goal.invariant-loop-place
invariant-loop-place l =
    record {
      going : Going l.index l.ankr l.bytes l.anchoring l.glyphs l.used l.initial.x l.initial.y l.initial.back l.opened l.memo l.x l.y l.back l.state l.place;
      table : l.points.ankr.now ≡ l.ankr;
      reading : l.points.reading ≡ l.anchoring.reading;
    }
