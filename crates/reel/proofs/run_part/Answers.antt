use Rattle.line.specs.Line.{Line}
use Rattle.reel.proofs.Calls.{part_reply, part_left}
use Rattle.reel.proofs.run_part.Goals as goal

pub returns : goal.returns
returns c =
    record {
      reply = part_reply _ _ _ _ _ _ _ _ _ c.run.ensures.reply;
      glyphs = part_left _ _ _ _ _ _ _ _ _ _ _ _ (λ (l : Line). l.glyphs) c.run.ensures.glyphs;
      tags = part_left _ _ _ _ _ _ _ _ _ _ _ _ (λ (l : Line). l.tags) c.run.ensures.tags;
      homes = part_left _ _ _ _ _ _ _ _ _ _ _ _ (λ (l : Line). l.homes) c.run.ensures.homes;
    }
