use Rattle.contextual.proofs.Passes.{pass-ends}
use Rattle.contextual.proofs.pass_line.Goals as goal

pub returns : goal.returns
returns c =
    let e = pass-ends _ _ _ _ _ _ _ c.new.ensures c.glyph_at-first.ensures c.run.ensures.step c.run.ensures.glyphs in
    record { answer = e.answers; glyphs = e.left }
