use Rattle.line.specs.Line.{line_of}
use mathlib.Core.Path.{◌≡◌}
use Prim.Native.Nat.{suc, ◌+◌, ◌-◌}
use native.Mathlib.Omega.{arith}
use Rattle.ligature.proofs.Passes.{pass-ends}
use Rattle.ligature.proofs.pass_line.Goals as goal

pub returns : goal.returns
returns c =
    let n : c.args.used + 1 - 0 ≡ suc c.args.used = omega arith in
    pass-ends _ _ _ (line_of _ _ _ _) n c.new-fresh.ensures c.from.ensures c.glyph_at-first.ensures c.run-reached.ensures
