use mathlib.Core.Path.{refl}
use mathlib.Core.List.{[]}
use Rattle.indexes.proofs.Laws.{indexed-none}
use Rattle.ligature.specs.Calls.{ligature}
use Rattle.ligature.proofs.work.Goals as goal

pub returns : goal.returns
returns c =
    let h = rw (indexed-none ligature [] refl) at c.work_by.ensures in
    record { answer = h.answer; glyphs = h.glyphs; homes = h.homes }
