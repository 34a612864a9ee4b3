use mathlib.Core.Path.{refl}
use mathlib.Core.List.{[]}
use Rattle.indexes.proofs.Laws.{indexed-none}
use Rattle.insertion.specs.Calls.{insertion}
use Rattle.insertion.proofs.work.Goals as goal

pub returns : goal.returns
returns c =
    let h = rw (indexed-none insertion [] refl) at c.work_by.ensures in
    record { answer = h.answer; used = h.used; glyphs = h.glyphs; tags = h.tags }
