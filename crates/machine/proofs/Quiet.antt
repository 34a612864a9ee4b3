-- Changes that insert nothing are legal on every valid line.
use mathlib.Core.Path.{◌≡◌, refl, ◌∙◌, ap}
use mathlib.Core.List.{List, [], ◌++◌}
use native.Mathlib.Omega.{arith}
use Rattle.line.specs.Line.{Line, Valid}
use Rattle.line.specs.Edits.{inserted}
use Rattle.line.specs.Changes.{Change, history_of}
use Rattle.line.specs.History.{Fits}
use Rattle.line.proofs.Histories.{inserted-append, history_append}

-- changes that insert nothing
abbrev pub Quiet : List Change → Type 0
Quiet changes = inserted (history_of changes) ≡ 0

pub quiet_append : (cs ds : List Change) → Quiet cs → Quiet ds → Quiet (cs ++ ds)
quiet_append cs ds p q = ap inserted (history_append cs ds) ∙ inserted-append (history_of cs) (history_of ds) ∙ omega arith

pub quiet_none : Quiet []
unfolding history_of inserted
quiet_none = refl

pub quiet_fits : (changes : List Change) (l : Line) → Valid l → Quiet changes → Fits changes l
quiet_fits changes l v q = omega (arith, v.within, q)
