use mathlib.Core.Path.{refl, sym}
use native.Mathlib.Omega.{arith}
use Rattle.line.proofs.Seen.{marking_start, marking_word, marking_large, marking_again, marking_next, marking_done}
use Rattle.line.proofs.Room.{words, room_words}
use Rattle.stored.proofs.Tests.{tag_read}
use Rattle.stored.proofs.reading.once_each.Goals as goal
use Rattle.stored.proofs.reading.once_each.Goals.{then-used-tag-via-then-used-tag, then-used-tag-via-else-used-tag+then-has_seen}

pub loop-p-init : goal.loop-p-init
loop-p-init c = marking_start words _ _ _ refl (omega (arith, room_words))

pub returns-then-used-tag : goal.returns-then-used-tag
returns-then-used-tag c =
    elim c.then-used-tag.branch [
      | then-used-tag-via-then-used-tag w ↦ search (marking_large, tag_read)
      | then-used-tag-via-else-used-tag+then-has_seen w ↦ search (marking_again, tag_read)
    ]

pub slice_bounds-has_seen-end : goal.slice_bounds-has_seen-end
slice_bounds-has_seen-end c = sym c.loop-p.invariant.long

pub has_seen-requires : goal.has_seen-requires
has_seen-requires c = search (marking_word, tag_read)

pub mark-requires : goal.mark-requires
mark-requires c = search (marking_word, tag_read)

pub loop-p-preserved : goal.loop-p-preserved
loop-p-preserved c = search (marking_next, tag_read)

pub returns : goal.returns
returns c = search marking_done
