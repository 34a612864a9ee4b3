use Rattle.line.proofs.Seen.{marking_start, marking_large, marking_again, marking_next}
use Rattle.line.proofs.valid.once_each_in.Goals as goal
use Rattle.line.proofs.valid.once_each_in.Goals.{then-tags-tag-via-then-tags-tag, then-tags-tag-via-else-tags-tag+then-has_seen}

pub loop-tag-init : goal.loop-tag-init
loop-tag-init c = marking_start _ _ _ _ c.requires.1 c.requires.0

pub returns-then-tags-tag : goal.returns-then-tags-tag
returns-then-tags-tag c =
    elim c.then-tags-tag.branch [
      | then-tags-tag-via-then-tags-tag w ↦ search marking_large
      | then-tags-tag-via-else-tags-tag+then-has_seen w ↦ search marking_again
    ]

pub loop-tag-preserved : goal.loop-tag-preserved
loop-tag-preserved c = search marking_next
