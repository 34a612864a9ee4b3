use Rattle.replay.proofs.Words.{too_few, comparing_start, comparing_next, comparing_differs, comparing_done}
use Rattle.replay.proofs.results.has_words.Goals as goal

pub returns-then-words-count : goal.returns-then-words-count
returns-then-words-count c = too_few _ _ _ c.if-words-count.true

pub loop-place-init : goal.loop-place-init
loop-place-init c = comparing_start _ _ _ c.if-words-count.false

pub returns-then-words-place : goal.returns-then-words-place
returns-then-words-place c =
    comparing_differs c.loop-place.invariant c.loop-place-test.true c.word.ensures c.if-words-place.true

pub loop-place-preserved : goal.loop-place-preserved
loop-place-preserved c =
    comparing_next c.loop-place.invariant c.loop-place-test.true c.word.ensures c.if-words-place.false

pub returns : goal.returns
returns c = comparing_done c.loop-place.invariant c.loop-place-test.false
