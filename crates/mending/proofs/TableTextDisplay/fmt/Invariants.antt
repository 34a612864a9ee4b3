-- What was written so far, followed by the text of the words that are left, is the text of the whole table.
use Rattle.std.proofs.Common.{◌≡◌, ℕ, List, ◌++◌}
use Rattle.std.specs.Fmt.{HasWritten, IsPlainFormatter}
use Rattle.std.specs.Iterator.Adapters.{enumerate_source, enumerate_count}
use Rattle.std.specs.Slice.Iter.{chunks_exact_rest, chunks_exact_size}
use Rattle.mending.specs.Hex.{words_text}
use Rattle.mending.proofs.TableTextDisplay.fmt.Given as goal

abbrev pub invariant-loop-index : goal.invariant-loop-index
invariant-loop-index g l =
    (chunks_exact_size (enumerate_source l.index-iterator) ≡ 2)
    × (IsPlainFormatter l.fn.f → (text : List ℕ)
    × HasWritten g.W.Write.write_str_gives l.fn.f text l.f
    × (text ++ words_text (enumerate_count l.index-iterator) (chunks_exact_rest (enumerate_source l.index-iterator)) ≡ words_text 0 l.self.bytes.now))
