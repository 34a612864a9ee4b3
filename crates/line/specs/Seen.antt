-- For the code alone; no entry and no promise rests on it, and nobody has to believe it. What the LINE test does first, a shorter test of tags
-- in order, and the tags that it has met, as bits: tag t is bit t % 64 of word t / 64.
use Rattle.std.specs.Prelude.{ℕ, ◌/◌, ◌%◌, ◌^◌, Bool, List, eqb, get_or, set}
use Rattle.std.specs.Int.Bits.{bit_or}
use Rattle.laws.specs.Lists.{every}

-- the first n tags count up from 0, as those of a line that was never rearranged do
unfoldable pub are_in_order : List ℕ → ℕ → Bool
are_in_order tags n = every (λ p. eqb (get_or tags p 0) p) n

-- the tag's bit is set
unfoldable pub has_seen : List ℕ → ℕ → Bool
has_seen words tag = eqb (get_or words (tag / 64) 0 / 2 ^ (tag % 64) % 2) 1

-- the words with the tag's bit set
unfoldable pub with_tag : List ℕ → ℕ → List ℕ
with_tag words tag = set words (tag / 64) (bit_or (get_or words (tag / 64) 0) (2 ^ (tag % 64)))
