-- For the code alone; no entry and no promise rests on it, and nobody has to believe it. A result of the shaper in numbers of two bytes, as the
-- sample holds it.
use Rattle.std.specs.Prelude.{ℕ, ◌+◌, ◌*◌, Bool, false, List, eqb, length, get_or, drop}
use Rattle.laws.specs.Choose.{if_lt, if_eq}
use Rattle.laws.specs.Lists.{both, every}
use Rattle.answers.specs.Numbers.{number_of}
use Rattle.parse.specs.Reads.{read_u16}
use Rattle.parse.specs.Use.{on_u16}
use Rattle.shaper.specs.declared.Shaped.{Shaped}

-- the number at a place, 0 where there is none
unfoldable pub word_at : List ℕ → ℕ → ℕ
word_at numbers at = on_u16 (read_u16 numbers at) (λ n. n) 0

-- the numbers begin with the first `count` words
unfoldable pub has_words : (numbers words : List ℕ) → (count : ℕ) → Bool
has_words numbers words count = if_lt (length words) count false (every (λ k. eqb (get_or words k 0) (word_at numbers (k * 2))) count)

-- the numbers are the result: answer, heads, used length and characters, then the used glyphs and tags, and the homes
unfoldable pub is_result : (numbers : List ℕ) → Shaped → (glyphs tags homes : List ℕ) → Bool
is_result numbers s glyphs tags homes =
    if_eq (number_of s.answer) (word_at numbers 0)
    (if_eq s.heads (word_at numbers 2)
    (if_eq s.used (word_at numbers 4)
    (if_eq s.characters (word_at numbers 6)
    (if_eq (length numbers) (8 + word_at numbers 4 * 4 + word_at numbers 6 * 2)
    (both (has_words (drop 8 numbers) glyphs (word_at numbers 4))
    (both (has_words (drop (8 + word_at numbers 4 * 2) numbers) tags (word_at numbers 4))
    (has_words (drop (8 + word_at numbers 4 * 4) numbers) homes (word_at numbers 6))))
    false) false) false) false) false
