-- The answers that document 01 marks, in one table.
use Rattle.answers.specs.declared.Refusal.{Refusal}
use Rattle.tables.specs.declared.lookup.Why.{Why}
use Rattle.std.specs.Prelude.{ℕ, ◌≡◌, List, [], ◌∷◌, map, length, take, ℤ, pos, negsuc, Option, Some, None, Result, Ok, Err}
use Rattle.answers.specs.Numbers.{number_of, answer_of}
use Rattle.answers.specs.declared.Answer.TheVariants as Answer
use Rattle.kerning.specs.Additions.{add_all}
use Rattle.kerning.specs.Choices.{choices_of}
use Rattle.kerning_lists.specs.Run.{zeros}
use Rattle.kerning_lists.specs.Family.{passed}
use Rattle.kern.specs.Kern.{kern}
use Rattle.line.specs.Line.{Line}
use Rattle.line.specs.Entries.{Left, fresh_of, verb_call}
use Rattle.state_tables.specs.Classes.{class_extended}
use Rattle.ligature.specs.Actions.{offset_of}
use Rattle.tables.specs.Lookup.{lookup_reply}
use Rattle.tables.specs.declared.lookup.Why.TheVariants.{NotCovered, CutShort, UnknownFormat}

-- what is asked: the element of a glyph in the lookup table that these bytes are; the glyphs of the line 10 to 14 after a verb on a window; the
-- class of a glyph in the extended state table that these bytes are; the offset of a ligature action
pub data Asked : Type 0 where
  lookup : List ℕ → ℕ → Asked
  verb : (number start end : ℕ) → Asked
  class : List ℕ → ℕ → Asked
  offset : ℕ → Asked

-- an answer: its number, and the value where there is one
pub record Given : Type 0 where
  pub number : ℕ
  pub values : List ℤ

abbrev given : Result (Option ℕ) Refusal → Given
given (Ok (Some v)) = record { number = 0; values = pos v ∷ [] }
given (Ok None) = record { number = 1; values = [] }
given (Err why) = record { number = number_of (answer_of (Err why)); values = [] }

abbrev looked : Result (Result ℕ Why) Refusal → Given
looked (Ok (Ok element)) = record { number = 0; values = pos element ∷ [] }
looked (Ok (Err why)) = record { number = 1; values = [] }
looked (Err why) = record { number = number_of (Answer.Refused why); values = [] }

-- a fresh line of five characters
abbrev line : Line
line = fresh_of (10 ∷ 11 ∷ 12 ∷ 13 ∷ 14 ∷ []) (0 ∷ 0 ∷ 0 ∷ 0 ∷ 0 ∷ []) (0 ∷ 0 ∷ 0 ∷ 0 ∷ 0 ∷ [])

abbrev left : Left → Given
left l = record { number = number_of l.answer; values = map pos l.line.glyphs }

unfoldable pub answer_to : Asked → Given
answer_to (lookup bytes glyph) = looked (lookup_reply bytes 0 glyph)
answer_to (verb number start end) = left (verb_call line number start end)
answer_to (class bytes glyph) = given (class_extended bytes 0 glyph)
answer_to (offset action) = record { number = 0; values = offset_of action ∷ [] }

pub record Row : Type 0 where
  pub asked : Asked
  pub answer : Given

abbrev row : Asked → ℕ → List ℕ → Row
row asked number values = record { asked = asked; answer = record { number = number; values = map pos values } }

-- n, or -1 less n
abbrev offset_row : (action : ℕ) → ℤ → Row
offset_row action value = record { asked = offset action; answer = record { number = 0; values = value ∷ [] } }

-- 0008 0005 0002 0007 0009
abbrev trimmed : List ℕ
trimmed = 0 ∷ 8 ∷ 0 ∷ 5 ∷ 0 ∷ 2 ∷ 0 ∷ 7 ∷ 0 ∷ 9 ∷ []

-- a state table's head, whose class table is that lookup
abbrev classed : List ℕ
classed = 0 ∷ 0 ∷ 0 ∷ 4 ∷ 0 ∷ 0 ∷ 0 ∷ 16 ∷ 0 ∷ 0 ∷ 0 ∷ 0 ∷ 0 ∷ 0 ∷ 0 ∷ 0 ∷ trimmed

unfoldable pub rows : List Row
rows =
    row (verb 1 0 4) 0 (11 ∷ 12 ∷ 13 ∷ 14 ∷ 10 ∷ [])
    ∷ row (verb 13 0 4) 0 (13 ∷ 14 ∷ 12 ∷ 11 ∷ 10 ∷ [])
    ∷ row (verb 12 1 4) 0 (10 ∷ 13 ∷ 14 ∷ 11 ∷ 12 ∷ [])
    ∷ row (verb 12 0 2) 0 (10 ∷ 11 ∷ 12 ∷ 13 ∷ 14 ∷ [])
    ∷ row (verb 2 3 9) 0 (10 ∷ 11 ∷ 12 ∷ 14 ∷ 13 ∷ [])
    ∷ row (lookup trimmed 5) 0 (7 ∷ [])
    ∷ row (lookup trimmed 6) 0 (9 ∷ [])
    ∷ row (lookup trimmed 4) 1 []
    ∷ row (lookup trimmed 7) 1 []
    ∷ row (class classed 0xFFFF) 0 (2 ∷ [])
    ∷ offset_row 0x3FFFFFFF (negsuc 0)
    ∷ offset_row 0x20000000 (negsuc 536870911)
    ∷ offset_row 0x1FFFFFFF (pos 536870911)
    ∷ []

-- every row is answered as it says
abbrev pub AllKnown : Type 0
AllKnown = map (λ (r : Row). answer_to r.asked) rows ≡ map (λ (r : Row). r.answer) rows

-- why nothing is found: a glyph before the first, an element that is cut off, a format that no lookup table has
pub record KnownReasons : Type 0 where
  pub before_the_first : lookup_reply trimmed 0 4 ≡ Ok (Err NotCovered)
  pub cut_off : lookup_reply (take 8 trimmed) 0 6 ≡ Ok (Err CutShort)
  pub format_three : lookup_reply (0 ∷ 3 ∷ []) 0 6 ≡ Ok (Err UnknownFormat)

-- a kern subtable of the old edition: the pair 5 6, and 10 for it
abbrev one_pair : List ℕ
one_pair = 0 ∷ 0 ∷ 0 ∷ 20 ∷ 0 ∷ 1 ∷ 0 ∷ 1 ∷ 0 ∷ 6 ∷ 0 ∷ 0 ∷ 0 ∷ 0 ∷ 0 ∷ 5 ∷ 0 ∷ 6 ∷ 0 ∷ 10 ∷ []

-- what the pass by it makes of adjustments of 0, with the choices of these bits
unfoldable pub kerned_by : (bits : ℕ) → (glyphs : List ℕ) → List ℤ
kerned_by bits glyphs = add_all (passed kern one_pair 0 glyphs (length glyphs) (choices_of bits)).additions (zeros (length glyphs))

-- a deleted glyph between the two parts neighbours and not joined pairs; before and behind them it parts neither
pub record KnownPairs : Type 0 where
  pub neighbours_parted : kerned_by 0 (5 ∷ 0xFFFF ∷ 6 ∷ []) ≡ map pos (0 ∷ 0 ∷ 0 ∷ [])
  pub joined-over_it : kerned_by 1 (5 ∷ 0xFFFF ∷ 6 ∷ []) ≡ map pos (10 ∷ 0 ∷ 0 ∷ [])
  pub neighbours_beside_it : kerned_by 0 (0xFFFF ∷ 5 ∷ 6 ∷ 0xFFFF ∷ []) ≡ map pos (0 ∷ 10 ∷ 0 ∷ 0 ∷ [])
  pub joined_beside_it : kerned_by 1 (0xFFFF ∷ 5 ∷ 6 ∷ 0xFFFF ∷ []) ≡ map pos (0 ∷ 10 ∷ 0 ∷ 0 ∷ [])
