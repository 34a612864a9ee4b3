-- For the code alone; no entry and no promise rests on it, and nobody has to believe it. A table as the program prints it, in bytes.
use Rattle.mending.specs.declared.TableText.{TableText}
use Rattle.std.specs.Prelude.{ℕ, ◌+◌, List, [], ◌∷◌, ◌++◌, ◌-◌, ◌^◌, ◌==◌, if◌then◌else◌, true, false, codes}
use Rattle.std.specs.Fmt.{digits, format_spec, padded_integral}

-- a byte in two digits, as `{:02X}` writes it
abbrev pub byte_text : (byte : ℕ) → List ℕ
byte_text byte = padded_integral (format_spec 32 0 4 2 (2 ^ 64 - 1)) false [] (digits 16 true byte)

-- 'HHHH', a word of two bytes, with a space before it unless it is word 0
abbrev pub word_text : (index high low : ℕ) → List ℕ
word_text index high low = (if index == 0 then codes "" else codes " ") ++ (byte_text high ++ byte_text low)

-- the words from this one on; a byte that fills no word is left out
unfoldable pub words_text : (index : ℕ) → (bytes : List ℕ) → List ℕ
words_text index (high ∷ low ∷ bytes) = word_text index high low ++ words_text (index + 1) bytes
words_text index (byte ∷ []) = []
words_text index [] = []

-- the words of the table
unfoldable pub text_of : TableText → List ℕ
text_of table = words_text 0 table.bytes.now
