-- For the code alone; no entry and no promise rests on it, and nobody has to believe it. A line as the programs print it, in bytes.
use Rattle.printed.specs.declared.LineText.{LineText}
use Rattle.std.specs.Prelude.{ℕ, List, ◌++◌, take, codes, decimal}
use Rattle.std.specs.List.{zip, enumerate_from, flat_map}

-- 'length N', with how many places are used
abbrev pub length_text : (used : ℕ) → List ℕ
length_text used = codes "length " ++ (decimal used ++ codes "\n")

-- 'PLACE GLYPH TAG', a place with its glyph and its tag
abbrev pub place_text : ℕ × (ℕ × ℕ) → List ℕ
place_text place = decimal place.0 ++ (codes " " ++ (decimal place.1.0 ++ (codes " " ++ (decimal place.1.1 ++ codes "\n"))))

-- a line for each place that is used and that both lists have, from place 0 on
unfoldable pub places_text : (glyphs tags : List ℕ) → (used : ℕ) → List ℕ
places_text glyphs tags used = flat_map place_text (enumerate_from 0 (take used (zip glyphs tags)))

-- ' HOME', a home behind what stands before it
abbrev pub home_text : (home : ℕ) → List ℕ
home_text home = codes " " ++ decimal home

-- 'homes', and behind it the home of each character, as far as there are homes
unfoldable pub homes_text : (homes : List ℕ) → (characters : ℕ) → List ℕ
homes_text homes characters = codes "homes" ++ (flat_map home_text (take characters homes) ++ codes "\n")

-- the length, the places and the homes
unfoldable pub text_of : LineText → List ℕ
text_of line =
    length_text line.used
    ++ (places_text line.glyphs.now line.tags.now line.used ++ homes_text line.homes.now line.characters)
