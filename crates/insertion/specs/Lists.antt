-- The lists of glyphs of an insertion subtable, as the crate reads them, and what becomes of one that an entry names.
use Rattle.std.specs.Prelude.{ℕ, ◌+◌, ◌*◌, cond, List, [], ◌∷◌, ◌++◌, Option, Some, None, Result, Ok, Err}
use Rattle.laws.specs.Choose.{if_lt, if_eq}
use Rattle.laws.specs.Lists.{tab}
use Rattle.answers.specs.declared.Answer.{Answer}
use Rattle.answers.specs.declared.Answer.TheVariants as Answer'
use Rattle.parse.specs.Reads.{inside, u16_at, read_u32}
use Rattle.parse.specs.Use.{on_u32}
use Rattle.line.specs.Changes.{Change}
use Rattle.insertion.specs.declared.Listed.{Listed}
use Rattle.insertion.specs.declared.Listed.TheVariants as Listed'
use Rattle.insertion.specs.declared.Insertion.{Insertion}

-- so many glyphs from a place of the bytes on can be read where they begin before the end and all lie in the bytes; so a list of no glyphs
-- can't at or past the end
abbrev pub list_from : List ℕ → (from count : ℕ) → Listed
list_from bytes from count = cond (inside bytes from (count * 2)) (Listed'.At from) Listed'.Short

-- the bytes are those from the state table on: the number at 16 is where the glyphs begin, and a list begins with the glyph of its number.
-- Number 0xFFFF means no insertion
unfoldable pub glyph_list : List ℕ → (number count : ℕ) → Listed
glyph_list bytes number count =
    if_eq number 0xFFFF Listed'.None
    (on_u32 (read_u32 bytes 16) (λ glyphs. list_from bytes (glyphs + number * 2) count) Listed'.Short)

-- a list that can't be read is ENDED; an insertion that makes the length exceed the room is FULL, so that one of no glyphs never is
unfoldable pub entered_by : Listed → (place count used room : ℕ) → Result (Option Insertion) Answer
entered_by Listed'.None place count used room = Ok None
entered_by Listed'.Short place count used room = Err Answer'.Ended
entered_by (Listed'.At glyphs) place count used room =
    if_lt room (used + count) (Err Answer'.Full) (Ok (Some (record { place = place; count = count; glyphs = glyphs })))

-- what becomes of an insertion of so many glyphs, from the one of this number on, at a place of a line of this length
abbrev pub insertion_of : List ℕ → (number count place used room : ℕ) → Result (Option Insertion) Answer
insertion_of bytes number count place used room = entered_by (glyph_list bytes number count) place count used room

-- what is made of an insertion, and of an answer that ends the step before it
abbrev pub on_tried : {A : Type 0} → Result (Option Insertion) Answer → (Option Insertion → A) → (Answer → A) → A
on_tried (Ok edit) made over = made edit
on_tried (Err answer) made over = over answer

-- how many glyphs are inserted
abbrev pub count_of : Option Insertion → ℕ
count_of None = 0
count_of (Some edit) = edit.count

-- so many glyphs that lie at a place of the bytes
unfoldable pub glyphs_at : List ℕ → (at count : ℕ) → List ℕ
glyphs_at bytes at count = tab (λ k. u16_at bytes (at + k * 2)) count

-- what an insertion does to the line
abbrev pub changes_of : List ℕ → Option Insertion → List Change
changes_of bytes None = []
changes_of bytes (Some edit) = Change.insertion edit.place (glyphs_at bytes edit.glyphs edit.count) ∷ []

-- and both of a step, the marked glyphs' first
abbrev pub both_changes : List ℕ → (marked current : Option Insertion) → List Change
both_changes bytes marked current = changes_of bytes marked ++ changes_of bytes current

-- an insertion whose glyphs are counted from so many bytes before
abbrev pub moved_by : ℕ → Option Insertion → Option Insertion
moved_by by None = None
moved_by by (Some edit) = Some (record { place = edit.place; count = edit.count; glyphs = by + edit.glyphs })
