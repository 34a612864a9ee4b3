-- A list that can be read lies in the bytes, and an insertion that is made fits the room.
use Rattle.std.specs.Prelude.{Option, Some, None, Result, Ok, Err}
use Prim.Native.Nat.{ℕ, ◌+◌, ◌-◌, ◌*◌, ◌/◌, ◌<◌, ◌≤◌}
use mathlib.Core.Path.{◌≡◌, refl, sym, ◌∙◌, ap, ap₂}
use mathlib.Core.Bool.{Bool, true, false, cond}
use mathlib.Core.List.{List}
use native.Mathlib.Nat.{add_assoc}
use native.Mathlib.Omega.{arith}
use lib.Dec.{ltb, eqb}
use lib.ListN.{length, get_or, take, drop, length-drop}
use lib.Seq.{ext_get_or, get_or-take, get_or-drop, length-take-le}
use borrow.Author.Tests.{ltb-false}
use Rattle.laws.proofs.Lists.{length-tab, get_d_tab}
use Rattle.answers.specs.declared.Answer.{Answer}
use Rattle.answers.specs.declared.Answer.TheVariants as Answer'
use Rattle.parse.specs.Reads.{inside, u16_at, read_u32}
use Rattle.parse.specs.Use.{on_u32}
use Rattle.parse.proofs.Laws.{inside-fits}
use Rattle.line.specs.Changes.{glyphs_of}
use Rattle.machine.specs.Pass.{is_done}
use Rattle.insertion.specs.Lists.{list_from, glyph_list, entered_by, insertion_of, count_of, glyphs_at}
use Rattle.insertion.specs.Work.{end_of}
use Rattle.insertion.specs.declared.Listed.{Listed}
use Rattle.insertion.specs.declared.Listed.TheVariants as Listed'
use Rattle.insertion.specs.declared.Insertion.{Insertion}

-- where a list that can be read lies
pub data Lies (bytes : List ℕ) (count : ℕ) : Listed → Type 0 where
  none : Lies bytes count Listed'.None
  short : Lies bytes count Listed'.Short
  here : (glyphs : ℕ) → glyphs + count * 2 ≤ length bytes → Lies bytes count (Listed'.At glyphs)

pub lies_from : (bytes : List ℕ) (from count : ℕ) → Lies bytes count (list_from bytes from count)
lies_from bytes from count = go (inside bytes from (count * 2)) refl
  where
    go : (t : Bool) → inside bytes from (count * 2) ≡ t → Lies bytes count (cond t (Listed'.At from) Listed'.Short)
    go true e = here from (inside-fits bytes from (count * 2) e)
    go false e = short

list-lies : (bytes : List ℕ) (number count : ℕ) → Lies bytes count (glyph_list bytes number count)
unfolding glyph_list
list-lies bytes number count = go (eqb number 0xFFFF) (read_u32 bytes 16)
  where
    go : (t : Bool) (r : Option ℕ)
        → Lies bytes count (cond t Listed'.None (on_u32 r (λ glyphs. list_from bytes (glyphs + number * 2) count) Listed'.Short))
    go true r = none
    go false None = short
    go false (Some glyphs) = lies_from bytes (glyphs + number * 2) count

-- an insertion whose glyphs lie in the bytes, and for which a line of this length has room
pub record Fitting (bytes : List ℕ) (used room : ℕ) (edit : Option Insertion) : Type 0 where
  pub inside : end_of edit ≤ length bytes
  pub within : used + count_of edit ≤ room

pub fitting_none : {bytes : List ℕ} {used room : ℕ} → used ≤ room → Fitting bytes used room None
fitting_none h = record { inside = omega arith; within = omega arith }

-- an insertion is made where it fits; what ends the step before it is not DONE
pub data Tries (bytes : List ℕ) (used room : ℕ) : Result (Option Insertion) Answer → Type 0 where
  made : (edit : Option Insertion) → Fitting bytes used room edit → Tries bytes used room (Ok edit)
  over : (answer : Answer) → is_done answer ≡ false → Tries bytes used room (Err answer)

pub entered_tries : (bytes : List ℕ) {listed : Listed} (place count used room : ℕ) → used ≤ room → Lies bytes count listed
    → Tries bytes used room (entered_by listed place count used room)
unfolding entered_by
entered_tries bytes place count used room h none = made None (fitting_none h)
entered_tries bytes place count used room h short = over Answer'.Ended refl
entered_tries bytes place count used room h (here glyphs lies) = go (ltb room (used + count)) refl
  where
    go : (t : Bool) → ltb room (used + count) ≡ t
        → Tries bytes used room (cond t (Err Answer'.Full) (Ok (Some (record { place = place; count = count; glyphs = glyphs }))))
    go true e = over Answer'.Full refl
    go false e = made (Some (record { place = place; count = count; glyphs = glyphs })) (record { inside = lies; within = ltb-false room (used + count) e })

pub insertion_tries : (bytes : List ℕ) (number count place used room : ℕ) → used ≤ room
    → Tries bytes used room (insertion_of bytes number count place used room)
insertion_tries bytes number count place used room h =
    entered_tries bytes place count used room h (list-lies bytes number count)

-- the same of what the code has
pub made-fits : (bytes : List ℕ) (used room : ℕ) {t : Result (Option Insertion) Answer} (edit : Option Insertion) → Tries bytes used room t → t ≡ Ok edit
    → Fitting bytes used room edit
made-fits bytes used room edit (made e f) p = rw (same e p) f
  where
    same : (e : Option Insertion) → ◌≡◌ {A = Result (Option Insertion) Answer} (Ok e) (Ok edit) → edit ≡ e
    same e p = cc
made-fits bytes used room edit (over answer n) p = let z : ◌≡◌ {A = ℕ} 0 1 = cc in absurd (omega arith)

pub insertion_fits : (bytes : List ℕ) (number count place used room : ℕ) {t : Result (Option Insertion) Answer} (edit : Option Insertion) → used ≤ room
    → t ≡ insertion_of bytes number count place used room → t ≡ Ok edit → Fitting bytes used room edit
insertion_fits bytes number count place used room edit h e p =
    made-fits bytes used room edit (insertion_tries bytes number count place used room h) (sym e ∙ p)

-- the glyphs of a part of the bytes are those that lie there
module _ (bytes : List ℕ) (from count : ℕ) (fits : from + count * 2 ≤ length bytes) where
  pub length_part : length (take (count * 2) (drop from bytes)) ≡ count * 2
  length_part = length-take-le (count * 2) (drop from bytes) (omega (arith, length-drop from bytes))

  byte : (i : ℕ) → i < count * 2 → get_or (take (count * 2) (drop from bytes)) i 0 ≡ get_or bytes (from + i) 0
  byte i h = get_or-take (count * 2) (drop from bytes) i 0 h ∙ get_or-drop from bytes i 0

  number : (k : ℕ) → k < count → u16_at (take (count * 2) (drop from bytes)) (k * 2) ≡ u16_at bytes (from + k * 2)
  number k h =
      ap₂ (λ a b. a * 256 + b) (byte (k * 2) (omega arith))
      (byte (k * 2 + 1) (omega arith) ∙ ap (λ (i : ℕ). get_or bytes i 0) (sym (add_assoc from (k * 2) 1)))

  pub part_glyphs : glyphs_of (take (count * 2) (drop from bytes)) ≡ glyphs_at bytes from count
  unfolding glyphs_of glyphs_at
  part_glyphs =
      let half : length (take (count * 2) (drop from bytes)) / 2 ≡ count = omega (arith, length_part) in
      let long = length-tab (λ k. u16_at (take (count * 2) (drop from bytes)) (k * 2)) (length (take (count * 2) (drop from bytes)) / 2) in
      ext_get_or 0 _ _ (long ∙ half ∙ sym (length-tab _ count))
      (λ k h.
      let below : k < count = omega (arith, half, long, h) in
      get_d_tab _ _ k 0 (omega (arith, half)) ∙ number k below ∙ sym (get_d_tab _ count k 0 below))

pub length-glyphs_at : (bytes : List ℕ) (from count : ℕ) → length (glyphs_at bytes from count) ≡ count
unfolding glyphs_at
length-glyphs_at bytes from count = length-tab _ count

pub part_until : (from size : ℕ) (bytes : List ℕ) → take (from + size - from) (drop from bytes) ≡ take size (drop from bytes)
part_until from size bytes = let e : from + size - from ≡ size = omega arith in ap (λ (n : ℕ). take n (drop from bytes)) e
